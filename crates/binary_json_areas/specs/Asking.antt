-- What the functions that begin every question say to one another.
use Rattle.std.specs.Prelude.{ℕ, ◌+◌, ◌^◌, ◌≤◌, ◌<◌, Bool, true, false, List, ◌≡◌, Result, Ok, Err}
use Rattle.json_model.specs.Reading.{ask, answers, refuses}
use Rattle.binary_json_rules.specs.Areas.{low, high}
use Rattle.binary_json_rules.specs.Questions.{opening, tree_word}
use Rattle.binary_json_areas.specs.declared.areas.Areas.{Areas}
use Rattle.binary_json_areas.specs.declared.document.Document.{Document}
use Rattle.json_model.specs.declared.Refusal.{Refusal}
use Rattle.word.specs.declared.Fields.{Fields}

-- a document that is open for a question at the cursor c
abbrev pub Opens : List ℕ → ℕ → Result Document Refusal → Type 0
Opens doc c (Ok d) = (d.bytes.now ≡ doc) × (ask (opening doc c) ≡ answers tt)
Opens doc c (Err r) = ask (opening doc c) ≡ refuses r.number r.place

-- whether a word of the tree stands at a place, whatever cursor the caller refuses at
abbrev pub WordNamed : List ℕ → Areas → ℕ → Bool → Type 0
WordNamed doc a at true = (at + 4 ≤ a.index) × ((c : ℕ) → ask (tree_word doc at c) ≡ answers tt)
WordNamed doc a at false = (c : ℕ) → ask (tree_word doc at c) ≡ refuses 20 c

-- a word of the tree stands at the cursor c, with the fields k and v
pub record WordAt (doc : List ℕ) (a : Areas) (c k v : ℕ) : Type 0 where
  pub low_is : k ≡ low doc c
  pub high_is : v ≡ high doc c
  pub small : v < 2 ^ 27
  pub inside : c + 4 ≤ a.index
  pub there : ask (tree_word doc c c) ≡ answers tt

abbrev pub WordRead : List ℕ → Areas → ℕ → Result Fields Refusal → Type 0
WordRead doc a c (Ok f) = WordAt doc a c f.low f.high
WordRead doc a c (Err r) = ask (tree_word doc c c) ≡ refuses r.number r.place
