-- What the inner functions of the reader say to one another: facts of the areas of a document, as the code holds them.
use Rattle.std.specs.Prelude.{ℕ, ◌+◌, ◌*◌, ◌%◌, ◌≤◌, List, ◌≡◌, leb, length, Result, Ok, Err}
use Rattle.json_model.specs.Limits.{longest}
use Rattle.json_model.specs.Reading.{ask, answers, refuses, need}
use Rattle.binary_json_rules.specs.Areas.{index, count, slot, numbers}
use Rattle.binary_json_rules.specs.Verdict.{header, slots}
use Rattle.binary_json_areas.specs.declared.areas.Areas.{Areas}
use Rattle.json_model.specs.declared.Refusal.{Refusal}

-- a document that keeps rules 1 to 4 but perhaps for its slots, with its string index at i
pub record Begun (doc : List ℕ) (i : ℕ) : Type 0 where
  pub to_slots : ask (header doc) ≡ ask (need (leb (slot doc (count doc)) (length doc)) 4 (index doc))
  pub index_is : i ≡ index doc
  pub short : length doc ≤ longest
  pub least : 8 ≤ i
  pub step : i % 4 ≡ 0
  pub inside : i + 4 ≤ length doc

abbrev pub Indexed : List ℕ → Result ℕ Refusal → Type 0
Indexed doc (Ok i) = Begun doc i
Indexed doc (Err r) = ask (header doc) ≡ refuses r.number r.place

-- a document that keeps rules 1 to 4, with its string index at i and c strings
pub record Framed (doc : List ℕ) (i c : ℕ) : Type 0 where
  pub passes : ask (header doc) ≡ answers tt
  pub index_is : i ≡ index doc
  pub count_is : c ≡ count doc
  pub short : length doc ≤ longest
  pub least : 8 ≤ i
  pub step : i % 4 ≡ 0
  pub slots_inside : i + 4 + 4 * c ≤ length doc

-- the areas of a document that keeps rules 1 to 4 and whose texts end inside it
pub record Laid (doc : List ℕ) (a : Areas) : Type 0 where
  pub framed : Framed doc a.index a.count
  pub numbers_is : a.numbers ≡ numbers doc
  pub texts : a.index + 4 + 4 * a.count ≤ a.numbers
  pub inside : a.numbers ≤ length doc

-- and whose string index keeps rules 5 and 6
pub record Indexes (doc : List ℕ) (a : Areas) : Type 0 where
  pub laid : Laid doc a
  pub slots_pass : ask (slots doc (count doc) 0) ≡ answers tt
