-- What the function that reads an Entry of one type says.
use Rattle.std.specs.Prelude.{ℕ, List, ◌≡◌, eqb, Result, Ok, Err}
use Rattle.json_model.specs.Reading.{Reading, ask, answers, refuses, ◌>>=◌, need}
use Rattle.json_model.specs.declared.Refusal.{Refusal}
use Rattle.binary_json_rules.specs.Areas.{low, high}
use Rattle.binary_json_rules.specs.Questions.{tree_word}

-- an Entry of type k stands at the cursor c
unfoldable pub entry_of_type : List ℕ → ℕ → ℕ → Reading (Unit {0}) (Unit {0})
entry_of_type doc c k = tree_word doc c c >>= λ _. need (eqb (low doc c) k) 21 c

-- its value
abbrev pub ValueRead : List ℕ → ℕ → ℕ → Result ℕ Refusal → Type 0
ValueRead doc c k (Ok v) = (v ≡ high doc c) × (ask (entry_of_type doc c k) ≡ answers tt)
ValueRead doc c k (Err r) = ask (entry_of_type doc c k) ≡ refuses r.number r.place
