-- What the code knows of a key before it reads it.
use Rattle.std.specs.Prelude.{ℕ, ◌+◌, ◌<◌, Bool, true, List, ◌≡◌, length}
use Rattle.json_model.specs.Reading.{done}
use Rattle.fractured_json_check.specs.Table.{table, key_in}

-- where the answer is yes, the key at o takes one byte, and no key more has been passed after it
unfoldable pub Known : List ℕ → ℕ → ℕ → ℕ → Bool → Type 0
Known doc names count o r = r ≡ true → (o < length doc) × ((words links : List ℕ) → key_in doc names o (table count words links) ≡ done (o + 1) (table count words links))
