-- An object of a document, as the functions that ask it hold it.
use Rattle.std.specs.Prelude.{ℕ, ◌+◌, ◌*◌, ◌≤◌, List, ◌≡◌}
use Rattle.json_model.specs.Reading.{ask, answers}
use Rattle.binary_json_rules.specs.Questions.{object_here}
use Rattle.binary_json_areas.specs.Laid.{Laid}
use Rattle.binary_json_areas.specs.declared.areas.Areas.{Areas}

-- an object of n members at c, in a document whose areas are a
pub record ObjectAt (doc : List ℕ) (a : Areas) (c n : ℕ) : Type 0 where
  pub laid : Laid doc a
  pub answered : ask (object_here doc c) ≡ answers n
  pub inside : c + 4 + 4 * (2 * n) ≤ a.index
