-- What the function that finds an object says.
use Rattle.std.specs.Prelude.{ℕ, ◌≡◌, Result, Ok, Err}
use Rattle.json_model.specs.Reading.{ask, refuses}
use Rattle.json_model.specs.declared.Refusal.{Refusal}
use Rattle.binary_json_rules.specs.Questions.{object_here}
use Rattle.binary_json_areas.specs.declared.document.Document.{Document}
use Rattle.binary_json_metas.specs.declared.object.Object.{Object}

-- the object at the cursor c of the open document d
abbrev pub ObjectRead : Document → ℕ → Result Object Refusal → Type 0
ObjectRead d c (Ok o) = (o.document ≡ d) × (o.place ≡ c)
ObjectRead d c (Err r) = ask (object_here d.bytes.now c) ≡ refuses r.number r.place
