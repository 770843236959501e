-- Both cases of the check's answer, with the marks that it left.
use mathlib.Core.List.{[], ◌∷◌}
use mathlib.Core.Path.{◌≡◌, refl}
use Rattle.json_model.specs.Reading.{halt, done}
use Rattle.std.specs.Prelude.{Ok, Err}
use Rattle.binary_json_check.specs.Told.{told_marks}

pub answers_say :
    (told_marks (Ok tt) (1 ∷ 0 ∷ []) ≡ done tt (1 ∷ 0 ∷ [])) × (told_marks (Err (record { place = 16; number = 5 })) (1 ∷ 0 ∷ []) ≡ halt 5 16 (1 ∷ 0 ∷ []))
answers_say = (refl, refl)
