-- Both cases of the check's answer, with the number of pairs and the words that it left.
use mathlib.Core.List.{[], ◌∷◌}
use mathlib.Core.Path.{◌≡◌, refl}
use Rattle.json_model.specs.Reading.{halt, done}
use Rattle.std.specs.Prelude.{Ok, Err}
use Rattle.fractured_json_check.specs.Told.{told_checked}

pub answers_say :
    (told_checked (record { verdict = Ok tt; count = 1 }) (5 ∷ 2 ∷ []) ≡ record { verdict = done tt tt; count = 1; words = 5 ∷ 2 ∷ [] })
    × (told_checked (record { verdict = Err (record { place = 16; number = 39 }); count = 1 }) (5 ∷ 2 ∷ []) ≡ record { verdict = halt 39 16 tt; count = 1; words = 5 ∷ 2 ∷ [] })
answers_say = (refl, refl)
