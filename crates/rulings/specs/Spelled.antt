-- How words and numbers are spelled.
use Rattle.std.specs.Prelude.{ℕ, List, ◌∷◌, decimal, codes}
use Rattle.rulings.specs.declared.spell.Word.{Word}
use Rattle.rulings.specs.declared.spell.Word.TheVariants as word

abbrev pub spelling : Word → List ℕ
spelling word.Answered = codes "ok"
spelling word.Absent = codes "absent"
spelling word.Refused = codes "no"
spelling word.Null = codes "ok null"
spelling word.False = codes "ok false"
spelling word.True = codes "ok true"
spelling word.Number = codes "ok number"
spelling word.String = codes "ok string"
spelling word.Object = codes "ok object"
spelling word.Array = codes "ok array"

-- a number after a space
abbrev pub spaced : ℕ → List ℕ
spaced x = 32 ∷ decimal x
