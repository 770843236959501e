-- The two parts of what the check's answer says: its verdict, and the marks that it left.
use Prim.Native.Nat.{ℕ}
use mathlib.Core.List.{List}
use mathlib.Core.Path.{◌≡◌, refl}
use Rattle.json_model.specs.Reading.{kept_of, verdict_of, told}
use Rattle.json_model.specs.declared.Refusal.{Refusal}
use Rattle.std.specs.Prelude.{Result, Ok, Err}
use Rattle.binary_json_check.specs.Told.{told_marks}

pub verdict_told : (r : Result (Unit {0}) Refusal) (after : List ℕ) → told r ≡ verdict_of (told_marks r after)
verdict_told (Ok tt) after = refl
verdict_told (Err r) after = refl

pub marks_told : (r : Result (Unit {0}) Refusal) (after : List ℕ) → after ≡ kept_of (told_marks r after)
marks_told (Ok tt) after = refl
marks_told (Err r) after = refl
