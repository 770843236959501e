-- Each case of each answer, and what it says.
use mathlib.Core.List.{[], ◌∷◌, map}
use mathlib.Core.Path.{◌≡◌, refl}
use native.Mathlib.Omega.{arith}
use Rattle.json_model.specs.Bytes.{hex}
use Rattle.json_model.specs.Reading.{halt, done}
use Rattle.json_model.specs.declared.Refusal.{Refusal}
use Rattle.binary_json_rules.specs.Lookup as Finds
use Rattle.binary_json_answers.specs.Told.{told_sized, told_tree, told_member, told_type, told_span, SpanInside, told_bits, told_scan, told_lookup}
use Rattle.std.specs.Prelude.{Some, None, Ok, Err}
use Rattle.binary_json_answers.specs.declared.Sized.{Sized}
use Rattle.binary_json_answers.specs.declared.Typed.{Typed}

-- number 20 at place 4
abbrev refusal : Refusal
refusal = record { place = 4; number = 20 }

pub sized_say :
    map told_sized (Ok (Sized.Array 7) ∷ Ok (Sized.Object 7) ∷ Ok (Sized.Scalar 1) ∷ Err refusal ∷ [])
    ≡ done (record { kind = 0; size = 7 }) tt ∷ done (record { kind = 1; size = 7 }) tt ∷ done (record { kind = 2; size = 1 }) tt ∷ halt 20 4 tt ∷ []
sized_say = refl

pub trees_say : map told_tree (Ok (record { 0 = 8 }) ∷ Err refusal ∷ []) ≡ done 8 tt ∷ halt 20 4 tt ∷ []
trees_say = refl

pub members_say : map told_member (Ok (record { slot = record { 0 = 40 }; entry = record { 0 = 8 } }) ∷ Err refusal ∷ []) ≡ done (record { slot = 40; entry = 8 }) tt ∷ halt 20 4 tt ∷ []
members_say = refl

pub types_say :
    map told_type (Ok Typed.False ∷ Ok Typed.True ∷ Ok Typed.Null ∷ Ok Typed.String ∷ Ok Typed.Number ∷ Ok Typed.Container ∷ Err refusal ∷ [])
    ≡ done 0 tt ∷ done 1 tt ∷ done 2 tt ∷ done 3 tt ∷ done 4 tt ∷ done 5 tt ∷ halt 20 4 tt ∷ []
types_say = refl

pub spans_say : map told_span (Ok (record { place = 40; len = 2 }) ∷ Err refusal ∷ []) ≡ done (record { place = 40; len = 2 }) tt ∷ halt 20 4 tt ∷ []
spans_say = refl

-- 2 bytes from 1 on lie inside 3 bytes, 3 do not; a refusal claims nothing
pub spans_inside : SpanInside (hex 3 0x010203) (Ok (record { place = 1; len = 2 })) × (SpanInside (hex 3 0x010203) (Ok (record { place = 1; len = 3 })) → ⊥) × (SpanInside (hex 3 0x010203) (Ok (record { place = 2; len = 2 })) → ⊥) × SpanInside (hex 3 0x010203) (Err refusal)
spans_inside = (omega arith, (λ h. omega arith), (λ h. omega arith), tt)

pub bits_say : map told_bits (Ok 9 ∷ Err refusal ∷ []) ≡ done 9 tt ∷ halt 20 4 tt ∷ []
bits_say = refl

pub scans_say :
    map told_scan (Ok (Some (record { 0 = 8 })) ∷ Ok None ∷ Err refusal ∷ []) ≡ done (Finds.entry 8) tt ∷ done Finds.absent tt ∷ halt 20 4 tt ∷ []
scans_say = refl

-- both counts, the first before the second; a refusal has 0 and 0
pub lookups_say :
    map told_lookup (Ok (record { entry = Some (record { 0 = 8 }); first = 3; second = 2 }) ∷ Ok (record { entry = None; first = 3; second = 2 }) ∷ Err refusal ∷ [])
    ≡ record { answer = done (Finds.entry 8) tt; first = 3; second = 2 } ∷ record { answer = done Finds.absent tt; first = 3; second = 2 } ∷ record { answer = halt 20 4 tt; first = 0; second = 0 } ∷ []
lookups_say = refl
