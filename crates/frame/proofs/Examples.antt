-- What the code's answers say, and what decoding a line and writing a text leave.
use Prim.Native.Nat.{ℕ}
use mathlib.Core.Bool.{true, false}
use mathlib.Core.List.{[], ◌∷◌, map}
use mathlib.Core.Path.{◌≡◌, refl}
use native.Mathlib.Omega.{arith}
use Rattle.json_model.specs.Choose.{choose}
use Rattle.json_model.specs.Reading.{halt, done}
use Rattle.std.specs.Prelude.{Result, Ok, Err}
use Rattle.json_model.specs.declared.Refusal.{Refusal}
use Rattle.frame_rules.specs.Frame as Frame
use Rattle.frame_rules.specs.Frame.{nibble, bytes_of}
use Rattle.frame_rules.specs.Texts.{ascii}
use Rattle.frame.specs.Told.{told_answer}
use Rattle.frame.specs.Decoded.{Decoded}
use Rattle.frame.specs.Written.{Written}
use Rattle.frame.specs.declared.Answer.{Answer}

-- each case of an answer
abbrev refused : Result (Unit {0}) Refusal
refused = Err (record { place = 16; number = 5 })

pub answers_say :
    map told_answer (Answer.Long ∷ Answer.Hex ∷ Answer.Binary (Ok tt) ∷ Answer.Binary refused ∷ Answer.Fractured (Ok tt) ∷ Answer.Fractured refused ∷ [])
    ≡ Frame.long ∷ Frame.hex ∷ Frame.binary (done tt tt) ∷ Frame.binary (halt 5 16 tt) ∷ Frame.fractured (done tt tt) ∷ Frame.fractured (halt 5 16 tt) ∷ []
answers_say = refl

-- two characters a byte, at the start of the bytes lent; false only for a line that stands for nothing
pub decoded :
    Decoded (ascii "464A") (0x46 ∷ 0x4A ∷ 9 ∷ []) true × Decoded [] (9 ∷ []) true × Decoded (ascii "4") (9 ∷ []) false × Decoded (ascii "4G") (9 ∷ []) false
unfolding bytes_of nibble choose
decoded = (refl, refl, refl, refl)

pub not_decoded : (Decoded (ascii "464A") (0x46 ∷ 0x4B ∷ 9 ∷ []) true → ⊥) × (Decoded (ascii "4G") (0x46 ∷ []) true → ⊥) × (Decoded (ascii "46") (0x46 ∷ []) false → ⊥)
unfolding bytes_of nibble choose
not_decoded = (
  (λ h. let e : ◌≡◌ {A = ℕ} 0x4A 0x4B = cc in omega arith),
  (λ h. let e : ◌≡◌ {A = ℕ} 0 1 = cc in omega arith),
  (λ h. let e : ◌≡◌ {A = ℕ} 0 1 = cc in omega arith),
)

-- a text over the bytes from 1 on, which ends at 3; the bytes before and after it stay
pub written : Written (1 ∷ 2 ∷ 3 ∷ 4 ∷ []) 1 (8 ∷ 9 ∷ []) (1 ∷ 8 ∷ 9 ∷ 4 ∷ []) 3
unfolding Written
written = (refl, refl)

pub not_written :
    (Written (1 ∷ 2 ∷ 3 ∷ 4 ∷ []) 1 (8 ∷ 9 ∷ []) (1 ∷ 8 ∷ 9 ∷ 4 ∷ []) 2 → ⊥) × (Written (1 ∷ 2 ∷ 3 ∷ 4 ∷ []) 1 (8 ∷ 9 ∷ []) (1 ∷ 8 ∷ 9 ∷ 5 ∷ []) 3 → ⊥)
    × (Written (1 ∷ 2 ∷ 3 ∷ 4 ∷ []) 1 (8 ∷ 9 ∷ []) (8 ∷ 9 ∷ 3 ∷ 4 ∷ []) 3 → ⊥)
unfolding Written
not_written = (
  (λ h. let e = h.1 in omega arith),
  (λ h. let w = h.0 in let e : ◌≡◌ {A = ℕ} 5 4 = cc in omega arith),
  (λ h. let w = h.0 in let e : ◌≡◌ {A = ℕ} 8 1 = cc in omega arith),
)
