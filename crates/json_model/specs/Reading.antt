-- Reading that may be refused: docs/format/REFUSALS.md, section 1. A rule is one line `need TEST NUMBER PLACE`: where
-- the test fails, reading stops there with that number and place, so the first failed rule wins.
use Rattle.std.specs.Prelude.{ℕ, Bool, true, false, Result, Ok, Err}
use Rattle.json_model.specs.declared.Refusal.{Refusal}

-- How a reading ends: stopped by a refusal with its number and place, or done with an answer. S is what a reading keeps
-- on its way (the lent marks for BinaryJson, the keys passed for Fractured JSON, nothing for the questions), and it is
-- known in both cases.
pub data Outcome (S A : Type 0) : Type 0 where
  halt : (number place : ℕ) → S → Outcome S A
  done : A → S → Outcome S A

abbrev pub Reading : Type 0 → Type 0 → Type 0
Reading S A = S → Outcome S A

abbrev pub answer : {S A : Type 0} → A → Reading S A
answer a = λ s. done a s

abbrev pub refuse : {S A : Type 0} → ℕ → ℕ → Reading S A
refuse number place = λ s. halt number place s

unfoldable pub follow : {S A B : Type 0} → Outcome S A → (A → Reading S B) → Outcome S B
follow (halt number place s) next = halt number place s
follow (done a s) next = next a s

-- one reading, and then the next; a refusal ends both
infixl 20 ◌>>=◌
unfoldable pub ◌>>=◌ : {S A B : Type 0} → Reading S A → (A → Reading S B) → Reading S B
◌>>=◌ first next = λ s. follow (first s) next

infixl 20 ◌>>◌
abbrev pub ◌>>◌ : {S B : Type 0} → Reading S (Unit {0}) → Reading S B → Reading S B
◌>>◌ first next = first >>= λ _. next

-- refuse unless the test passes
unfoldable pub need : {S : Type 0} → Bool → ℕ → ℕ → Reading S (Unit {0})
need true number place = answer tt
need false number place = refuse number place

-- what is kept, and keeping something else
abbrev pub kept : {S : Type 0} → Reading S S
kept = λ s. done s s

abbrev pub keep : {S : Type 0} → S → Reading S (Unit {0})
keep s = λ _. done tt s

-- ---- readings that keep nothing

abbrev pub Asked : Type 0 → Type 0
Asked A = Outcome (Unit {0}) A

abbrev pub ask : {A : Type 0} → Reading (Unit {0}) A → Asked A
ask reading = reading tt

abbrev pub answers : {A : Type 0} → A → Asked A
answers a = done a tt

abbrev pub refuses : {A : Type 0} → ℕ → ℕ → Asked A
refuses number place = halt number place tt

-- ---- what a reading has kept, and what it says without that, however it ends

abbrev pub kept_of : {S A : Type 0} → Outcome S A → S
kept_of (halt number place s) = s
kept_of (done a s) = s

abbrev pub verdict_of : {S A : Type 0} → Outcome S A → Asked A
verdict_of (halt number place s) = refuses number place
verdict_of (done a s) = answers a

-- ---- what the code answers: a refusal has its number and place, and `says` gives an answer its values

abbrev pub told_by : {T A : Type 0} → (T → A) → Result T Refusal → Asked A
told_by says (Ok a) = answers (says a)
told_by says (Err r) = refuses r.number r.place

-- the verdict of a check
abbrev pub told : Result (Unit {0}) Refusal → Asked (Unit {0})
told = told_by (λ _. tt)
