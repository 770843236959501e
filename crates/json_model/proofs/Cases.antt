-- The case of an answer, from what it says: of the code's verdict, and of any answer that a definition gives back.
use Prim.Native.Nat.{ℕ}
use mathlib.Core.Logic.{◌↔◌}
use mathlib.Core.Path.{◌≡◌, refl, sym, ap, ◌∙◌}
use Rattle.json_model.specs.Reading.{halt, done, Asked, told}
use Rattle.json_model.specs.declared.Refusal.{Refusal}
use Rattle.std.specs.Prelude.{Result, Ok, Err}

abbrev pub refusal : ℕ → ℕ → Refusal
refusal n p = record { number = n; place = p }

abbrev pub verdict_is : Asked (Unit {0}) → Result (Unit {0}) Refusal
verdict_is (halt n p u) = Err (refusal n p)
verdict_is (done a u) = Ok a

pub verdict_is_lem : (r : Result (Unit {0}) Refusal) → verdict_is (told r) ≡ r
verdict_is_lem (Ok tt) = refl
verdict_is_lem (Err r) = refl

-- An answer r whose contract is `says r ≡ q` is the case a exactly if the rule q says what a says. For a refusal a: the code
-- refuses with a number and place exactly if the rule does.
pub answered_exactly : {R A : Type 0} (says : R → Asked A) (back : Asked A → R) → ((r : R) → back (says r) ≡ r) → {q : Asked A} (r : R) → says r ≡ q → (a : R)
    → (r ≡ a) ↔ (q ≡ says a)
answered_exactly says back same r e a = (λ b. sym e ∙ ap says b, λ b. sym (same r) ∙ (ap back (e ∙ b) ∙ same a))
