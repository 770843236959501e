-- Writing texts one after the other, and decimal digits.
use mathlib.Core.Path.{◌≡◌, refl, sym, ◌∙◌}
use mathlib.Core.List.{List, [], ◌∷◌, ◌++◌}
use Prim.Native.Nat.{ℕ, suc, ◌+◌, ◌^◌, ◌<◌, ◌≤◌}
use native.Mathlib.Nat.{add-zero}
use native.Mathlib.Omega.{arith}
use borrow.Author.Rules.{rules}
use borrow.Author.Tests.{lt-ltb, le-ltb}
use lib.ListN.{length, take, drop, set, length-append}
use mir.Syntax.{w64}
use mir.Val.{Fits}
use lib.Seq.{sets, sets-eq}
use Rattle.std.specs.Fmt as Fmt
use Rattle.std.proofs.lemmas.Fmt.{AppendsLastDigit, decimal_from_appends, length-decimal-le}
use Rattle.json_model.specs.Choose.{choose}
use Rattle.json_model.specs.Reading.{told}
use Rattle.json_model.specs.declared.Refusal.{Refusal}
use Rattle.std.specs.Prelude.{Result, Ok, Err}
use Rattle.frame_rules.specs.Frame as Frame
use Rattle.frame_rules.specs.Texts.{ascii, digits, decimal, verdict_text, said, answer_text, total_text}
use Rattle.frame.specs.Told.{told_answer}
use Rattle.frame.specs.declared.Answer.{Answer}
use Rattle.frame.specs.Written.{Written}

-- ---- one text after the other

sets_append : (l : List ℕ) (i : ℕ) (a b : List ℕ) → sets l i (a ++ b) ≡ sets (sets l i a) (i + length a) b
sets_append l i [] b = rw add-zero
sets_append l i (x ∷ a) b =
    let e : suc i + length a ≡ i + suc (length a) = omega arith in
    sets_append (set l i x) (suc i) a b ∙ rw e

pub joined : (o₀ o₁ o₂ : List ℕ) (at p q : ℕ) (a b : List ℕ) → Written o₀ at a o₁ p → Written o₁ p b o₂ q → Written o₀ at (a ++ b) o₂ q
unfolding Written
joined o₀ o₁ o₂ at p q a b (w, e) (v, f) =
    let l = length-append a b in
    (v ∙ rw (w, e) (sym (sets_append o₀ at a b)), omega arith)

-- a text as a whole
pub text_written : (o text : List ℕ) (at : ℕ) → at + length text ≤ length o → Written o at text (take at o ++ text ++ drop (at + length text) o) (at + length text)
unfolding Written
text_written o text at h = (sym (sets-eq text o at h), refl)

pub ruleset put_laws = (text_written, rules)

-- ---- decimal digits

digits_append : AppendsLastDigit digits
unfolding digits choose
digits_append = record { one = λ k n h. rw (lt-ltb n 10 h); more = λ k n h. rw (le-ltb n 10 h) }

-- std's digits are the bench's
decimals_agree : (n : ℕ) → n < 2 ^ 64 → decimal n ≡ Fmt.decimal n
unfolding decimal
decimals_agree n h = decimal_from_appends digits digits_append 20 n h (length-decimal-le 20 n (omega arith) (omega arith) h)

pub decimal_written : (o after t : List ℕ) (at end n : ℕ) → Fits w64 n → t ≡ Fmt.decimal n → Written o at t after end → Written o at (decimal n) after end
decimal_written o after t at end n h e w = rw (decimals_agree n h.fits, sym e) w

pub ruleset decimal_laws = (decimal_written, rules)

-- ---- lines

module _ (o₀ o₁ : List ℕ) (at p : ℕ) where
  module _ (v : Result (Unit {0}) Refusal) where
    pub accepted_text : v ≡ Ok tt → Written o₀ at (ascii " ok\n") o₁ p → Written o₀ at (verdict_text (told v)) o₁ p
    unfolding verdict_text
    accepted_text e w = rw e w

    pub refused_text : (r : Refusal) (o₂ o₃ : List ℕ) (q end : ℕ) → v ≡ Err r
        → Written o₀ at (ascii " no " ++ decimal r.number) o₁ p → Written o₁ p (ascii " " ++ decimal r.place) o₂ q → Written o₂ q (ascii "\n") o₃ end
        → Written o₀ at (verdict_text (told v)) o₃ end
    unfolding verdict_text
    refused_text r o₂ o₃ q end e w x y = rw e (joined o₀ o₂ o₃ at q end _ _ (joined o₀ o₁ o₂ at p q _ _ w x) y)

  module _ (a : Answer) where
    pub long_text : a ≡ Answer.Long → Written o₀ at (ascii " long\n") o₁ p → Written o₀ at (said (told_answer a)) o₁ p
    unfolding said
    long_text e w = rw e w

    pub hex_text : a ≡ Answer.Hex → Written o₀ at (ascii " hex\n") o₁ p → Written o₀ at (said (told_answer a)) o₁ p
    unfolding said
    hex_text e w = rw e w

    module _ (v : Result (Unit {0}) Refusal) (o₂ : List ℕ) (q : ℕ) (x : Written o₁ p (verdict_text (told v)) o₂ q) where
      pub binary_text : a ≡ Answer.Binary v → Written o₀ at (ascii " B") o₁ p → Written o₀ at (said (told_answer a)) o₂ q
      unfolding said
      binary_text e w = rw e (joined o₀ o₁ o₂ at p q _ _ w x)

      pub fractured_text : a ≡ Answer.Fractured v → Written o₀ at (ascii " F") o₁ p → Written o₀ at (said (told_answer a)) o₂ q
      unfolding said
      fractured_text e w = rw e (joined o₀ o₁ o₂ at p q _ _ w x)

pub answer_text_lem : (o₀ o₁ o₂ : List ℕ) (p q n : ℕ) (a : Frame.Answer) → Written o₀ 0 (decimal n) o₁ p → Written o₁ p (said a) o₂ q
    → Written o₀ 0 (answer_text n a) o₂ q
unfolding answer_text
answer_text_lem o₀ o₁ o₂ p q n a w x = joined o₀ o₁ o₂ 0 p q (decimal n) (said a) w x

pub total_text_lem : (o₀ o₁ o₂ o₃ : List ℕ) (p q end frames ok : ℕ) → Written o₀ 0 (ascii "total " ++ decimal frames) o₁ p
    → Written o₁ p (ascii " ok " ++ decimal ok) o₂ q → Written o₂ q (ascii "\n") o₃ end → Written o₀ 0 (total_text frames ok) o₃ end
unfolding total_text
total_text_lem o₀ o₁ o₂ o₃ p q end frames ok w x y = joined o₀ o₂ o₃ 0 q end _ _ (joined o₀ o₁ o₂ 0 p q _ _ w x) y

pub ruleset line_laws = (joined, accepted_text, refused_text, long_text, hex_text, binary_text, fractured_text, answer_text_lem, total_text_lem, rules)
