-- Handing an answer over: too few words, or the answer itself.
use mathlib.Core.Path.{◌≡◌}
use mathlib.Core.List.{List}
use Prim.Native.Nat.{ℕ, ◌≤◌, ◌<◌}
use borrow.Author.Tests.{lt-ltb, le-ltb}
use lib.Dec.{ltb}
use lib.ListN.{length}
use Rattle.json_model.specs.Choose.{choose}
use Rattle.binary_json_check.proofs.Told.{verdict_told, marks_told}
use Rattle.encoding.specs.Encoding.{Coded, hands, given, handed}

pub too_few : (need : ℕ) (words : List ℕ) (c : Coded) → length words < need → handed need words c ≡ hands 255 words
unfolding handed choose
too_few need words c h = rw (lt-ltb (length words) need h)

pub enough : (need : ℕ) (words : List ℕ) (c : Coded) → need ≤ length words → handed need words c ≡ given words c
unfolding handed choose
enough need words c h = rw (le-ltb (length words) need h)

-- what else is lent stays, or is written
pub stays : (need : ℕ) (words lent written : List ℕ) → length words < need → choose (ltb (length words) need) lent written ≡ lent
unfolding choose
stays need words lent written h = rw (lt-ltb (length words) need h)

pub written_over : (need : ℕ) (words lent written : List ℕ) → need ≤ length words → choose (ltb (length words) need) lent written ≡ written
unfolding choose
written_over need words lent written h = rw (le-ltb (length words) need h)

-- with the verdict and the marks of a check
pub ruleset handing_laws = (too_few, enough, stays, written_over, verdict_told, marks_told)
