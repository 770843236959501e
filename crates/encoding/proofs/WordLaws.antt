-- Words written over the first of the lent ones.
use mathlib.Core.Path.{◌≡◌, sym, ap}
use mathlib.Core.List.{List, ◌++◌}
use Prim.Native.Nat.{ℕ, ◌+◌, ◌≤◌}
use native.Mathlib.Omega.{arith}
use borrow.Author.Rules.{rules}
use lib.ListN.{length, drop}
use Rattle.std.proofs.lemmas.List.Edits.{sets, sets-eq}
use Rattle.encoding.specs.Encoding.{code, hands, given}

pub values_written : (words values : List ℕ) (r : ℕ) → length values ≤ length words → hands r (values ++ drop (length values) words) ≡ given words (code r values)
unfolding given
values_written words values r h =
    let z : 0 + length values ≡ length values = omega arith in
    let e : sets words 0 values ≡ values ++ drop (length values) words = rw z at (sets-eq values words 0 (omega arith)) in
    ap (hands r) (sym e)

pub ruleset word_laws = (values_written, rules)
