use mathlib.Core.Path.{◌≡◌}
use Prim.Native.Nat.{◌-◌, ◌*◌}
use lib.ListN.{length}
use Rattle.binary_json_rules.specs.Marks.{unmarked}
use Rattle.binary_json_check.proofs.marks.first_unmarked.Given as goal

abbrev pub invariant-loop-i : goal.invariant-loop-i
invariant-loop-i l =
    unmarked l.words (8 * l.i) (length l.words - 8 * l.i) ≡ unmarked l.words 0 (length l.words)
