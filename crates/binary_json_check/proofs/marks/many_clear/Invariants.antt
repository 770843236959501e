use mathlib.Core.Path.{◌≡◌}
use Prim.Native.Nat.{◌-◌, ◌*◌}
use lib.ListN.{length}
use Rattle.binary_json_rules.specs.Marks.{clear}
use Rattle.binary_json_check.proofs.marks.many_clear.Given as goal

abbrev pub invariant-loop-i : goal.invariant-loop-i
invariant-loop-i l =
    clear l.body (8 * l.i) (length l.body - 8 * l.i) ≡ clear l.body 0 (length l.body)
