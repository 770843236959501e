use mathlib.Core.Path.{◌≡◌}
use Prim.Native.Nat.{◌-◌}
use lib.ListN.{length}
use Rattle.binary_json_rules.specs.Marks.{fill}
use Rattle.binary_json_check.proofs.marks.set_marks.Given as goal

abbrev pub invariant-loop-mark : goal.invariant-loop-mark
invariant-loop-mark l =
    fill l.part l.mark-index (length l.initial.part - l.mark-index) l.value ≡ fill l.initial.part 0 (length l.initial.part) l.value
