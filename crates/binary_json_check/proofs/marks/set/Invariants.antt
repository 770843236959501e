use mathlib.Core.Path.{◌≡◌}
use Prim.Native.Nat.{◌-◌}
use Rattle.binary_json_rules.specs.Marks.{fill}
use Rattle.binary_json_check.proofs.marks.set.Given as goal

abbrev pub invariant-loop-i : goal.invariant-loop-i
invariant-loop-i g l = fill l.part l.i (g.row.N - l.i) 1 ≡ fill l.initial.part 0 g.row.N 1
