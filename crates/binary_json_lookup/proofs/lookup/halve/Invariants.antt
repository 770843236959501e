use Prim.Native.Nat.{◌-◌}
use Rattle.binary_json_lookup.proofs.Searches.{Narrowed}
use Rattle.binary_json_lookup.proofs.lookup.halve.Given as goal

abbrev pub invariant-loop-low : goal.invariant-loop-low
invariant-loop-low g l =
    Narrowed (goal.F-post g l.compare) l.n l.low l.high l.turns

abbrev pub decreases-loop-low : goal.decreases-loop-low
decreases-loop-low g l = l.high - l.low
