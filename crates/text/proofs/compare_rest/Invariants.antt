use Rattle.std.proofs.Common.{◌≤◌}
use Rattle.text.specs.Comparing.{ComparesFrom}
use Rattle.text.proofs.compare_rest.Given as goal

abbrev pub invariant-loop-i : goal.invariant-loop-i
invariant-loop-i l = (l.steps ≤ l.i) × ComparesFrom l.a l.b l.i l.steps
