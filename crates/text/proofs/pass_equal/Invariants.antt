use Rattle.std.proofs.Common.{◌*◌, ◌/◌}
use Rattle.text.specs.Comparing.{ComparesFrom}
use Rattle.text.proofs.pass_equal.Given as goal

abbrev pub invariant-loop-k : goal.invariant-loop-k
invariant-loop-k l = ComparesFrom l.a l.b (8 * l.k) (8 * l.k / 8)
