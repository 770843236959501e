-- The walk ends since the levels fall from a container to those below it; the loop's invariant is `Entered`.
use Rattle.std.proofs.Common.{◌+◌, ◌*◌}
use Rattle.binary_json_check.proofs.Walks.{Entered}
use Rattle.binary_json_check.proofs.walk.+subtree_walk_container.Given as goal

abbrev pub decreases-subtree : goal.decreases-subtree
decreases-subtree l = 2 * l.below + 1

abbrev pub decreases-walk_container : goal.decreases-walk_container
decreases-walk_container l = 2 * l.levels

abbrev pub invariant-walk_container-loop-k : goal.invariant-walk_container-loop-k
invariant-walk_container-loop-k l = Entered l.d.bytes.now l.d.areas l.levels l.o l.first l.count l.initial.marks l.k l.marks
