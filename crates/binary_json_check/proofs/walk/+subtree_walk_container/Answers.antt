use Rattle.std.proofs.lemmas.Result.{err_from_is_err_and}
use Rattle.binary_json_check.proofs.Walks.{walk_laws}
use Rattle.binary_json_check.proofs.walk.+subtree_walk_container.Goals as goal

pub walk_container-loop-k-init : goal.walk_container-loop-k-init
walk_container-loop-k-init t c = search (walk_laws, c.in_ok-first.ensures)

pub walk_container-returns-in_err-subtree : goal.walk_container-returns-in_err-subtree
walk_container-returns-in_err-subtree t c = let p = err_from_is_err_and c.from_residual-in_err-subtree.result c.from_residual-in_err-subtree.ensures.1 in rw (p.1, p.2) (search (walk_laws, c.in_ok-first.ensures, c.in_err-subtree.ensures))

pub walk_container-loop-k-preserved : goal.walk_container-loop-k-preserved
walk_container-loop-k-preserved t c = search (walk_laws, c.in_ok-subtree.ensures)

pub walk_container-returns : goal.walk_container-returns
walk_container-returns t c = search (walk_laws, c.in_ok-first.ensures)
