use Rattle.binary_json_check.proofs.Walks.{mark_laws}
use Rattle.binary_json_check.proofs.walk.mark_body.Goals as goal

pub returns-then-take : goal.returns-then-take
returns-then-take c = search (mark_laws, c.if-take.ensures)
