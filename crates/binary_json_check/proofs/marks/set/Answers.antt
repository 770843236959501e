use Rattle.binary_json_check.proofs.MarkLaws.{loop_laws}
use Rattle.binary_json_check.proofs.marks.set.Goals as goal

pub returns : goal.returns
returns g c = search loop_laws
