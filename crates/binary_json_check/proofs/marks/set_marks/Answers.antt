use Rattle.binary_json_check.proofs.MarkLaws.{loop_laws}
use Rattle.binary_json_check.proofs.marks.set_marks.Goals as goal

pub returns : goal.returns
returns c = search loop_laws
