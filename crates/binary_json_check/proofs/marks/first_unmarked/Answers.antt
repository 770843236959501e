use Rattle.binary_json_check.proofs.MarkLaws.{loop_laws}
use Rattle.binary_json_check.proofs.marks.first_unmarked.Goals as goal

pub loop-i-preserved : goal.loop-i-preserved
loop-i-preserved c = search loop_laws
