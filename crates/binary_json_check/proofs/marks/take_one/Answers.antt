use Rattle.binary_json_check.proofs.MarkLaws.{take_laws}
use Rattle.binary_json_check.proofs.marks.take_one.Goals as goal

pub returns : goal.returns
returns c = search take_laws
