use Rattle.binary_json_check.proofs.MarkLaws.{ends_laws}
use Rattle.binary_json_check.proofs.marks.ends_clear.Goals as goal

pub returns-then-first-ne0 : goal.returns-then-first-ne0
returns-then-first-ne0 g c = search ends_laws
