use Rattle.binary_json_areas.proofs.Naming.{text_laws}
use Rattle.binary_json_areas.proofs.document.Document.text_start.Goals as goal

pub overflow_sub-v : goal.overflow_sub-v
overflow_sub-v c = search text_laws
