use Rattle.binary_json_areas.proofs.Naming.{number_named_laws}
use Rattle.binary_json_areas.proofs.document.Document.number_named.Goals as goal

pub returns : goal.returns
returns c = search number_named_laws
