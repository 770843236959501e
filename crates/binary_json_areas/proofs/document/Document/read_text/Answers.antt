use Rattle.binary_json_areas.proofs.Naming.{text_laws}
use Rattle.binary_json_areas.proofs.document.Document.read_text.Goals as goal

pub fields_at-f-requires : goal.fields_at-f-requires
fields_at-f-requires c = search text_laws
