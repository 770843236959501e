use Rattle.binary_json_areas.proofs.Headers.{index_laws}
use Rattle.binary_json_areas.proofs.areas.read_index.Goals as goal

pub returns : goal.returns
returns c = search index_laws
