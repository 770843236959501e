-- The check finds this alone; it stands here so that `slots_unbounded` is refused at an answer.
use Rattle.binary_json_areas.proofs.Headers.{header_laws}
use Rattle.binary_json_areas.proofs.areas.read_header.Goals as goal

pub invariant_of-result : goal.invariant_of-result
invariant_of-result c = search header_laws
