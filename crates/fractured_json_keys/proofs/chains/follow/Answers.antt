use Rattle.fractured_json_keys.proofs.ChainLaws.{follow_laws}
use Rattle.fractured_json_keys.proofs.chains.follow.Goals as goal

pub loop-preserved : goal.loop-preserved
loop-preserved c = search follow_laws
