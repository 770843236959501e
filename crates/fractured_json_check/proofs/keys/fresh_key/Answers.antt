use Rattle.fractured_json_check.proofs.CheckedKeys.{fresh_laws}
use Rattle.fractured_json_check.proofs.keys.fresh_key.Goals as goal

pub store-requires : goal.store-requires
store-requires c = search fresh_laws
