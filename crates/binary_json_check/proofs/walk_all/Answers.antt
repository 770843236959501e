use Rattle.binary_json_check.proofs.Checks.{all_laws}
use Rattle.binary_json_check.proofs.walk_all.Goals as goal

pub walk_root-requires : goal.walk_root-requires
walk_root-requires c = search all_laws
