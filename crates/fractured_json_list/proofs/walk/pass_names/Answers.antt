use Rattle.fractured_json_list.proofs.PassLaws.{names_laws}
use Rattle.fractured_json_list.proofs.walk.pass_names.Goals as goal

pub loop-j-preserved : goal.loop-j-preserved
loop-j-preserved c = search (names_laws, c.in_ok-at.ensures, c.type_inv.list)
