use Rattle.fractured_json_check.proofs.Checks.{check_laws}
use Rattle.fractured_json_check.proofs.check_both.Goals as goal

pub returns : goal.returns
returns c = search (check_laws, c.in_ok-check_list.ensures)
