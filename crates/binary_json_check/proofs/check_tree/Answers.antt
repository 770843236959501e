use Rattle.binary_json_check.proofs.Checks.{tree_laws}
use Rattle.binary_json_check.proofs.check_tree.Goals as goal

pub returns-then-marks-words : goal.returns-then-marks-words
returns-then-marks-words c = rw c.refuse-then-marks-words.ensures (search tree_laws)

pub returns : goal.returns
returns c = search tree_laws
