use Rattle.text.proofs.Laws.{eights_laws}
use Rattle.text.proofs.pass_equal.Goals as goal

pub returns-then-not-same_eight : goal.returns-then-not-same_eight
returns-then-not-same_eight c = search eights_laws
