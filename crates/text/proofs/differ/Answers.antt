use Rattle.text.proofs.Laws.{eights_laws}
use Rattle.text.proofs.differ.Goals as goal

pub returns-then-x-y : goal.returns-then-x-y
returns-then-x-y c = search eights_laws

pub returns : goal.returns
returns c = search eights_laws
