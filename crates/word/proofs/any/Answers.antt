use Rattle.word.proofs.Laws.{integer_laws}
use Rattle.word.proofs.any.Goals as goal

pub loop-k-preserved : goal.loop-k-preserved
loop-k-preserved c = search integer_laws
