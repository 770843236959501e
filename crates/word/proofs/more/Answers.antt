use Rattle.word.proofs.Laws.{byte_laws}
use Rattle.word.proofs.more.Goals as goal

pub overflow_add-result : goal.overflow_add-result
overflow_add-result c = search byte_laws
