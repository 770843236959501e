use Rattle.binary_json_check.proofs.Walks.{words_laws}
use Rattle.binary_json_check.proofs.walk.read_words.Goals as goal

pub mark_body-requires : goal.mark_body-requires
mark_body-requires c = search words_laws
