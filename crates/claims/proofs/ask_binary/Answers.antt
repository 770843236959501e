use Rattle.claims.proofs.BinaryJson.{binary_laws}
use Rattle.claims.proofs.ask_binary.Goals as goal

pub returns : goal.returns
returns c = search binary_laws
