use Rattle.claims.proofs.FracturedJson.{fractured_laws}
use Rattle.claims.proofs.ask_fractured.Goals as goal

pub returns : goal.returns
returns c = search fractured_laws
