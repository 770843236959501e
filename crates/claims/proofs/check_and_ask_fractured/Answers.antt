use Rattle.claims.proofs.FracturedJson.{checked_kept}
use Rattle.claims.proofs.check_and_ask_fractured.Goals as goal

pub returns : goal.returns
returns c = checked_kept _ _ _ _ _ _ _ _ (λ i. (c.type_inv.doc i).fits) c.check-verdict.ensures c.ask_fractured-answers.ensures
