use Rattle.claims.proofs.FracturedJson.{member_key_kept, fractured_laws}
use Rattle.claims.proofs.member_key_text.Goals as goal

pub returns-in-Ok : goal.returns-in-Ok
returns-in-Ok c = member_key_kept _ _ _ _ _ _ _ _ c.check-c.ensures c.member-m.ensures c.in-Ok.field-0 _ c.in-Ok.is c.key_text.ensures

pub returns-in-Err : goal.returns-in-Err
returns-in-Err c = search fractured_laws
