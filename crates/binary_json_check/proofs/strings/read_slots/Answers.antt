use Rattle.std.proofs.lemmas.Result.{err_from_is_err_and}
use Rattle.binary_json_check.proofs.Slots.{read_slots_laws}
use Rattle.binary_json_check.proofs.strings.read_slots.Goals as goal

pub loop-k-init : goal.loop-k-init
loop-k-init c = search read_slots_laws

pub returns-in_err-end : goal.returns-in_err-end
returns-in_err-end c = let p = err_from_is_err_and c.from_residual.result c.from_residual.ensures.1 in rw (p.1, p.2) (search (read_slots_laws, c.in_err-end.ensures))

pub loop-k-preserved : goal.loop-k-preserved
loop-k-preserved c = search (read_slots_laws, c.in_ok-end.ensures)

pub returns : goal.returns
returns c = search read_slots_laws
