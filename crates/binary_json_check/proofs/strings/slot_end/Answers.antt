use Rattle.binary_json_check.proofs.Slots.{slot_end_laws}
use Rattle.binary_json_check.proofs.strings.slot_end.Goals as goal

pub returns-then-end-start : goal.returns-then-end-start
returns-then-end-start c = rw c.refuse-then-end-start.ensures (search slot_end_laws)

pub returns-then-doc-end : goal.returns-then-doc-end
returns-then-doc-end c = rw c.refuse-then-doc-end.ensures (search slot_end_laws)

pub returns-then-last-ne0 : goal.returns-then-last-ne0
returns-then-last-ne0 c = rw c.refuse-then-last-ne0.ensures (search slot_end_laws)

pub returns : goal.returns
returns c = search slot_end_laws
