use Rattle.binary_json_check.proofs.Slots.{read_slot_laws}
use Rattle.binary_json_check.proofs.strings.read_slot.Goals as goal

pub content-requires : goal.content-requires
content-requires c = search read_slot_laws

pub returns-in-Equal : goal.returns-in-Equal
returns-in-Equal c = rw c.refuse.ensures (search (read_slot_laws, c.in_ok-end.ensures))
