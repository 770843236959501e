use Rattle.binary_json_check.proofs.Slots.{Slotted}
use Rattle.binary_json_check.proofs.strings.read_slots.Given as goal

abbrev pub invariant-loop-k : goal.invariant-loop-k
invariant-loop-k l =
    Slotted l.header.bytes.now l.header.count l.k l.before l.start
