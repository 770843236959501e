use Rattle.binary_json_check.proofs.Walks.{Keyed}
use Rattle.binary_json_check.proofs.walk.key_entries.Given as goal

abbrev pub invariant-loop-k : goal.invariant-loop-k
invariant-loop-k l =
    Keyed l.d.bytes.now l.first l.n l.k l.before
