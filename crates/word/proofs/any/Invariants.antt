-- k bytes have been read.
use mathlib.Core.Path.{◌≡◌}
use Rattle.json_model.specs.Bytes.{number}
use Rattle.word.proofs.any.Given as goal

abbrev pub invariant-loop-k : goal.invariant-loop-k
invariant-loop-k l = l.value ≡ number l.s l.at l.k
