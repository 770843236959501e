-- what the hash is from here on is the hash of the text
use Rattle.std.proofs.Common.{◌≡◌, ◌-◌, ◌*◌, ◌^◌, ◌<◌}
use Rattle.text.specs.Hash.{hash_from, hash_of}
use Rattle.text.proofs.hash.hash_of.Given as goal

abbrev pub invariant-loop-k : goal.invariant-loop-k
invariant-loop-k l = (l.h < 2 ^ 33) × (hash_from l.t l.h (8 * l.k) (l.n - l.k) ≡ hash_of l.t)
