-- `follow`: what is found from the next link on decides.
use mathlib.Core.Path.{◌≡◌}
use Prim.Native.Nat.{◌-◌, ◌^◌, ◌<◌}
use Rattle.fractured_json_keys.specs.Chains.{buckets_in, followed}
use Rattle.fractured_json_keys.proofs.chains.follow.Given as goal

abbrev pub invariant-loop : goal.invariant-loop
invariant-loop l =
    (l.next < 2 ^ 16) × (followed l.doc l.t l.keys l.links (l.n - l.counter) l.next ≡ followed l.doc l.t l.keys l.links (buckets_in l.links) l.first)
