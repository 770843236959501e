-- `scan`: what is found from pair j on decides.
use mathlib.Core.Path.{◌≡◌}
use Prim.Native.Nat.{◌-◌, ◌/◌, min}
use lib.ListN.{length}
use Rattle.fractured_json_rules.specs.KeyList.{met}
use Rattle.fractured_json_keys.specs.Passed.{keys_from, keys_in}
use Rattle.fractured_json_keys.proofs.pairs.scan.Given as goal

abbrev pub invariant-loop-start : goal.invariant-loop-start
invariant-loop-start l =
    met l.doc l.t (keys_from l.keys l.start-index (min l.count (length l.keys / 2) - l.start-index)) ≡ met l.doc l.t (keys_in l.keys l.count)
