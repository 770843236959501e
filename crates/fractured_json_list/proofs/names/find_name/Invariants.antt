-- `find_name`: what the names say from name j on is what they say from the first one on.
use mathlib.Core.Path.{◌≡◌}
use Prim.Native.Nat.{◌+◌, ◌-◌, ◌*◌, ◌≤◌}
use Rattle.fractured_json_rules.specs.KeyList.{count_in}
use Rattle.fractured_json_list.specs.Finding.{named_from}
use Rattle.fractured_json_list.proofs.names.find_name.Given as goal

abbrev pub invariant-loop-j : goal.invariant-loop-j
invariant-loop-j l =
    (l.at ≤ 3 + l.j * 65_537) × (named_from l.list l.x (l.j-end - l.j) l.at l.j ≡ named_from l.list l.x (count_in l.list) 3 0)
