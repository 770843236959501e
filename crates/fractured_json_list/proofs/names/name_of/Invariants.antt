-- `name_of`: the steps that are left lead where those from 3 on lead.
use mathlib.Core.Path.{◌≡◌}
use Prim.Native.Nat.{◌+◌, ◌-◌, ◌*◌, ◌≤◌}
use Rattle.fractured_json_rules.specs.KeyList.{next_name, steps}
use Rattle.fractured_json_list.proofs.names.name_of.Given as goal

abbrev pub invariant-loop : goal.invariant-loop
invariant-loop l =
    (l.at ≤ 3 + l.counter * 65_537) × (steps (next_name l.list) (l.j - l.counter) l.at ≡ steps (next_name l.list) l.j 3)
