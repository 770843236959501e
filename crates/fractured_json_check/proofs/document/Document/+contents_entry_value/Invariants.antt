-- The check's walk. Each call falls by levels left; in the loop, what the entries say from here on is what they say from the first on.
use Rattle.std.proofs.Common.{◌≡◌, ◌+◌, ◌-◌, ◌*◌}
use Rattle.fractured_json_rules.specs.Verdict.{in_turn, value as value_by}
use Rattle.fractured_json_values.specs.Opened.{entry as entry_by}
use Rattle.fractured_json_check.specs.Table.{table, key_in}
use Rattle.fractured_json_check.proofs.document.Document.+contents_entry_value.Given as goal

abbrev pub decreases-contents : goal.decreases-contents
decreases-contents l = 3 * l.below + 2

abbrev pub decreases-entry : goal.decreases-entry
decreases-entry l = 3 * l.below + 1

abbrev pub decreases-value : goal.decreases-value
decreases-value l = 3 * l.levels

abbrev pub invariant-contents-loop : goal.invariant-contents-loop
invariant-contents-loop l =
    in_turn (entry_by l.object (key_in l.self.bytes.now l.self.names) (value_by (key_in l.self.bytes.now l.self.names) l.below l.self.bytes.now)) (l.n - l.counter) l.at (table l.count l.keys l.links) ≡ in_turn (entry_by l.object (key_in l.self.bytes.now l.self.names) (value_by (key_in l.self.bytes.now l.self.names) l.below l.self.bytes.now)) l.n l.first (table l.initial.count l.initial.keys l.initial.links)
