-- The questions' walk. Each call falls by levels left; in the loop, what the entries say from here on is what they say from the first on.
use Rattle.std.proofs.Common.{◌≡◌, ◌+◌, ◌-◌, ◌*◌}
use Rattle.json_model.specs.Reading.{ask}
use Rattle.fractured_json_rules.specs.Verdict.{in_turn}
use Rattle.fractured_json_values.specs.Opened.{entry}
use Rattle.fractured_json_containers.specs.Asked.{key_end, value_end}
use Rattle.fractured_json_containers.proofs.skip.Lent.+skip_skip_entries_skip_entry.Given as goal

abbrev pub decreases-skip : goal.decreases-skip
decreases-skip l = 3 * l.levels

abbrev pub decreases-skip_entries : goal.decreases-skip_entries
decreases-skip_entries l = 3 * l.below + 2

abbrev pub decreases-skip_entry : goal.decreases-skip_entry
decreases-skip_entry l = 3 * l.below + 1

abbrev pub invariant-skip_entries-loop : goal.invariant-skip_entries-loop
invariant-skip_entries-loop l =
    ask (in_turn (entry l.object (key_end l.self) (value_end l.self l.below)) (l.n - l.counter) l.at)
    ≡ ask (in_turn (entry l.object (key_end l.self) (value_end l.self l.below)) l.n l.first)
