-- What the answer of the check says: its verdict, whose cases are `told`'s, the number of pairs, and the words that it left. The contract of
-- the check goes through this definition.
use Rattle.std.specs.Prelude.{ℕ, List}
use Rattle.json_model.specs.Reading.{told}
use Rattle.fractured_json_rules.specs.KeyTable as Rules
use Rattle.fractured_json_check.specs.declared.answers.Checked.{Checked}

abbrev pub told_checked : Checked → List ℕ → Rules.Checked
told_checked r words = record { verdict = told r.verdict; count = r.count; words = words }
