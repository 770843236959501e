-- What the answer of the check says: its verdict, and the marks that it left. The contract of the check goes through
-- this definition.
use Rattle.std.specs.Prelude.{ℕ, List, Result, Ok, Err}
use Rattle.json_model.specs.Reading.{Outcome, halt, done}
use Rattle.json_model.specs.declared.Refusal.{Refusal}

abbrev pub told_marks : Result (Unit {0}) Refusal → List ℕ → Outcome (List ℕ) (Unit {0})
told_marks (Ok u) marks = done tt marks
told_marks (Err r) marks = halt r.number r.place marks
