-- What the functions of the marks say to one another.
use Rattle.std.specs.Prelude.{ℕ, ◌-◌, ◌<◌, Bool, true, false, List, ◌≡◌, length, Option, Some, None}
use Rattle.binary_json_rules.specs.Marks.{clear, fill, unmarked}

-- whether all marks of a body were 0, and then they are 1 afterwards; else they are as they were
abbrev pub Taken : List ℕ → Bool → List ℕ → Type 0
Taken before true after = (clear before 0 (length before) ≡ true) × (after ≡ fill before 0 (length before) 1)
Taken before false after = (clear before 0 (length before) ≡ false) × (after ≡ before)

-- the first of the words from k on whose mark is 0
abbrev pub Found : List ℕ → ℕ → Option ℕ → Type 0
Found marks k (Some x) = (x ≡ unmarked marks k (length marks - k)) × (x < length marks)
Found marks k None = length marks ≡ unmarked marks k (length marks - k)
