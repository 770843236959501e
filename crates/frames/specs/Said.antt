-- What a writer holds and what waits, taken together, after a text was said.
use Rattle.std.specs.Prelude.{◌≡◌, ℕ, List, ◌++◌, ⊤, Option, None, Some}

-- the known bytes of a writer and then what waits grow by a text: nothing is lost, doubled or put in another order
abbrev pub Says : Option (List ℕ) → List ℕ → Option (List ℕ) → List ℕ → List ℕ → Type 0
Says None waits new left text = ⊤
Says (Some xs) waits None left text = ⊥
Says (Some xs) waits (Some ys) left text = ys ++ left ≡ (xs ++ waits) ++ text
