-- What writing a text leaves in the bytes lent: the text over what stood at a place, all other bytes as they were, and the
-- place where it ends.
use Rattle.std.specs.Prelude.{ℕ, ◌+◌, List, ◌≡◌, length}
use Rattle.std.proofs.lemmas.List.Edits.{sets}

unfoldable pub Written : List ℕ → ℕ → List ℕ → List ℕ → ℕ → Type 0
Written out at text after end = (after ≡ sets out at text) × (end ≡ at + length text)
