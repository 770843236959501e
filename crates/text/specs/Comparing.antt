-- What the functions of a comparing say to one another.
use Rattle.std.specs.Prelude.{◌≡◌, List, ℕ, ◌+◌, ◌-◌, ◌/◌, ◌≤◌, min, length, drop}
use Rattle.json_model.specs.Bytes.{number}
use Rattle.json_model.specs.Texts.{compare_texts}
use Rattle.text.specs.Steps.{compare_steps}

-- after so many steps, place i is reached: the order of the rest is that of the texts, and its steps are those still to come
unfoldable pub ComparesFrom : List ℕ → List ℕ → ℕ → ℕ → Type 0
ComparesFrom a b i steps = (compare_texts (drop i a) (drop i b) ≡ compare_texts a b) × (steps + compare_steps (drop i a) (drop i b) ≡ compare_steps a b)

-- place i is reached by steps of eight bytes; if eight more are left in both, they are not the same
unfoldable pub Passed : List ℕ → List ℕ → ℕ → Type 0
Passed a b i = (8 ≤ min (length a) (length b) - i → number a i 8 ≡ number b i 8 → ⊥) × ComparesFrom a b i (i / 8)
