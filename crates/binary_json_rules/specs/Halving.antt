-- Halving over m items: docs/format/BINARY_JSON.md, section 10. Low 0, high m; while low < high compare the item at low
-- + (high-low)/2, halves dropped; equal stops; item smaller sets low past it, otherwise high to it. Each turn counts as
-- one comparison. A miss keeps its position, low.
use Rattle.std.specs.Prelude.{ℕ, zero, suc, ◌+◌, ◌-◌, ◌/◌, Bool, true, false, ltb}
use Rattle.std.specs.declared.cmp.Ordering.{Ordering}
use Rattle.std.specs.declared.cmp.Ordering.TheVariants.{Less, Equal, Greater}

-- an item: how it compares with what is sought, or that it cannot be read
pub data Item : Type 0 where
  compares : Ordering → Item
  unreadable : Item

pub data Halved : Type 0 where
  found : (at turns : ℕ) → Halved
  missed : (at turns : ℕ) → Halved
  broken : Halved

abbrev pub turns_of : Halved → ℕ
turns_of (found at turns) = turns
turns_of (missed at turns) = turns
turns_of broken = 0

abbrev pub middle : ℕ → ℕ → ℕ
middle low high = low + (high - low) / 2

-- a turn, after the comparison of the middle item; `again` goes on from a low, a high and a count
unfoldable pub turn : (ℕ → ℕ → ℕ → Halved) → ℕ → ℕ → ℕ → ℕ → Item → Halved
turn again low mid high turns (compares Less) = again (mid + 1) high (turns + 1)
turn again low mid high turns (compares Equal) = found mid (turns + 1)
turn again low mid high turns (compares Greater) = again low mid (turns + 1)
turn again low mid high turns unreadable = broken

unfoldable pub halve_if : (ℕ → ℕ → ℕ → Halved) → (ℕ → Item) → ℕ → ℕ → ℕ → Bool → Halved
halve_if again item low high turns true = turn again low (middle low high) high turns (item (middle low high))
halve_if again item low high turns false = missed low turns

-- in at most `most` turns more
unfoldable pub halve_from : ℕ → (ℕ → Item) → ℕ → ℕ → ℕ → Halved
halve_from zero item low high turns = missed low turns
halve_from (suc most) item low high turns = halve_if (halve_from most item) item low high turns (ltb low high)

-- m turns are enough for m items
unfoldable pub halve : (ℕ → Item) → ℕ → Halved
halve item m = halve_from m item 0 m 0

-- how many binary digits a number has; zero has none
unfoldable pub digits_in : ℕ → ℕ → ℕ
digits_in zero m = 0
digits_in (suc most) zero = 0
digits_in (suc most) (suc m) = suc (digits_in most (suc m / 2))

unfoldable pub digits : ℕ → ℕ
digits m = digits_in m m
