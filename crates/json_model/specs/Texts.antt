-- The order of texts: docs/format/BINARY_JSON.md, section 1. As unsigned bytes, a prefix before the longer. A zero is a
-- byte like any other.
use Rattle.std.specs.Prelude.{ℕ, Bool, true, false, List, [], ◌∷◌, ltb}
use Rattle.json_model.specs.Choose.{choose}
use Rattle.std.specs.declared.cmp.Ordering.{Ordering}
use Rattle.std.specs.declared.cmp.Ordering.TheVariants.{Less, Equal, Greater}

-- two numbers, and what decides where they are equal
unfoldable pub by_numbers : ℕ → ℕ → Ordering → Ordering
by_numbers x y equal = choose (ltb x y) Less (choose (ltb y x) Greater equal)

abbrev pub compare_numbers : ℕ → ℕ → Ordering
compare_numbers x y = by_numbers x y Equal

unfoldable pub compare_texts : List ℕ → List ℕ → Ordering
compare_texts [] [] = Equal
compare_texts [] (y ∷ ys) = Less
compare_texts (x ∷ xs) [] = Greater
compare_texts (x ∷ xs) (y ∷ ys) = by_numbers x y (compare_texts xs ys)

abbrev pub is_below : Ordering → Bool
is_below Less = true
is_below Equal = false
is_below Greater = false

abbrev pub is_equal : Ordering → Bool
is_equal Less = false
is_equal Equal = true
is_equal Greater = false
