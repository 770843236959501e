-- The steps in which two texts are compared, on two lists of bytes: docs/format/BINARY_JSON.md, section 12. Their order
-- is `compare_texts` (json_model/specs/Texts.antt).
use Rattle.std.specs.Prelude.{ℕ, zero, suc, min, Bool, List, leb, length, take, drop}
use Rattle.json_model.specs.Choose.{choose}
use Rattle.json_model.specs.Texts.{compare_texts, is_equal}

-- whether n bytes are left in both
unfoldable pub left : ℕ → List ℕ → List ℕ → Bool
left n a b = leb n (min (length a) (length b))

-- whether a step over the next n bytes finds no difference
unfoldable pub alike : ℕ → List ℕ → List ℕ → Bool
alike n a b = is_equal (compare_texts (take n a) (take n b))

-- a step over n bytes: the last if it differs, else the steps of the rest follow
unfoldable pub step : ℕ → (List ℕ → List ℕ → ℕ) → List ℕ → List ℕ → ℕ
step n rest a b = suc (choose (alike n a b) (rest (drop n a) (drop n b)) 0)

-- eight bytes at a step where eight are left in both, else one while both have one; k steps at most
unfoldable pub steps_within : ℕ → List ℕ → List ℕ → ℕ
steps_within zero a b = 0
steps_within (suc k) a b = choose (left 8 a b) (step 8 (steps_within k) a b) (choose (left 1 a b) (step 1 (steps_within k) a b) 0)

-- a step passes at least one byte of each text, so there are no more steps than the first has bytes
unfoldable pub compare_steps : List ℕ → List ℕ → ℕ
compare_steps a b = steps_within (length a) a b
