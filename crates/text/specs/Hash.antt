-- A hash of a text, eight bytes at a step and then what is left. It is a function of the text, so equal texts have equal
-- hashes; nothing else is asked of it.
use Rattle.std.specs.Prelude.{ℕ, zero, suc, ◌+◌, ◌-◌, ◌*◌, ◌/◌, ◌%◌, ◌^◌, List, length}
use Rattle.json_model.specs.Bytes.{number}

-- the two halves of a product, added up
unfoldable pub folded : ℕ → ℕ
folded p = p / 2 ^ 32 + p % 2 ^ 32

unfoldable pub scrambled : ℕ → ℕ
scrambled x = folded (x % 2 ^ 32 * 2_654_435_761)

-- the hash h of what went before, and eight bytes more
unfoldable pub mixed : ℕ → ℕ → ℕ
mixed h w = scrambled (scrambled (h + w % 2 ^ 32) + w / 2 ^ 32)

unfoldable pub hash_from : List ℕ → ℕ → ℕ → ℕ → ℕ
hash_from t h i zero = mixed h (number t i (length t - i)) % 2 ^ 32
hash_from t h i (suc n) = hash_from t (mixed h (number t i 8)) (i + 8) n

unfoldable pub hash_of : List ℕ → ℕ
hash_of t = hash_from t 0 0 (length t / 8)
