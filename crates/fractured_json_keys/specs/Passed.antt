-- The keys passed, as the words of the lent table hold them.
use Rattle.std.specs.Prelude.{ℕ, zero, suc, ◌+◌, ◌*◌, ◌/◌, min, List, [], ◌∷◌, length, set}
use Rattle.fractured_json_rules.specs.Meaning.{Keys}
use Rattle.fractured_json_rules.specs.KeyTable.{key_of}

-- n keys of the table from key j on
unfoldable pub keys_from : List ℕ → ℕ → ℕ → Keys
keys_from words j zero = []
keys_from words j (suc n) = key_of words j ∷ keys_from words (j + 1) n

-- the keys passed, as many as the words can hold
abbrev pub keys_in : List ℕ → ℕ → Keys
keys_in words count = keys_from words 0 (min count (length words / 2))

-- the words with the pair of key j
unfoldable pub with_pair : List ℕ → ℕ → ℕ → ℕ → List ℕ
with_pair words j start len = set (set words (2 * j) start) (2 * j + 1) len
