-- The marks that a caller lends to the check, one byte for each word of the tree: docs/format/BINARY_JSON.md, section
-- 5. Mark k stands for the word at 4 + 4k; once 7 and 15 have passed, it is 0 until a body that holds the word is
-- marked.
use Rattle.std.specs.Prelude.{ℕ, zero, suc, ◌+◌, ◌-◌, ◌*◌, ◌/◌, Bool, true, false, List, eqb, get_or, set}
use Rattle.json_model.specs.Choose.{choose}
use Rattle.binary_json_rules.specs.Areas.{index}

-- how many words the tree has, from 4 up to S
unfoldable pub words : List ℕ → ℕ
words doc = (index doc - 4) / 4

-- where word k stands, and which word stands at an offset
abbrev pub word_place : ℕ → ℕ
word_place k = 4 + 4 * k

abbrev pub word_at : ℕ → ℕ
word_at o = (o - 4) / 4

-- the w marks from k on are 0
unfoldable pub clear : List ℕ → ℕ → ℕ → Bool
clear marks k zero = true
clear marks k (suc w) = choose (eqb (get_or marks k 0) 0) (clear marks (k + 1) w) false

-- the w marks from k on set to v
unfoldable pub fill : List ℕ → ℕ → ℕ → ℕ → List ℕ
fill marks k zero v = marks
fill marks k (suc w) v = fill (set marks k v) (k + 1) w v

-- the first of the n words from k on whose mark is 0; the word after them if there is none
unfoldable pub unmarked : List ℕ → ℕ → ℕ → ℕ
unmarked marks k zero = k
unmarked marks k (suc n) = choose (eqb (get_or marks k 0) 0) k (unmarked marks (k + 1) n)
