-- The key table as the caller lends it: docs/format/FRACTURED_JSON.md, section 7. A table of 32-bit words, two a key:
-- start and length of its text. Each immediate key passed before the end or the refusal has its pair; all other words
-- keep what they held. Beside its verdict the check gives the number of those pairs.
use Rattle.std.specs.Prelude.{ℕ, ◌+◌, ◌*◌, ◌/◌, min, List, [], ◌∷◌, ◌++◌, length, get_or, drop}
use Rattle.json_model.specs.Limits.{most_keys}
use Rattle.json_model.specs.Reading.{Outcome, Asked, kept_of, verdict_of}
use Rattle.fractured_json_rules.specs.Meaning.{Key, Keys}
use Rattle.fractured_json_rules.specs.Verdict.{verdict}

-- the room of a table: half its words rounded down, at most 4,096
unfoldable pub room_of : List ℕ → ℕ
room_of words = min most_keys (length words / 2)

-- the pairs of keys, as words
abbrev pub pairs : Keys → List ℕ
pairs [] = []
pairs (k ∷ ks) = k.start ∷ k.len ∷ pairs ks

-- what the lent words hold once the keys ks have been passed
unfoldable pub stored : Keys → List ℕ → List ℕ
stored ks words = pairs ks ++ drop (2 * length ks) words

-- the pair of key j
abbrev pub key_of : List ℕ → ℕ → Key
key_of words j = record { start = get_or words (2 * j) 0; len = get_or words (2 * j + 1) 0 }

-- the check with a lent table: its verdict, the number of pairs, and the words afterwards
pub record Checked : Type 0 where
  pub verdict : Asked (Unit {0})
  pub count : ℕ
  pub words : List ℕ

abbrev pub checked_by : List ℕ → Outcome Keys (Unit {0}) → Checked
checked_by words q = record { verdict = verdict_of q; count = length (kept_of q); words = stored (kept_of q) words }

abbrev pub checked : List ℕ → List ℕ → List ℕ → Checked
checked doc list words = checked_by words (verdict (room_of words) doc list)
