-- The check as the code makes it: its state is the number of keys passed, the words of the lent table and the links of the
-- chains. proofs/Stored.antt shows that it is the rules' check, which keeps the keys themselves.
use Rattle.std.specs.Prelude.{ℕ, ◌+◌, Bool, true, false, not, List, [], ltb, length, Result, Ok, Err}
use Rattle.json_model.specs.Bytes.{part}
use Rattle.json_model.specs.Limits.{deepest}
use Rattle.json_model.specs.Reading.{Outcome, halt, done, Reading, Asked, answer, kept, keep, ◌>>=◌, ◌>>◌, need, kept_of, verdict_of, told_by}
use Rattle.json_model.specs.declared.Refusal.{Refusal}
use Rattle.fractured_json_rules.specs.ByteTables.{key_form_of}
use Rattle.fractured_json_rules.specs.Meaning.{Keys}
use Rattle.fractured_json_rules.specs.Verdict.{byte_at, text_at, Numeral, value, key_by, listed_key, check_key}
use Rattle.fractured_json_rules.specs.KeyTable.{room_of, stored}
use Rattle.fractured_json_keys.specs.Passed.{with_pair}
use Rattle.fractured_json_keys.specs.Chains.{buckets_in, bucket_of, seen_in, linked_in}

pub record Table : Type 0 where
  pub count : ℕ
  pub words : List ℕ
  pub links : List ℕ

abbrev pub table : ℕ → List ℕ → List ℕ → Table
table c ws ls = record { count = c; words = ws; links = ls }

-- ---- keys

-- a key whose text is fresh and falls into the bucket b, if there is room for it: once passed, it has its pair, its link and its
-- number
unfoldable pub fresh_key_in : ℕ → ℕ → Numeral → Reading Table ℕ
fresh_key_in b o n = do
  t ← kept
  need (ltb t.count (room_of t.words)) 40 o
  keep (table (t.count + 1) (with_pair t.words t.count n.past n.is) (linked_in t.links t.count b))
  answer (n.past + n.is)

unfoldable pub new_key_in : List ℕ → ℕ → Numeral → Reading Table ℕ
new_key_in doc o n = do
  _ ← text_at doc o n
  t ← kept
  need (not (seen_in doc (part doc n.past n.is) t.words t.links t.count)) 39 o
  fresh_key_in (bucket_of (part doc n.past n.is) (buckets_in t.links)) o n

unfoldable pub old_key_in : ℕ → Numeral → Reading Table ℕ
old_key_in o n = do
  t ← kept
  need (ltb n.is t.count) 38 o
  answer n.past

unfoldable pub key_in : List ℕ → ℕ → ℕ → Reading Table ℕ
key_in doc names o = do
  b ← byte_at doc o o
  key_by doc o (new_key_in doc o) (old_key_in o) (listed_key names o) (key_form_of b)

-- where the value of an entry starts: in an object after its key
unfoldable pub keyed_in : Bool → List ℕ → ℕ → ℕ → Reading Table ℕ
keyed_in true doc names o = key_in doc names o
keyed_in false doc names o = answer o

-- what the walk answers, with the number of keys passed, and the words and links that it left
abbrev pub out : Result ℕ Refusal → ℕ → List ℕ → List ℕ → Outcome Table ℕ
out (Ok at) count words links = done at (table count words links)
out (Err r) count words links = halt r.number r.place (table count words links)

-- ---- the walk over the root value

-- how it ends, with the number of pairs and the words of the lent table
pub record Walked : Type 0 where
  pub end : Asked ℕ
  pub count : ℕ
  pub words : List ℕ

abbrev pub walked_by : List ℕ → Outcome Keys ℕ → Walked
walked_by words q = record { end = verdict_of q; count = length (kept_of q); words = stored (kept_of q) words }

-- by the rules
abbrev pub walked : List ℕ → ℕ → List ℕ → Walked
walked doc names words = walked_by words (value (check_key (room_of words) doc names) deepest doc 3 [])

-- by the code
abbrev pub told_walk : Result ℕ Refusal → ℕ → List ℕ → Walked
told_walk r count words = record { end = told_by (λ at. at) r; count = count; words = words }
