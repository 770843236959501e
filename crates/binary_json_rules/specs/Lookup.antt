-- The quick lookup and the plain scan of a key in an object: docs/format/BINARY_JSON.md, section 11. Quick lookup
-- halves the C strings for the text. Not found is absent, with zero second comparisons. Found, it halves the n
-- KeyEntries for that slot's offset, as numbers. The plain scan compares texts from member 0 and answers the first
-- match's Entry.
use Rattle.std.specs.Prelude.{ℕ, zero, suc, ◌+◌, List}
use Rattle.json_model.specs.Choose.{choose}
use Rattle.json_model.specs.Reading.{halt, done, Reading, Asked, answers, refuses, answer, refuse, ask, ◌>>=◌, ◌>>◌}
use Rattle.json_model.specs.Bytes.{part}
use Rattle.json_model.specs.declared.Span.{Span}
use Rattle.json_model.specs.Texts.{compare_numbers, compare_texts, is_equal}
use Rattle.binary_json_rules.specs.Areas.{word, count, slot, content}
use Rattle.binary_json_rules.specs.Questions.{opening, object_here, key_entry_of, entry_of, slot_read, text_named}
use Rattle.binary_json_rules.specs.Halving.{Item, compares, unreadable, Halved, found, missed, broken, turns_of, halve}

-- the Entry of the member with the key, or absent
pub data Found : Type 0 where
  entry : ℕ → Found
  absent : Found

-- ---- the quick lookup

-- string k against the key x; a slot that is not good to read is 20 when it is compared
abbrev pub string_item : List ℕ → List ℕ → Asked Span → Item
string_item doc x (halt number place u) = unreadable
string_item doc x (done s u) = compares (compare_texts (part doc s.place s.len) x)

abbrev pub strings : List ℕ → List ℕ → Halved
strings doc x = halve (λ k. string_item doc x (ask (slot_read doc k 0))) (count doc)

-- KeyEntry j of the object at c against the offset v, as numbers; the n KeyEntries
abbrev pub key_item : List ℕ → ℕ → ℕ → ℕ → Item
key_item doc c v j = compares (compare_numbers (word doc (key_entry_of c j)) v)

abbrev pub keys : List ℕ → ℕ → ℕ → ℕ → Halved
keys doc c n v = halve (key_item doc c v) n

pub record Counted : Type 0 where
  pub answer : Found
  pub first : ℕ
  pub second : ℕ

abbrev pub counted : Found → ℕ → ℕ → Counted
counted a m n = record { answer = a; first = m; second = n }

unfoldable pub after_keys : {S : Type 0} → ℕ → ℕ → ℕ → Halved → Reading S Counted
after_keys c n first (found j second) = answer (counted (entry (entry_of c n j)) first second)
after_keys c n first (missed j second) = answer (counted absent first second)
after_keys c n first broken = refuse 20 c

unfoldable pub after_strings : {S : Type 0} → List ℕ → ℕ → ℕ → Halved → Reading S Counted
after_strings doc c n (found k first) = after_keys c n first (keys doc c n (slot doc k))
after_strings doc c n (missed k first) = answer (counted absent first 0)
after_strings doc c n broken = refuse 20 c

unfoldable pub quick_here : {S : Type 0} → List ℕ → ℕ → List ℕ → Reading S Counted
quick_here doc c x = do
  n ← object_here doc c
  after_strings doc c n (strings doc x)

unfoldable pub quick_lookup : {S : Type 0} → List ℕ → ℕ → List ℕ → Reading S Counted
quick_lookup doc c x = opening doc c >> quick_here doc c x

-- the Entry or absent, and both counts; a refusal has 0 and 0
pub record Lookup : Type 0 where
  pub answer : Asked Found
  pub first : ℕ
  pub second : ℕ

abbrev pub lookup : Asked Found → ℕ → ℕ → Lookup
lookup a m n = record { answer = a; first = m; second = n }

unfoldable pub lookup_of : Asked Counted → Lookup
lookup_of (done a u) = lookup (answers a.answer) a.first a.second
lookup_of (halt number place u) = lookup (refuses number place) 0 0

-- ---- what both counts are in a document whose slots can all be read

-- the halving of the C contents for the key x
abbrev pub content_item : List ℕ → List ℕ → ℕ → Item
content_item doc x k = compares (compare_texts (content doc k) x)

abbrev pub text_halving : List ℕ → List ℕ → Halved
text_halving doc x = halve (content_item doc x) (count doc)

-- the turns of the second halving, after the first: none where the text was not found
abbrev pub key_turns : List ℕ → ℕ → ℕ → Halved → ℕ
key_turns doc c n (found k turns) = turns_of (keys doc c n (slot doc k))
key_turns doc c n (missed k turns) = 0
key_turns doc c n broken = 0

-- ---- the plain scan

-- from member j on, with so many left of the n members
unfoldable pub scan_from : {S : Type 0} → List ℕ → ℕ → ℕ → List ℕ → ℕ → ℕ → Reading S Found
scan_from doc c n x zero j = answer absent
scan_from doc c n x (suc left) j = do
  s ← text_named doc (word doc (key_entry_of c j)) c
  choose (is_equal (compare_texts (part doc s.place s.len) x)) (answer (entry (entry_of c n j))) (scan_from doc c n x left (j + 1))

unfoldable pub scan_here : {S : Type 0} → List ℕ → ℕ → List ℕ → Reading S Found
scan_here doc c x = do
  n ← object_here doc c
  scan_from doc c n x n 0

unfoldable pub plain_scan : {S : Type 0} → List ℕ → ℕ → List ℕ → Reading S Found
plain_scan doc c x = opening doc c >> scan_here doc c x
