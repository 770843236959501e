-- The verdict on a BinaryJson document: docs/format/BINARY_JSON.md, section 4, with the numbers and places of
-- docs/format/REFUSALS.md, section 3: 1 to 4; slots in turn, 5 before 6; 7; 15; then containers from the root: 12, 8,
-- 14, all its KeyEntries, its Entries in turn, each child finished before the next Entry; 13 last. Each `need` or
-- `refuse` is one test of a rule, with its number and place.
use Rattle.std.specs.Prelude.{ℕ, zero, suc, ◌+◌, ◌-◌, ◌*◌, ◌%◌, Bool, true, List, ltb, leb, eqb, length, get_or}
use Rattle.json_model.specs.Reading.{Outcome, Reading, answer, refuse, ◌>>=◌, ◌>>◌, need, kept, keep}
use Rattle.json_model.specs.Bytes.{number}
use Rattle.json_model.specs.Limits.{least_binary, longest, deepest}
use Rattle.json_model.specs.Number.{binary64, finite}
use Rattle.json_model.specs.Texts.{compare_texts, is_below}
use Rattle.binary_json_rules.specs.Areas.{word, low, high, index, count, slot, text, content, numbers, Kind, k_array, k_object, k_scalar, k_other, kind_of, EntryType, t_false, t_true, t_null, t_string, t_number, t_container, t_other, type_of}
use Rattle.binary_json_rules.specs.Marks.{words, word_place, word_at, clear, fill, unmarked}

-- ---- 1 to 4

unfoldable pub header : {S : Type 0} → List ℕ → Reading S (Unit {0})
header doc = do
  need (leb least_binary (length doc)) 1 (length doc)
  need (leb (length doc) longest) 2 (length doc)
  need (eqb (low doc 0) 1) 3 0
  need (leb 8 (index doc)) 4 0
  need (eqb (index doc % 4) 0) 4 0
  need (leb (index doc + 4) (length doc)) 4 0
  need (leb (slot doc (count doc)) (length doc)) 4 (index doc)

-- ---- 5 and 6

-- the content of text k is above the one before
unfoldable pub ascends : List ℕ → ℕ → Bool
ascends doc zero = true
ascends doc (suc k) = is_below (compare_texts (content doc k) (content doc (suc k)))

-- slot k: low bits, end not past start, end past document, no closing zero; then its content
unfoldable pub slot_rules : {S : Type 0} → List ℕ → ℕ → Reading S (Unit {0})
slot_rules doc k = do
  need (eqb (low doc (slot doc k)) 0) 5 (slot doc k)
  need (ltb (text doc k) (text doc (suc k))) 5 (slot doc k)
  need (leb (text doc (suc k)) (length doc)) 5 (slot doc k)
  need (eqb (get_or doc (text doc (suc k) - 1) 0) 0) 5 (slot doc k)
  need (ascends doc k) 6 (slot doc k)

-- n slots in turn, from slot k on
unfoldable pub slots : {S : Type 0} → List ℕ → ℕ → ℕ → Reading S (Unit {0})
slots doc zero k = answer tt
slots doc (suc n) k = do
  slot_rules doc k
  slots doc n (suc k)

-- ---- what a word may name; the number and the place of the refusal are the caller's

-- v is the offset of a slot
unfoldable pub slot_named : {S : Type 0} → List ℕ → ℕ → ℕ → ℕ → Reading S (Unit {0})
slot_named doc v number place = do
  need (leb (slot doc 0) v) number place
  need (eqb ((v - slot doc 0) % 4) 0) number place
  need (ltb v (slot doc (count doc))) number place

-- v is the offset of a number, in step inside its area; and the number is finite, else 10
unfoldable pub number_named : {S : Type 0} → List ℕ → ℕ → ℕ → ℕ → Reading S (Unit {0})
number_named doc v refusal place = do
  need (leb (numbers doc) v) refusal place
  need (eqb ((v - numbers doc) % 8) 0) refusal place
  need (leb (v + 8) (length doc)) refusal place
  need (finite binary64 (number doc v 8)) 10 place

-- ---- 11: n KeyEntries from q on, the first above p

unfoldable pub key_entries : {S : Type 0} → List ℕ → ℕ → ℕ → ℕ → Reading S (Unit {0})
key_entries doc zero p q = answer tt
key_entries doc (suc n) p q = do
  slot_named doc (word doc q) 11 q
  need (ltb p (word doc q)) 11 q
  key_entries doc n (word doc q) (q + 4)

-- ---- 9 and 10: Entries; what is kept from here on are the marks

-- the Entry at a of the container at c, by its type; `child` reads the container at an offset
unfoldable pub entry_by : List ℕ → (ℕ → Reading (List ℕ) (Unit {0})) → ℕ → ℕ → EntryType → Reading (List ℕ) (Unit {0})
entry_by doc child c a t_false = answer tt
entry_by doc child c a t_true = answer tt
entry_by doc child c a t_null = answer tt
entry_by doc child c a t_string = slot_named doc (high doc a) 9 a
entry_by doc child c a t_number = number_named doc (high doc a) 9 a
entry_by doc child c a t_container = do
  need (eqb (high doc a % 4) 0) 9 a
  need (ltb c (high doc a)) 9 a
  child (high doc a)
entry_by doc child c a t_other = refuse 9 a

unfoldable pub entry : List ℕ → (ℕ → Reading (List ℕ) (Unit {0})) → ℕ → ℕ → Reading (List ℕ) (Unit {0})
entry doc child c a = entry_by doc child c a (type_of (low doc a))

-- n Entries from a on
unfoldable pub entries : List ℕ → (ℕ → Reading (List ℕ) (Unit {0})) → ℕ → ℕ → ℕ → Reading (List ℕ) (Unit {0})
entries doc child c zero a = answer tt
entries doc child c (suc n) a = do
  entry doc child c a
  entries doc child c n (a + 4)

-- ---- 12, 8 and 14: containers

-- the body of w words at o, Meta included: 14 if it meets a marked word, and only then it is marked
unfoldable pub mark_body : ℕ → ℕ → Reading (List ℕ) (Unit {0})
mark_body o w = do
  marks ← kept
  need (clear marks (word_at o) w) 14 o
  keep (fill marks (word_at o) w 1)

-- the container at o, of size n, by its kind; one of kind 2 below the root is refused
unfoldable pub container_by : List ℕ → (ℕ → Reading (List ℕ) (Unit {0})) → ℕ → ℕ → Kind → Reading (List ℕ) (Unit {0})
container_by doc child o n k_array = do
  need (leb (o + 4 + 4 * n) (index doc)) 8 o
  mark_body o (1 + n)
  entries doc child o n (o + 4)
container_by doc child o n k_object = do
  need (leb (o + 4 + 4 * (2 * n)) (index doc)) 8 o
  mark_body o (1 + 2 * n)
  key_entries doc n 0 (o + 4)
  entries doc child o n (o + 4 + 4 * n)
container_by doc child o n k_scalar = refuse 8 o
container_by doc child o n k_other = refuse 8 o

-- with so many levels left
unfoldable pub container : ℕ → List ℕ → ℕ → Reading (List ℕ) (Unit {0})
container zero doc o = refuse 12 o
container (suc levels) doc o = do
  need (leb (o + 4) (index doc)) 8 o
  container_by doc (container levels doc) o (high doc o) (kind_of (low doc o))

-- the root container of kind 2: one Entry, which is no container
unfoldable pub scalar : List ℕ → Reading (List ℕ) (Unit {0})
scalar doc = do
  need (eqb (high doc 4) 1) 8 4
  need (leb 12 (index doc)) 8 4
  mark_body 4 2
  entry doc (λ o. refuse 9 8) 4 8

unfoldable pub root_by : List ℕ → Kind → Reading (List ℕ) (Unit {0})
root_by doc k_array = container deepest doc 4
root_by doc k_object = container deepest doc 4
root_by doc k_scalar = scalar doc
root_by doc k_other = container deepest doc 4

-- ---- 15 and 13: the marks before the walk and after it

-- 15 if they are too few; then those of the tree are set to 0
unfoldable pub lent : List ℕ → Reading (List ℕ) (Unit {0})
lent doc = do
  marks ← kept
  need (leb (words doc) (length marks)) 15 (index doc)
  keep (fill marks 0 (words doc) 0)

-- 13 at the first word that is not marked
unfoldable pub all_marked : List ℕ → Reading (List ℕ) (Unit {0})
all_marked doc = do
  marks ← kept
  need (eqb (unmarked marks 0 (words doc)) (words doc)) 13 (word_place (unmarked marks 0 (words doc)))

-- ---- the whole check

unfoldable pub check : List ℕ → Reading (List ℕ) (Unit {0})
check doc = do
  header doc
  slots doc (count doc) 0
  need (eqb ((length doc - numbers doc) % 8) 0) 7 (numbers doc)
  lent doc
  root_by doc (kind_of (low doc 4))
  all_marked doc

-- the verdict on a document and the marks lent, with the marks afterwards, whichever it is
abbrev pub verdict : List ℕ → List ℕ → Outcome (List ℕ) (Unit {0})
verdict doc marks = check doc marks
