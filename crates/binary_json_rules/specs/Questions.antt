-- The questions put to a BinaryJson document, fixed for all bytes and cursors: docs/format/BINARY_JSON.md, section 9,
-- with the numbers of docs/format/REFUSALS.md, section 4. Each first applies 1 to 4, then 20 unless S+4+4C ≤ N ≤
-- length; from there on the place is the cursor. The order is: cursor word, kind, body, index, what is pointed to.
use Rattle.std.specs.Prelude.{ℕ, suc, ◌+◌, ◌-◌, ◌*◌, ◌%◌, ◌||◌, List, ltb, leb, eqb, length}
use Rattle.json_model.specs.Choose.{choose}
use Rattle.json_model.specs.Reading.{Reading, answer, ask, ◌>>=◌, ◌>>◌, need}
use Rattle.json_model.specs.Bytes.{number}
use Rattle.json_model.specs.Span.{spanned}
use Rattle.json_model.specs.declared.Span.{Span}
use Rattle.binary_json_rules.specs.Areas.{word, low, high, index, count, slot, text, numbers}
use Rattle.binary_json_rules.specs.Verdict.{header, slot_named, number_named}
use Rattle.binary_json_rules.specs.TreeOf.{slot_at}

-- ---- before every question, asked at the cursor c

-- What a question asks after its opening has a name of its own (`..Here`; a slot's is text_named), so that a walk of
-- many questions opens the document once.
unfoldable pub opening : {S : Type 0} → List ℕ → ℕ → Reading S (Unit {0})
opening doc c = do
  header doc
  need (leb (slot doc (count doc)) (numbers doc)) 20 c
  need (leb (numbers doc) (length doc)) 20 c

-- a word of the tree stands at a: words stand at 4, 8, .. S-4
unfoldable pub tree_word : {S : Type 0} → List ℕ → ℕ → ℕ → Reading S (Unit {0})
tree_word doc a c = do
  need (leb 4 a) 20 c
  need (eqb (a % 4) 0) 20 c
  need (leb (a + 4) (index doc)) 20 c

-- ---- at a Meta (kind 0 array, 1 object, 2 top-level scalar): kind and size, element i, member j

-- the body of w words lies in the tree
unfoldable pub body : {S : Type 0} → List ℕ → ℕ → ℕ → Reading S (Unit {0})
body doc c w = need (leb (c + 4 + 4 * w) (index doc)) 20 c

-- how many words the body of a container of size n has
unfoldable pub body_words : ℕ → ℕ → ℕ
body_words kind n = choose (eqb kind 1) (2 * n) n

pub record Sized : Type 0 where
  pub kind : ℕ
  pub size : ℕ

unfoldable pub kind_here : {S : Type 0} → List ℕ → ℕ → Reading S Sized
kind_here doc c = do
  tree_word doc c c
  need (ltb (low doc c) 3) 21 c
  body doc c (body_words (low doc c) (high doc c))
  answer (record { kind = low doc c; size = high doc c })

unfoldable pub kind_and_size : {S : Type 0} → List ℕ → ℕ → Reading S Sized
kind_and_size doc c = opening doc c >> kind_here doc c

-- the offset of the Entry that is element i, asked of kinds 0 and 2; nothing is asked about the Entry
unfoldable pub element_here : {S : Type 0} → List ℕ → ℕ → ℕ → Reading S ℕ
element_here doc c i = do
  tree_word doc c c
  need (eqb (low doc c) 0 || eqb (low doc c) 2) 21 c
  body doc c (high doc c)
  need (ltb i (high doc c)) 22 c
  answer (c + 4 + 4 * i)

unfoldable pub element : {S : Type 0} → List ℕ → ℕ → ℕ → Reading S ℕ
element doc c i = opening doc c >> element_here doc c i

-- the size of the object at c; members are asked of kind 1
unfoldable pub object_here : {S : Type 0} → List ℕ → ℕ → Reading S ℕ
object_here doc c = do
  tree_word doc c c
  need (eqb (low doc c) 1) 21 c
  body doc c (2 * high doc c)
  answer (high doc c)

pub record MemberAt : Type 0 where
  pub slot : ℕ
  pub entry : ℕ

-- KeyEntry j and Entry j of the object at c, which has n members
abbrev pub key_entry_of : ℕ → ℕ → ℕ
key_entry_of c j = c + 4 + 4 * j

abbrev pub entry_of : ℕ → ℕ → ℕ → ℕ
entry_of c n j = c + 4 + 4 * n + 4 * j

-- the offsets of the slot and of the Entry of member j; of its KeyEntry only that it is a slot's offset
unfoldable pub member_here : {S : Type 0} → List ℕ → ℕ → ℕ → Reading S MemberAt
member_here doc c j = do
  n ← object_here doc c
  need (ltb j n) 22 c
  slot_named doc (word doc (key_entry_of c j)) 20 c
  answer (record { slot = word doc (key_entry_of c j); entry = entry_of c n j })

unfoldable pub member_at : {S : Type 0} → List ℕ → ℕ → ℕ → Reading S MemberAt
member_at doc c j = opening doc c >> member_here doc c j

-- ---- at a slot: its text

-- slot k is good to read if S+4+4C ≤ start < end ≤ N; its content ends before the closing byte
unfoldable pub slot_read : {S : Type 0} → List ℕ → ℕ → ℕ → Reading S Span
slot_read doc k c = do
  need (leb (slot doc (count doc)) (text doc k)) 20 c
  need (ltb (text doc k) (text doc (suc k))) 20 c
  need (leb (text doc (suc k)) (numbers doc)) 20 c
  answer (record { place = text doc k; len = text doc (suc k) - 1 - text doc k })

-- the text of the slot at the offset v
unfoldable pub text_named : {S : Type 0} → List ℕ → ℕ → ℕ → Reading S Span
text_named doc v c = do
  slot_named doc v 20 c
  slot_read doc (slot_at doc v) c

unfoldable pub slot_text : {S : Type 0} → List ℕ → ℕ → Reading S Span
slot_text doc c = opening doc c >> text_named doc c c

-- the second way: the text itself
abbrev pub slot_bytes : List ℕ → ℕ → List ℕ
slot_bytes doc c = spanned doc (ask (slot_text doc c))

-- ---- at an Entry: type (0 false, 1 true, 2 null, 3 string, 4 number, 5 container), container, string, number

unfoldable pub type_here : {S : Type 0} → List ℕ → ℕ → Reading S ℕ
type_here doc c = do
  tree_word doc c c
  need (ltb (low doc c) 6) 21 c
  answer (low doc c)

unfoldable pub entry_type : {S : Type 0} → List ℕ → ℕ → Reading S ℕ
entry_type doc c = opening doc c >> type_here doc c

-- the offset of the container; of it only that its Meta word lies in the tree
unfoldable pub container_here : {S : Type 0} → List ℕ → ℕ → Reading S ℕ
container_here doc c = do
  tree_word doc c c
  need (eqb (low doc c) 5) 21 c
  tree_word doc (high doc c) c
  answer (high doc c)

unfoldable pub container_at : {S : Type 0} → List ℕ → ℕ → Reading S ℕ
container_at doc c = opening doc c >> container_here doc c

unfoldable pub string_here : {S : Type 0} → List ℕ → ℕ → Reading S Span
string_here doc c = do
  tree_word doc c c
  need (eqb (low doc c) 3) 21 c
  text_named doc (high doc c) c

unfoldable pub string_at : {S : Type 0} → List ℕ → ℕ → Reading S Span
string_at doc c = opening doc c >> string_here doc c

abbrev pub string_bytes : List ℕ → ℕ → List ℕ
string_bytes doc c = spanned doc (ask (string_at doc c))

-- the 64 bits of the number; 10 if it is not finite
unfoldable pub number_here : {S : Type 0} → List ℕ → ℕ → Reading S ℕ
number_here doc c = do
  tree_word doc c c
  need (eqb (low doc c) 4) 21 c
  number_named doc (high doc c) 20 c
  answer (number doc (high doc c) 8)

unfoldable pub number_at : {S : Type 0} → List ℕ → ℕ → Reading S ℕ
number_at doc c = opening doc c >> number_here doc c
