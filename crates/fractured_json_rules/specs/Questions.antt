-- The questions put to a Fractured JSON document with a key list, fixed for all bytes, cursors, key lists, key tables
-- and counts: docs/format/FRACTURED_JSON.md, section 11, with the numbers of docs/format/REFUSALS.md, section 7. Each
-- applies 51 to 54, 31 to 34, then 20 for a cursor under 3. Each reads only what it needs, in this order: type byte
-- (35, 36), 21 for the wrong kind, length or payload (35, 43; kind reads no payload or text), 22 for an index past the
-- end, then the values before the one sought, walked whole, and every key up to it; for the end, all of them. The value
-- sought is not read. 20, 21 and 22 stand at the cursor.
use Rattle.std.specs.Prelude.{ℕ, zero, suc, ◌+◌, ◌-◌, ◌*◌, ◌^◌, Bool, true, false, List, [], ltb, leb, length}
use Rattle.json_model.specs.Bytes.{part}
use Rattle.json_model.specs.Choose.{choose}
use Rattle.json_model.specs.Limits.{deepest}
use Rattle.json_model.specs.Number.{finite}
use Rattle.json_model.specs.Reading.{halt, done, Reading, answer, refuse, Asked, ask, ◌>>=◌, ◌>>◌, need}
use Rattle.json_model.specs.Span.{spanned}
use Rattle.json_model.specs.declared.Span.{Span}
use Rattle.json_model.specs.Texts.{compare_texts, is_equal}
use Rattle.fractured_json_rules.specs.ByteTables.{bytes, Form, f_null, f_bool, f_int, f_float, f_tiny, f_string, f_object, f_array, f_reserved, form_of, key_form_of}
use Rattle.fractured_json_rules.specs.KeyList.{count_in, key_list, name_of}
use Rattle.fractured_json_rules.specs.Verdict.{header, byte_at, payload, length_at, text_at, Numeral, in_turn, member, value, key_by}
use Rattle.fractured_json_rules.specs.KeyTable.{room_of, key_of}

-- ---- before every question, asked at the cursor c

-- What a question asks after its opening has a name of its own (`..Here`; the end's is `walk`, the key's `read_key`), so
-- that a walk of many questions reads the key list and the header once.
unfoldable pub opening : {S : Type 0} → List ℕ → List ℕ → ℕ → Reading S (Unit {0})
opening doc list c = do
  key_list list
  header doc
  need (leb 3 c) 20 c

-- ---- a key as a question reads it: back references go by the key table and count handed in, global indices by the key list

-- who lent the bytes in which a key's text stands
pub data Lender : Type 0 where
  the_document the_list : Lender

-- who lent a key's text, where it stands there, how long it is, and where the key ends
pub record KeyRead : Type 0 where
  pub lender : Lender
  pub place : ℕ
  pub len : ℕ
  pub past : ℕ

-- the bytes of a lender
abbrev pub lent : List ℕ → List ℕ → Lender → List ℕ
lent doc list the_document = doc
lent doc list the_list = list

-- the text itself
abbrev pub text_in : List ℕ → List ℕ → KeyRead → List ℕ
text_in doc list k = part (lent doc list k.lender) k.place k.len

unfoldable pub text_key : {S : Type 0} → List ℕ → ℕ → Numeral → Reading S KeyRead
text_key doc o n = do
  end ← text_at doc o n
  answer (record { lender = the_document; place = n.past; len = n.is; past = end })

-- 38 unless the number is under the count, the count not over the room, and the pair inside the document
unfoldable pub back_key : {S : Type 0} → List ℕ → List ℕ → ℕ → ℕ → Numeral → Reading S KeyRead
back_key doc words count o n = do
  need (ltb n.is count) 38 o
  need (leb count (room_of words)) 38 o
  need (leb ((key_of words n.is).start + (key_of words n.is).len) (length doc)) 38 o
  answer (record { lender = the_document; place = (key_of words n.is).start; len = (key_of words n.is).len; past = n.past })

-- 38 unless the index is under the list's count
unfoldable pub name_key : {S : Type 0} → List ℕ → ℕ → Numeral → Reading S KeyRead
name_key list o n = do
  need (ltb n.is (count_in list)) 38 o
  answer (record { lender = the_list; place = (name_of list n.is).start; len = (name_of list n.is).len; past = n.past })

unfoldable pub read_key : {S : Type 0} → List ℕ → List ℕ → List ℕ → ℕ → ℕ → Reading S KeyRead
read_key doc list words count o = do
  b ← byte_at doc o o
  key_by doc o (text_key doc o) (back_key doc words count o) (name_key list o) (key_form_of b)

-- the key's end alone, for the walk
unfoldable pub pass_key : {S : Type 0} → List ℕ → List ℕ → List ℕ → ℕ → ℕ → Reading S ℕ
pass_key doc list words count o = do
  k ← read_key doc list words count o
  answer k.past

-- the walk over a value, with so many levels left
abbrev pub walk : {S : Type 0} → ℕ → List ℕ → List ℕ → List ℕ → ℕ → ℕ → Reading S ℕ
walk levels doc list words count o = value (pass_key doc list words count) levels doc o

-- nesting counts from the cursor, whose container is 1: the levels left for the values in it
abbrev pub inner : ℕ
inner = deepest - 1

-- ---- its end

unfoldable pub end_of : {S : Type 0} → List ℕ → List ℕ → List ℕ → ℕ → ℕ → Reading S ℕ
end_of doc list words count c = opening doc list c >> walk deepest doc list words count c

-- ---- its kind, with the length of a string or container

pub data Kind : Type 0 where
  is_null is_false is_true is_number : Kind
  is_string is_object is_array : ℕ → Kind

unfoldable pub kind_by : {S : Type 0} → List ℕ → ℕ → Form → Reading S Kind
kind_by doc c f_null = answer is_null
kind_by doc c (f_bool false) = answer is_false
kind_by doc c (f_bool true) = answer is_true
kind_by doc c (f_int s w) = answer is_number
kind_by doc c (f_float f w) = answer is_number
kind_by doc c (f_tiny b) = answer is_number
kind_by doc c (f_string x) = do
  n ← length_at doc c x
  answer (is_string n.is)
kind_by doc c (f_object x) = do
  n ← length_at doc c x
  answer (is_object n.is)
kind_by doc c (f_array x) = do
  n ← length_at doc c x
  answer (is_array n.is)
kind_by doc c f_reserved = refuse 36 c

unfoldable pub kind_here : {S : Type 0} → List ℕ → ℕ → Reading S Kind
kind_here doc c = do
  b ← byte_at doc c c
  kind_by doc c (form_of b)

unfoldable pub kind : {S : Type 0} → List ℕ → List ℕ → ℕ → Reading S Kind
kind doc list c = opening doc list c >> kind_here doc c

-- ---- its number: type byte and 64 bits

pub record Bits : Type 0 where
  pub type : ℕ
  pub bits : ℕ

-- signed and tiny ints extended by sign, all others by zeros; an int has w bytes
abbrev pub extended : Bool → ℕ → ℕ → ℕ
extended true w n = choose (ltb n (2 ^ (8 * w - 1))) n (n + (2 ^ 64 - 2 ^ (8 * w)))
extended false w n = n

abbrev pub tiny_bits : ℕ → ℕ
tiny_bits b = choose (ltb b 222) (2 ^ 64 - (222 - b)) (b - 222)

unfoldable pub number_by : {S : Type 0} → List ℕ → ℕ → ℕ → Form → Reading S Bits
number_by doc c b f_null = refuse 21 c
number_by doc c b (f_bool x) = refuse 21 c
number_by doc c b (f_int s w) = do
  n ← payload doc c (bytes w)
  answer (record { type = b; bits = extended s (bytes w) n.is })
number_by doc c b (f_float f w) = do
  n ← payload doc c (bytes w)
  need (finite f n.is) 43 c
  answer (record { type = b; bits = n.is })
number_by doc c b (f_tiny x) = answer (record { type = b; bits = tiny_bits x })
number_by doc c b (f_string x) = refuse 21 c
number_by doc c b (f_object x) = refuse 21 c
number_by doc c b (f_array x) = refuse 21 c
number_by doc c b f_reserved = refuse 36 c

unfoldable pub number_here : {S : Type 0} → List ℕ → ℕ → Reading S Bits
number_here doc c = do
  b ← byte_at doc c c
  number_by doc c b (form_of b)

unfoldable pub number_at : {S : Type 0} → List ℕ → List ℕ → ℕ → Reading S Bits
number_at doc list c = opening doc list c >> number_here doc c

-- ---- the length of a string, an object or an array

-- which of them is wanted; of any other kind 21
pub data Wanted : Type 0 where
  a_string an_object an_array : Wanted

unfoldable pub wanted_by : {S : Type 0} → List ℕ → ℕ → Form → Wanted → Reading S Numeral
wanted_by doc c f_null want = refuse 21 c
wanted_by doc c (f_bool b) want = refuse 21 c
wanted_by doc c (f_int s w) want = refuse 21 c
wanted_by doc c (f_float f w) want = refuse 21 c
wanted_by doc c (f_tiny b) want = refuse 21 c
wanted_by doc c (f_string x) a_string = length_at doc c x
wanted_by doc c (f_string x) an_object = refuse 21 c
wanted_by doc c (f_string x) an_array = refuse 21 c
wanted_by doc c (f_object x) a_string = refuse 21 c
wanted_by doc c (f_object x) an_object = length_at doc c x
wanted_by doc c (f_object x) an_array = refuse 21 c
wanted_by doc c (f_array x) a_string = refuse 21 c
wanted_by doc c (f_array x) an_object = refuse 21 c
wanted_by doc c (f_array x) an_array = length_at doc c x
wanted_by doc c f_reserved want = refuse 36 c

unfoldable pub wanted_here : {S : Type 0} → List ℕ → ℕ → Wanted → Reading S Numeral
wanted_here doc c want = do
  b ← byte_at doc c c
  wanted_by doc c (form_of b) want

-- ---- its string, both ways

unfoldable pub string_here : {S : Type 0} → List ℕ → ℕ → Reading S Span
string_here doc c = do
  n ← wanted_here doc c a_string
  _ ← text_at doc c n
  answer (record { place = n.past; len = n.is })

unfoldable pub string_at : {S : Type 0} → List ℕ → List ℕ → ℕ → Reading S Span
string_at doc list c = opening doc list c >> string_here doc c

-- the second way: the text itself
abbrev pub string_bytes : List ℕ → List ℕ → ℕ → List ℕ
string_bytes doc list c = spanned doc (ask (string_at doc list c))

-- ---- element i, member j and the first member by key

-- where element i stands
unfoldable pub element_from : {S : Type 0} → List ℕ → List ℕ → List ℕ → ℕ → ℕ → ℕ → ℕ → ℕ → Reading S ℕ
element_from doc list words count c i n at = do
  need (ltb i n) 22 c
  in_turn (walk inner doc list words count) i at

unfoldable pub element_here : {S : Type 0} → List ℕ → List ℕ → List ℕ → ℕ → ℕ → ℕ → Reading S ℕ
element_here doc list words count c i = do
  n ← wanted_here doc c an_array
  element_from doc list words count c i n.is n.past

unfoldable pub element_at : {S : Type 0} → List ℕ → List ℕ → List ℕ → ℕ → ℕ → ℕ → Reading S ℕ
element_at doc list words count c i = opening doc list c >> element_here doc list words count c i

-- where the key byte and the value of member j stand
pub record MemberAt : Type 0 where
  pub key : ℕ
  pub value : ℕ

unfoldable pub member_from : {S : Type 0} → List ℕ → List ℕ → List ℕ → ℕ → ℕ → ℕ → ℕ → ℕ → Reading S MemberAt
member_from doc list words count c j n at = do
  need (ltb j n) 22 c
  o ← in_turn (member (pass_key doc list words count) (walk inner doc list words count)) j at
  v ← pass_key doc list words count o
  answer (record { key = o; value = v })

unfoldable pub member_here : {S : Type 0} → List ℕ → List ℕ → List ℕ → ℕ → ℕ → ℕ → Reading S MemberAt
member_here doc list words count c j = do
  n ← wanted_here doc c an_object
  member_from doc list words count c j n.is n.past

unfoldable pub member_at : {S : Type 0} → List ℕ → List ℕ → List ℕ → ℕ → ℕ → ℕ → Reading S MemberAt
member_at doc list words count c j = opening doc list c >> member_here doc list words count c j

-- where the value of the first member with the key x stands, or absent
pub data Found : Type 0 where
  value_at : ℕ → Found
  absent : Found

-- from the member at o on, with so many after it; after the last key nothing is read
unfoldable pub find_from : {S : Type 0} → List ℕ → List ℕ → List ℕ → ℕ → List ℕ → ℕ → ℕ → Reading S Found
find_from doc list words count x zero o = do
  k ← read_key doc list words count o
  choose (is_equal (compare_texts (text_in doc list k) x)) (answer (value_at k.past)) (answer absent)
find_from doc list words count x (suc later) o = do
  k ← read_key doc list words count o
  choose (is_equal (compare_texts (text_in doc list k) x)) (answer (value_at k.past)) (walk inner doc list words count k.past >>= λ next. find_from doc list words count x later next)

unfoldable pub find_in : {S : Type 0} → List ℕ → List ℕ → List ℕ → ℕ → List ℕ → ℕ → ℕ → Reading S Found
find_in doc list words count x zero at = answer absent
find_in doc list words count x (suc later) at = find_from doc list words count x later at

unfoldable pub first_here : {S : Type 0} → List ℕ → List ℕ → List ℕ → ℕ → ℕ → List ℕ → Reading S Found
first_here doc list words count c x = do
  n ← wanted_here doc c an_object
  find_in doc list words count x n.is n.past

unfoldable pub first_member : {S : Type 0} → List ℕ → List ℕ → List ℕ → ℕ → ℕ → List ℕ → Reading S Found
first_member doc list words count c x = opening doc list c >> first_here doc list words count c x

-- ---- a key at its key byte, both ways; refusals as the check has them at a key, without 39 and 40

unfoldable pub key_at : {S : Type 0} → List ℕ → List ℕ → List ℕ → ℕ → ℕ → Reading S KeyRead
key_at doc list words count c = opening doc list c >> read_key doc list words count c

-- the second way: the text itself, a part of the document or of the key list; empty at a refusal
abbrev pub text_by : List ℕ → List ℕ → Asked KeyRead → List ℕ
text_by doc list (done k s) = text_in doc list k
text_by doc list (halt number place s) = []

abbrev pub key_bytes : List ℕ → List ℕ → List ℕ → ℕ → ℕ → List ℕ
key_bytes doc list words count c = text_by doc list (ask (key_at doc list words count c))
