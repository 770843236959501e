-- The verdict on a Fractured JSON document with a key list: docs/format/FRACTURED_JSON.md, section 6, with the numbers
-- and places of docs/format/REFUSALS.md, section 6: the list's own refusals first (KeyList.antt), 31 to 34, then
-- reading order. At a value: 35 for the type byte, 36, 35 for length or payload, 43, 41, contents. At a key: 35, 36,
-- v_uint16 byte by byte, text 35, 39, 40, or 38. Each `need` or `refuse` is one test of a rule, with its number and
-- place. The walk over a value is one definition for the check and for the questions: how a key is read is its
-- parameter. The check keeps the immediate keys passed, and has them at a refusal too.
use Rattle.std.specs.Prelude.{ℕ, zero, suc, ◌+◌, ◌-◌, ◌*◌, Bool, true, false, not, List, [], ◌∷◌, ◌++◌, ltb, leb, eqb, length, get_or}
use Rattle.json_model.specs.Bytes.{number, part}
use Rattle.json_model.specs.Limits.{least_fractured, longest, deepest}
use Rattle.json_model.specs.Number.{finite}
use Rattle.json_model.specs.Reading.{Outcome, Reading, answer, refuse, kept, keep, ◌>>=◌, ◌>>◌, need}
use Rattle.fractured_json_rules.specs.ByteTables.{bytes, Len, tiny, after, Form, f_null, f_bool, f_int, f_float, f_tiny, f_string, f_object, f_array, f_reserved, form_of, KeyNumber, in_byte, spelled, KeyForm, immediate, back_reference, global_index, k_reserved, key_form_of}
use Rattle.fractured_json_rules.specs.Meaning.{Keys}
use Rattle.fractured_json_rules.specs.KeyList.{met, count_in, key_list}

-- ---- 31 to 34

unfoldable pub header : {S : Type 0} → List ℕ → Reading S (Unit {0})
header doc = do
  need (leb least_fractured (length doc)) 31 (length doc)
  need (leb (length doc) longest) 32 (length doc)
  need (eqb (get_or doc 0 0) 0x46) 33 0
  need (eqb (get_or doc 1 0) 0x4A) 33 0
  need (eqb (get_or doc 2 0) 0x01) 34 2

-- ---- 35: bytes of a value or key run out, at its first byte

-- a number, and where it ends
pub record Numeral : Type 0 where
  pub is : ℕ
  pub past : ℕ

abbrev pub numeral : ℕ → ℕ → Numeral
numeral n e = record { is = n; past = e }

-- the byte at o, of what starts at p
unfoldable pub byte_at : {S : Type 0} → List ℕ → ℕ → ℕ → Reading S ℕ
byte_at doc o p = do
  need (ltb o (length doc)) 35 p
  answer (get_or doc o 0)

-- the number in the w bytes after the byte at o
unfoldable pub payload : {S : Type 0} → List ℕ → ℕ → ℕ → Reading S Numeral
payload doc o w = do
  need (leb (o + 1 + w) (length doc)) 35 o
  answer (numeral (number doc (o + 1) w) (o + 1 + w))

-- the length at the type byte at o
unfoldable pub length_at : {S : Type 0} → List ℕ → ℕ → Len → Reading S Numeral
length_at doc o (tiny n) = answer (numeral n (o + 1))
length_at doc o (after w) = payload doc o (bytes w)

-- a text of n.is bytes from n.past on, of what starts at o: the answer is where it ends
unfoldable pub text_at : {S : Type 0} → List ℕ → ℕ → Numeral → Reading S ℕ
text_at doc o n = do
  need (leb (n.past + n.is) (length doc)) 35 o
  answer (n.past + n.is)

-- ---- 37: v_uint16, byte by byte

-- after the byte at o stand b0, b1 and perhaps a third; the last argument says whether b1 is the last
unfoldable pub after_second : {S : Type 0} → List ℕ → ℕ → ℕ → ℕ → Bool → Reading S Numeral
after_second doc o b0 b1 true = answer (numeral (b0 - 128 + 128 * b1) (o + 3))
after_second doc o b0 b1 false = do
  b2 ← byte_at doc (o + 3) o
  need (leb b2 3) 37 (o + 3)
  answer (numeral (b0 - 128 + 128 * (b1 - 128) + 16_384 * b2) (o + 4))

-- b0 and perhaps more; the last argument says whether b0 is the last
unfoldable pub after_first : {S : Type 0} → List ℕ → ℕ → ℕ → Bool → Reading S Numeral
after_first doc o b0 true = answer (numeral b0 (o + 2))
after_first doc o b0 false = do
  b1 ← byte_at doc (o + 2) o
  after_second doc o b0 b1 (ltb b1 128)

-- the number that the key byte at o carries
unfoldable pub key_number_at : {S : Type 0} → List ℕ → ℕ → KeyNumber → Reading S Numeral
key_number_at doc o (in_byte n) = answer (numeral n (o + 1))
key_number_at doc o spelled = do
  b0 ← byte_at doc (o + 1) o
  after_first doc o b0 (ltb b0 128)

-- ---- the walk over a value: the answer is where it ends

-- n things in a row
unfoldable pub in_turn : {S : Type 0} → (ℕ → Reading S ℕ) → ℕ → ℕ → Reading S ℕ
in_turn thing zero o = answer o
in_turn thing (suc n) o = do
  next ← thing o
  in_turn thing n next

-- a member: its key, then its value
unfoldable pub member : {S : Type 0} → (ℕ → Reading S ℕ) → (ℕ → Reading S ℕ) → ℕ → Reading S ℕ
member key value o = do
  v ← key o
  value v

-- the value at o, by its form; `array` and `object` go on with a length
unfoldable pub value_by : {S : Type 0} → List ℕ → ℕ → (Numeral → Reading S ℕ) → (Numeral → Reading S ℕ) → Form → Reading S ℕ
value_by doc o array object f_null = answer (o + 1)
value_by doc o array object (f_bool b) = answer (o + 1)
value_by doc o array object (f_tiny b) = answer (o + 1)
value_by doc o array object (f_int s w) = do
  n ← payload doc o (bytes w)
  answer n.past
value_by doc o array object (f_float f w) = do
  n ← payload doc o (bytes w)
  need (finite f n.is) 43 o
  answer n.past
value_by doc o array object (f_string x) = length_at doc o x >>= text_at doc o
value_by doc o array object (f_object x) = length_at doc o x >>= object
value_by doc o array object (f_array x) = length_at doc o x >>= array
value_by doc o array object f_reserved = refuse 36 o

-- with so many levels left for containers; `key` answers where the key's value starts
unfoldable pub value : {S : Type 0} → (ℕ → Reading S ℕ) → ℕ → List ℕ → ℕ → Reading S ℕ
value key zero doc o = do
  b ← byte_at doc o o
  value_by doc o (λ n. refuse 41 o) (λ n. refuse 41 o) (form_of b)
value key (suc levels) doc o = do
  b ← byte_at doc o o
  value_by doc o (λ n. in_turn (value key levels doc) n.is n.past) (λ n. in_turn (member key (value key levels doc)) n.is n.past) (form_of b)

-- ---- 36: a key by its form

-- `byLength` goes on with the length of an immediate key's text, `byNumber` with the number of a back reference, `byIndex` with
-- a global index
unfoldable pub key_by : {S A : Type 0} → List ℕ → ℕ → (Numeral → Reading S A) → (Numeral → Reading S A) → (Numeral → Reading S A) → KeyForm → Reading S A
key_by doc o byLength byNumber byIndex (immediate x) = key_number_at doc o x >>= byLength
key_by doc o byLength byNumber byIndex (back_reference x) = key_number_at doc o x >>= byNumber
key_by doc o byLength byNumber byIndex (global_index x) = key_number_at doc o x >>= byIndex
key_by doc o byLength byNumber byIndex k_reserved = refuse 36 o

-- ---- 38, 39 and 40: a key as the check reads it, with room for so many keys

-- an immediate key at o, whose text is n.is bytes from n.past on; passed, it has its number before its value is read
unfoldable pub new_key : ℕ → List ℕ → ℕ → Numeral → Reading Keys ℕ
new_key room doc o n = do
  end ← text_at doc o n
  ks ← kept
  need (not (met doc (part doc n.past n.is) ks)) 39 o
  need (ltb (length ks) room) 40 o
  keep (ks ++ (record { start = n.past; len = n.is } ∷ []))
  answer end

unfoldable pub old_key : ℕ → Numeral → Reading Keys ℕ
old_key o n = do
  ks ← kept
  need (ltb n.is (length ks)) 38 o
  answer n.past

-- a global index, with a list of so many names
unfoldable pub listed_key : {S : Type 0} → ℕ → ℕ → Numeral → Reading S ℕ
listed_key named o n = do
  need (ltb n.is named) 38 o
  answer n.past

unfoldable pub check_key : ℕ → List ℕ → ℕ → ℕ → Reading Keys ℕ
check_key room doc named o = do
  b ← byte_at doc o o
  key_by doc o (new_key room doc o) (old_key o) (listed_key named o) (key_form_of b)

-- ---- the whole check

-- of the document, with a list of so many names
unfoldable pub document : ℕ → List ℕ → ℕ → Reading Keys (Unit {0})
document room doc named = do
  header doc
  end ← value (check_key room doc named) deepest doc 3
  need (eqb end (length doc)) 42 end

-- of the key list, and then of the document
unfoldable pub check : ℕ → List ℕ → List ℕ → Reading Keys (Unit {0})
check room doc list = do
  key_list list
  document room doc (count_in list)

-- the verdict, with the immediate keys passed before the end or the refusal
abbrev pub verdict : ℕ → List ℕ → List ℕ → Outcome Keys (Unit {0})
verdict room doc list = check room doc list []
