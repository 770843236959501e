-- What the constant tables of types.rt say of a type byte and of a key byte, by the rules' form.
use Rattle.std.specs.Prelude.{ℕ, ◌-◌, ◌<◌, ◌≤◌, ◌≡◌, Bool, true, false, Option, Some, None}
use Rattle.json_model.specs.Reading.{Reading}
use Rattle.fractured_json_rules.specs.ByteTables.{bytes, Width, one, two, four, eight, Len, tiny, after, Form, f_null, f_bool, f_int, f_float, f_tiny, f_string, f_object, f_array, f_reserved, KeyNumber, in_byte, spelled, KeyForm, immediate, back_reference, global_index, k_reserved}
use Rattle.fractured_json_rules.specs.Verdict.{Numeral}
use Rattle.fractured_json_values.specs.declared.types.Head.{Head}
use Rattle.fractured_json_values.specs.declared.types.ValueType.{ValueType}
use Rattle.fractured_json_values.specs.declared.types.ValueType.TheVariants.{Null, False, True, Signed, Unsigned, Tiny, Binary32, Binary64, String, Object, Array}
use Rattle.fractured_json_values.specs.declared.types.KeyHead.{KeyHead}
use Rattle.fractured_json_values.specs.declared.types.KeyKind.{KeyKind}
use Rattle.fractured_json_values.specs.declared.types.KeyKind.TheVariants.{Immediate, Back, Global}

-- the place of byte b in the range of so many bytes from one on that is not after it; past its end none
abbrev pub Stands : ℕ → ℕ → ℕ → Option ℕ → Type 0
Stands b at len (Some place) = (place ≡ b - at) × (b - at < len)
Stands b at len None = len ≤ b - at

-- the types of value with a length, in the type byte or after it
abbrev pub has_length : ValueType → Bool
has_length String = true
has_length Object = true
has_length Array = true
has_length _ = false

abbrev pub head : ValueType → ℕ → ℕ → Head
head k w t = record { kind = k; width = w; tiny = t }

-- the bytes of a length after its type byte, and a length in the byte itself
abbrev pub width_in : Len → ℕ
width_in (tiny n) = 0
width_in (after w) = bytes w

abbrev pub tiny_in : Len → ℕ
tiny_in (tiny n) = n
tiny_in (after w) = 0

-- a float by its width: four bytes are a binary32, eight a binary64
abbrev pub float_type : Width → ValueType
float_type one = Binary32
float_type two = Binary32
float_type four = Binary32
float_type eight = Binary64

-- of a reserved byte none
abbrev pub head_of : Form → Option Head
head_of f_null = Some (head Null 0 0)
head_of (f_bool false) = Some (head False 0 0)
head_of (f_bool true) = Some (head True 0 0)
head_of (f_int true w) = Some (head Signed (bytes w) 0)
head_of (f_int false w) = Some (head Unsigned (bytes w) 0)
head_of (f_tiny b) = Some (head Tiny 0 (b - 0xBE))
head_of (f_float f w) = Some (head (float_type w) (bytes w) 0)
head_of (f_string x) = Some (head String (width_in x) (tiny_in x))
head_of (f_object x) = Some (head Object (width_in x) (tiny_in x))
head_of (f_array x) = Some (head Array (width_in x) (tiny_in x))
head_of f_reserved = None

abbrev pub key_head : KeyKind → Option ℕ → KeyHead
key_head k n = record { kind = k; number = n }

-- the number in the byte itself
abbrev pub number_in : KeyNumber → Option ℕ
number_in (in_byte n) = Some n
number_in spelled = None

abbrev pub key_head_of : KeyForm → Option KeyHead
key_head_of (immediate x) = Some (key_head Immediate (number_in x))
key_head_of (back_reference x) = Some (key_head Back (number_in x))
key_head_of (global_index x) = Some (key_head Global (number_in x))
key_head_of k_reserved = None

-- ---- a key, by what the table of key bytes says

-- the number that it carries
abbrev pub key_number_by : Option ℕ → KeyNumber
key_number_by (Some n) = in_byte n
key_number_by None = spelled

-- once that has been read: `byLength` goes on with an immediate key, `byNumber` with a back reference, `byIndex` with a global
-- index
abbrev pub numbered_by : {S A : Type 0} → (Numeral → Reading S A) → (Numeral → Reading S A) → (Numeral → Reading S A) → KeyKind → Numeral → Reading S A
numbered_by byLength byNumber byIndex Immediate n = byLength n
numbered_by byLength byNumber byIndex Back n = byNumber n
numbered_by byLength byNumber byIndex Global n = byIndex n
