-- What each type byte and each key byte of Fractured JSON stands for: the tables of docs/format/FRACTURED_JSON.md,
-- sections 2.1 and 2.2. proofs/ByteTables.antt holds both against lists laid out by ranges, all 256 bytes of each.
use Rattle.std.specs.Prelude.{ℕ, ◌-◌, Bool, true, false, List, [], ◌∷◌, ltb, get_or}
use Rattle.json_model.specs.Choose.{choose}
use Rattle.json_model.specs.Number.{Float, binary32, binary64}

-- how many bytes a length or a payload takes after its byte
pub data Width : Type 0 where
  one two four eight : Width

abbrev pub bytes : Width → ℕ
bytes one = 1
bytes two = 2
bytes four = 4
bytes eight = 8

-- ---- type bytes

-- a length: in the type byte itself (a tiny one), or after it
pub data Len : Type 0 where
  tiny : ℕ → Len
  after : Width → Len

-- a tiny int is kept as its byte
pub data Form : Type 0 where
  f_null : Form
  f_bool : Bool → Form
  f_int : (signed : Bool) → Width → Form
  f_float : Float → Width → Form
  f_tiny : ℕ → Form
  f_string : Len → Form
  f_object : Len → Form
  f_array : Len → Form
  f_reserved : Form

-- 00 to 15, one type to a byte
abbrev pub first_forms : List Form
first_forms =
    f_null ∷ f_bool false ∷ f_bool true
    ∷ f_int true one ∷ f_int false one ∷ f_int true two ∷ f_int false two ∷ f_int true four ∷ f_int false four ∷ f_int true eight ∷ f_int false eight
    ∷ f_float binary32 four ∷ f_float binary64 eight
    ∷ f_string (after one) ∷ f_string (after two) ∷ f_string (after four)
    ∷ f_object (after one) ∷ f_object (after two) ∷ f_object (after four)
    ∷ f_array (after one) ∷ f_array (after two) ∷ f_array (after four)
    ∷ []

-- a tiny length is the byte less the first byte of its range
unfoldable pub form_of : ℕ → Form
form_of b =
    choose (ltb b 0x16) (get_or first_forms b f_reserved)
    (choose (ltb b 0x6E) (f_string (tiny (b - 0x16)))
    (choose (ltb b 0x9E) (f_object (tiny (b - 0x6E)))
    (choose (ltb b 0xBE) (f_array (tiny (b - 0x9E)))
    (choose (ltb b 0xFE) (f_tiny b)
    f_reserved))))

-- ---- key bytes

-- the number that a key byte carries, in itself or as a v_uint16 after it: of an immediate key its text's length, of any
-- other an index
pub data KeyNumber : Type 0 where
  in_byte : ℕ → KeyNumber
  spelled : KeyNumber

pub data KeyForm : Type 0 where
  immediate : KeyNumber → KeyForm
  back_reference : KeyNumber → KeyForm
  global_index : KeyNumber → KeyForm
  k_reserved : KeyForm

unfoldable pub key_form_of : ℕ → KeyForm
key_form_of b =
    choose (ltb b 0x03) (get_or (immediate spelled ∷ back_reference spelled ∷ global_index spelled ∷ []) b k_reserved)
    (choose (ltb b 0x57) (immediate (in_byte (b - 0x03)))
    (choose (ltb b 0xAB) (back_reference (in_byte (b - 0x57)))
    (choose (ltb b 0xFF) (global_index (in_byte (b - 0xAB)))
    k_reserved)))
