-- The two byte tables, all 256 bytes of each, against lists laid out by ranges as docs/format/FRACTURED_JSON.md,
-- sections 2.1 and 2.2, lays them out; and what each tiny int stands for, as a number of the tree and as 64 bits.
use Prim.Native.Nat.{ℕ, zero, suc, ◌+◌, ◌-◌, ◌^◌}
use mathlib.Core.Bool.{true, false}
use mathlib.Core.List.{List, [], ◌∷◌, ◌++◌, map}
use mathlib.Core.Path.{◌≡◌, refl}
use Rattle.json_model.specs.Choose.{choose}
use Rattle.json_model.specs.Number.{binary32, binary64, scaled, whole_tree}
use Rattle.json_model.specs.Tree.{num}
use Rattle.fractured_json_rules.specs.ByteTables.{one, two, four, eight, bytes, tiny, after, Form, f_null, f_bool, f_int, f_float, f_tiny, f_string, f_object, f_array, f_reserved, form_of, in_byte, spelled, KeyForm}
use Rattle.fractured_json_rules.specs.ByteTables.{immediate, back_reference, global_index, k_reserved, key_form_of}
use Rattle.fractured_json_rules.specs.Meaning.{tiny_tree}
use Rattle.fractured_json_rules.specs.Questions.{tiny_bits}

-- f k, f (k + 1), .. : n of them
abbrev run : {A : Type 0} → (ℕ → A) → ℕ → ℕ → List A
run f k zero = []
run f k (suc n) = f k ∷ run f (k + 1) n

-- 00 to 15 as the table of docs/format/FRACTURED_JSON.md, section 2.1, has them, a type to a byte
abbrev one_byte_forms : List Form
one_byte_forms =
    -- null, false, true
    f_null ∷ f_bool false ∷ f_bool true ∷
    -- int8, uint8, int16, uint16, int32, uint32, int64, uint64
    f_int true one ∷ f_int false one ∷ f_int true two ∷ f_int false two ∷ f_int true four ∷ f_int false four ∷ f_int true eight ∷ f_int false eight ∷
    -- float, double
    f_float binary32 four ∷ f_float binary64 eight ∷
    -- string 8, 16 and 32, object 8, 16 and 32, array 8, 16 and 32
    f_string (after one) ∷ f_string (after two) ∷ f_string (after four) ∷
    f_object (after one) ∷ f_object (after two) ∷ f_object (after four) ∷
    f_array (after one) ∷ f_array (after two) ∷ f_array (after four) ∷
    []

-- these, then 16 to 6D, 6E to 9D, 9E to BD, BE to FD, and FE and FF
abbrev forms : List Form
forms =
    one_byte_forms ++ run (λ n. f_string (tiny n)) 0 88 ++ run (λ n. f_object (tiny n)) 0 48 ++ run (λ n. f_array (tiny n)) 0 32
    ++ run (λ n. f_tiny n) 0xBE 64 ++ f_reserved ∷ f_reserved ∷ []

pub widths : map bytes (one ∷ two ∷ four ∷ eight ∷ []) ≡ 1 ∷ 2 ∷ 4 ∷ 8 ∷ []
widths = refl

pub type_bytes : run form_of 0 256 ≡ forms
unfolding form_of choose
type_bytes = refl

-- 00 to 02, then 03 to 56, 57 to AA, AB to FE, and FF
abbrev key_forms : List KeyForm
key_forms =
    immediate spelled ∷ back_reference spelled ∷ global_index spelled ∷ []
    ++ run (λ n. immediate (in_byte n)) 0 84 ++ run (λ n. back_reference (in_byte n)) 0 84 ++ run (λ n. global_index (in_byte n)) 0 84
    ++ k_reserved ∷ []

pub key_bytes_lem : run key_form_of 0 256 ≡ key_forms
unfolding key_form_of choose
key_bytes_lem = refl

-- -32 to -1, then 0 to 31
pub tiny_ints : run tiny_tree 0xBE 64 ≡ run (λ n. num true (scaled (32 - n))) 0 32 ++ run (λ n. num false (scaled n)) 0 32
unfolding tiny_tree whole_tree choose
tiny_ints = refl

pub tiny_bits_lem : run tiny_bits 0xBE 64 ≡ run (λ n. n) (2 ^ 64 - 32) 32 ++ run (λ n. n) 0 32
unfolding choose
tiny_bits_lem = refl
