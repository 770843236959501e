-- The areas of a BinaryJson document: docs/format/BINARY_JSON.md, section 2. Header, tree, string index, texts and
-- numbers are found by the offsets that the document itself gives; offsets count from its first byte. These definitions
-- say where a thing would stand, whether or not the document keeps the rules.
use Rattle.std.specs.Prelude.{ℕ, zero, suc, ◌+◌, ◌-◌, ◌*◌, List}
use Rattle.json_model.specs.Bytes.{number, low_field, high_field, part}

-- ---- words: four bytes, little endian; the five-bit field is the lower one

abbrev pub word : List ℕ → ℕ → ℕ
word doc o = number doc o 4

abbrev pub low : List ℕ → ℕ → ℕ
low doc o = low_field 5 (word doc o)

abbrev pub high : List ℕ → ℕ → ℕ
high doc o = high_field 5 (word doc o)

-- ---- the string index: S, its count C, and its slots

unfoldable pub index : List ℕ → ℕ
index doc = high doc 0

unfoldable pub count : List ℕ → ℕ
count doc = word doc (index doc)

-- slot k stands at S + 4 + 4k
unfoldable pub slot : List ℕ → ℕ → ℕ
slot doc k = index doc + 4 + 4 * k

-- Text 0 starts after the slots, text k + 1 where text k ends: at the offset that slot k holds, one past its closing zero.
unfoldable pub text : List ℕ → ℕ → ℕ
text doc zero = slot doc (count doc)
text doc (suc k) = high doc (slot doc k)

-- text k without its closing zero
unfoldable pub content : List ℕ → ℕ → List ℕ
content doc k = part doc (text doc k) (text doc (suc k) - 1 - text doc k)

-- ---- the numbers: N, the last text's end

unfoldable pub numbers : List ℕ → ℕ
numbers doc = text doc (count doc)

-- ---- the kinds of a Meta and the types of an Entry

pub data Kind : Type 0 where
  k_array k_object k_scalar k_other : Kind

unfoldable pub kind_of : ℕ → Kind
kind_of zero = k_array
kind_of (suc zero) = k_object
kind_of (suc (suc zero)) = k_scalar
kind_of (suc (suc (suc n))) = k_other

pub data EntryType : Type 0 where
  t_false t_true t_null t_string t_number t_container t_other : EntryType

unfoldable pub type_of : ℕ → EntryType
type_of zero = t_false
type_of (suc zero) = t_true
type_of (suc (suc zero)) = t_null
type_of (suc (suc (suc zero))) = t_string
type_of (suc (suc (suc (suc zero)))) = t_number
type_of (suc (suc (suc (suc (suc zero))))) = t_container
type_of (suc (suc (suc (suc (suc (suc n)))))) = t_other
