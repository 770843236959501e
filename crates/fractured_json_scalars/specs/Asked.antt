-- The code's own way through the rules of the type byte, of lengths, of kinds and of numbers: by what the constant
-- tables say. proofs/ shows that each is the rules'.
use Rattle.std.specs.Prelude.{true, ℕ, eqb, ◌+◌, ◌^◌, ◌<◌, List, Option, Some, None}
use Rattle.json_model.specs.Choose.{choose}
use Rattle.json_model.specs.Reading.{Reading, answer, refuse, ◌>>=◌, need}
use Rattle.fractured_json_rules.specs.ByteTables.{form_of}
use Rattle.fractured_json_rules.specs.Verdict.{Numeral, byte_at}
use Rattle.fractured_json_rules.specs.Questions.{Kind, is_null, is_false, is_true, is_number, is_string, is_object, is_array, Bits, extended, tiny_bits}
use Rattle.fractured_json_values.specs.Heads.{head_of}
use Rattle.fractured_json_values.specs.Opened.{sized_at, finite_type}
use Rattle.fractured_json_values.specs.declared.types.Head.{Head}
use Rattle.fractured_json_values.specs.declared.types.ValueType.{ValueType}
use Rattle.fractured_json_values.specs.declared.types.ValueType.TheVariants.{Null, False, True, Signed, Unsigned, Tiny, Binary32, Binary64, String, Object, Array}

-- ---- the length or payload of a value of the type that is wanted, and where what it measures starts; 21 of any other type

-- the place of a type in the order of `ValueType`
abbrev pub place_of : ValueType → ℕ
place_of Null = 0
place_of False = 1
place_of True = 2
place_of Signed = 3
place_of Unsigned = 4
place_of Tiny = 5
place_of Binary32 = 6
place_of Binary64 = 7
place_of String = 8
place_of Object = 9
place_of Array = 10

unfoldable pub wanted_head : {S : Type 0} → List ℕ → ℕ → ℕ → Option Head → Reading S Numeral
wanted_head doc c want None = refuse 36 c
wanted_head doc c want (Some h) = choose (eqb (place_of h.kind) want) (sized_at doc c h.width h.tiny) (refuse 21 c)

-- by its place in that order; no value is of a type at another place
unfoldable pub wanted_in : {S : Type 0} → List ℕ → ℕ → ℕ → Reading S Numeral
wanted_in doc c want = do
  b ← byte_at doc c c
  wanted_head doc c want (head_of (form_of b))

abbrev pub wanted_type : {S : Type 0} → List ℕ → ℕ → ValueType → Reading S Numeral
wanted_type doc c want = wanted_in doc c (place_of want)

-- ---- kinds

unfoldable pub kind_type : {S : Type 0} → List ℕ → ℕ → ValueType → ℕ → ℕ → Reading S Kind
kind_type doc c Null width small = answer is_null
kind_type doc c False width small = answer is_false
kind_type doc c True width small = answer is_true
kind_type doc c String width small = sized_at doc c width small >>= λ n. answer (is_string n.is)
kind_type doc c Object width small = sized_at doc c width small >>= λ n. answer (is_object n.is)
kind_type doc c Array width small = sized_at doc c width small >>= λ n. answer (is_array n.is)
kind_type doc c _ width small = answer is_number

unfoldable pub kind_head : {S : Type 0} → List ℕ → ℕ → Option Head → Reading S Kind
kind_head doc c None = refuse 36 c
kind_head doc c (Some h) = kind_type doc c h.kind h.width h.tiny

-- ---- numbers

abbrev pub bits_of : ℕ → ℕ → Bits
bits_of b n = record { type = b; bits = n }

-- the payload of a signed int lies in its bytes, and a tiny int's place in the range of tiny ints
unfoldable pub PayloadSmall : ValueType → ℕ → ℕ → Type 0
PayloadSmall Signed width n = n < 256 ^ width
PayloadSmall Tiny width n = n < 64
PayloadSmall _ width n = Unit {0}

-- a number with the payload n: of a tiny int, its place in the range of tiny ints, which starts at BE
unfoldable pub number_type : {S : Type 0} → ℕ → ℕ → ValueType → ℕ → ℕ → Reading S Bits
number_type c b Signed width n = answer (bits_of b (extended true width n))
number_type c b Tiny width n = answer (bits_of b (tiny_bits (n + 0xBE)))
number_type c b kind width n = need (finite_type kind n) 43 c >>= λ _. answer (bits_of b n)

unfoldable pub number_sized : {S : Type 0} → List ℕ → ℕ → ℕ → ValueType → ℕ → ℕ → Reading S Bits
number_sized doc c b Null width small = refuse 21 c
number_sized doc c b False width small = refuse 21 c
number_sized doc c b True width small = refuse 21 c
number_sized doc c b String width small = refuse 21 c
number_sized doc c b Object width small = refuse 21 c
number_sized doc c b Array width small = refuse 21 c
number_sized doc c b kind width small = sized_at doc c width small >>= λ n. number_type c b kind width n.is

unfoldable pub number_head : {S : Type 0} → List ℕ → ℕ → ℕ → Option Head → Reading S Bits
number_head doc c b None = refuse 36 c
number_head doc c b (Some h) = number_sized doc c b h.kind h.width h.tiny
