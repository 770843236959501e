-- The questions' rules by the form of a type byte are the code's way by what the constant tables say of it.
use mathlib.Core.Path.{◌≡◌, refl, ap}
use mathlib.Core.Bool.{true, false}
use mathlib.Core.List.{List}
use Prim.Native.Nat.{ℕ, ◌+◌, ◌-◌, ◌≤◌}
use native.Mathlib.Omega.{arith}
use Rattle.json_model.specs.Choose.{choose}
use Rattle.json_model.specs.Number.{binary32, binary64, finite}
use Rattle.json_model.specs.Reading.{answer, follow, ◌>>=◌, need}
use Rattle.fractured_json_rules.specs.ByteTables.{Width, one, two, four, eight, bytes, Form, f_null, f_bool, f_int, f_float, f_tiny, f_string, f_object, f_array, f_reserved}
use Rattle.fractured_json_rules.specs.Questions.{kind_by, is_string, is_object, is_array, extended, tiny_bits, number_by, Wanted, a_string, an_object, an_array, wanted_by}
use Rattle.fractured_json_values.specs.Heads.{head_of}
use Rattle.fractured_json_values.specs.Opened.{sized_at, finite_type}
use Rattle.fractured_json_values.specs.declared.types.ValueType.{ValueType}
use Rattle.fractured_json_values.specs.declared.types.ValueType.TheVariants.{String, Object, Array}
use Rattle.fractured_json_scalars.specs.Asked.{place_of, wanted_head, kind_type, kind_head, bits_of, number_type, number_sized, number_head}
use Rattle.fractured_json_values.proofs.Walks.{float_of, Sound, payload_sized, length_sized}

-- a tiny int's byte is its place in its range, from BE on
tiny_bits_lem : (x : ℕ) → 0xBE ≤ x → tiny_bits x ≡ tiny_bits (x - 0xBE + 0xBE)
tiny_bits_lem x h = let e : x - 0xBE + 0xBE ≡ x = omega arith in rw e

-- the type that is wanted
abbrev pub type_of : Wanted → ValueType
type_of a_string = String
type_of an_object = Object
type_of an_array = Array

module _ {S : Type 0} (doc : List ℕ) (c : ℕ) where
  -- ---- the length of a string, an object or an array

  pub wanted_form : (want : Wanted) (f : Form) (s : S) → wanted_by doc c f want s ≡ wanted_head doc c (place_of (type_of want)) (head_of f) s
  unfolding wanted_by wanted_head choose
  wanted_form a_string f_null s = refl
  wanted_form a_string (f_bool false) s = refl
  wanted_form a_string (f_bool true) s = refl
  wanted_form a_string (f_int true w) s = refl
  wanted_form a_string (f_int false w) s = refl
  wanted_form a_string (f_float f one) s = refl
  wanted_form a_string (f_float f two) s = refl
  wanted_form a_string (f_float f four) s = refl
  wanted_form a_string (f_float f eight) s = refl
  wanted_form a_string (f_tiny b) s = refl
  wanted_form a_string (f_string x) s = ap (λ m. m s) (length_sized doc c x)
  wanted_form a_string (f_object x) s = refl
  wanted_form a_string (f_array x) s = refl
  wanted_form a_string f_reserved s = refl
  wanted_form an_object f_null s = refl
  wanted_form an_object (f_bool false) s = refl
  wanted_form an_object (f_bool true) s = refl
  wanted_form an_object (f_int true w) s = refl
  wanted_form an_object (f_int false w) s = refl
  wanted_form an_object (f_float f one) s = refl
  wanted_form an_object (f_float f two) s = refl
  wanted_form an_object (f_float f four) s = refl
  wanted_form an_object (f_float f eight) s = refl
  wanted_form an_object (f_tiny b) s = refl
  wanted_form an_object (f_string x) s = refl
  wanted_form an_object (f_object x) s = ap (λ m. m s) (length_sized doc c x)
  wanted_form an_object (f_array x) s = refl
  wanted_form an_object f_reserved s = refl
  wanted_form an_array f_null s = refl
  wanted_form an_array (f_bool false) s = refl
  wanted_form an_array (f_bool true) s = refl
  wanted_form an_array (f_int true w) s = refl
  wanted_form an_array (f_int false w) s = refl
  wanted_form an_array (f_float f one) s = refl
  wanted_form an_array (f_float f two) s = refl
  wanted_form an_array (f_float f four) s = refl
  wanted_form an_array (f_float f eight) s = refl
  wanted_form an_array (f_tiny b) s = refl
  wanted_form an_array (f_string x) s = refl
  wanted_form an_array (f_object x) s = refl
  wanted_form an_array (f_array x) s = ap (λ m. m s) (length_sized doc c x)
  wanted_form an_array f_reserved s = refl

  -- ---- a kind

  pub kind_form : (f : Form) (s : S) → kind_by doc c f s ≡ kind_head doc c (head_of f) s
  unfolding kind_by kind_head kind_type
  kind_form f_null s = refl
  kind_form (f_bool false) s = refl
  kind_form (f_bool true) s = refl
  kind_form (f_int true w) s = refl
  kind_form (f_int false w) s = refl
  kind_form (f_float f one) s = refl
  kind_form (f_float f two) s = refl
  kind_form (f_float f four) s = refl
  kind_form (f_float f eight) s = refl
  kind_form (f_tiny b) s = refl
  kind_form (f_string x) s = ap (λ m. (m >>= λ n. answer (is_string n.is)) s) (length_sized doc c x)
  kind_form (f_object x) s = ap (λ m. (m >>= λ n. answer (is_object n.is)) s) (length_sized doc c x)
  kind_form (f_array x) s = ap (λ m. (m >>= λ n. answer (is_array n.is)) s) (length_sized doc c x)
  kind_form f_reserved s = refl

  -- ---- a number

  float_form : (b : ℕ) (w : Width) (s : S) → number_by doc c b (f_float (float_of w) w) s ≡ number_head doc c b (head_of (f_float (float_of w) w)) s
  unfolding number_by number_head number_sized number_type finite_type
  float_form b one s = ap (λ m. (m >>= λ n. need (finite binary32 n.is) 43 c >>= λ _. answer (bits_of b n.is)) s) (payload_sized doc c one)
  float_form b two s = ap (λ m. (m >>= λ n. need (finite binary32 n.is) 43 c >>= λ _. answer (bits_of b n.is)) s) (payload_sized doc c two)
  float_form b four s = ap (λ m. (m >>= λ n. need (finite binary32 n.is) 43 c >>= λ _. answer (bits_of b n.is)) s) (payload_sized doc c four)
  float_form b eight s = ap (λ m. (m >>= λ n. need (finite binary64 n.is) 43 c >>= λ _. answer (bits_of b n.is)) s) (payload_sized doc c eight)

  pub number_form : (b : ℕ) (f : Form) → Sound f → (s : S) → number_by doc c b f s ≡ number_head doc c b (head_of f) s
  unfolding number_by number_head number_sized number_type finite_type sized_at choose ◌>>=◌ follow need
  number_form b f_null h s = refl
  number_form b (f_bool false) h s = refl
  number_form b (f_bool true) h s = refl
  number_form b (f_int true w) h s = ap (λ m. (m >>= λ n. answer (bits_of b (extended true (bytes w) n.is))) s) (payload_sized doc c w)
  number_form b (f_int false w) h s = ap (λ m. (m >>= λ n. answer (bits_of b n.is)) s) (payload_sized doc c w)
  number_form b (f_float f w) h s = rw h (float_form b w s)
  number_form b (f_tiny x) h s = rw (tiny_bits_lem x h.0)
  number_form b (f_string x) h s = refl
  number_form b (f_object x) h s = refl
  number_form b (f_array x) h s = refl
  number_form b f_reserved h s = refl
