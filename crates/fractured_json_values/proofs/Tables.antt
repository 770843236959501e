-- The constant tables of types.rt against the rules' byte tables. A type with a byte of its own is tested by computing, one byte
-- after the other; a range goes by its two ends.
use mathlib.Core.Path.{◌≡◌, refl}
use mathlib.Core.Bool.{Bool, true, false, not}
use mathlib.Core.List.{List, [], ◌∷◌}
use Prim.Native.Nat.{ℕ, zero, suc, ◌+◌, ◌-◌, ◌/◌, ◌%◌, ◌<◌, ◌≤◌}
use native.Mathlib.Omega.{arith}
use borrow.Author.Rules.{rules}
use borrow.Author.Tests.{lt-ltb, le-ltb, eq-eqb, ne_eqb}
use lib.Dec.{T, ltb, eqb, ltb→lt, nltb→le}
use lib.ListN.{get_or}
use mir.Syntax.{w64}
use mir.Val.{Fits}
use Rattle.std.specs.Prelude.{Option, Some, None}
use Rattle.json_model.specs.Choose.{choose}
use Rattle.fractured_json_rules.specs.ByteTables.{form_of, key_form_of}
use Rattle.fractured_json_values.specs.Heads.{head, head_of, key_head, key_head_of}
use Rattle.fractured_json_values.specs.declared.types.Head.{Head}
use Rattle.fractured_json_values.specs.declared.types.ValueType.TheVariants.{Null, False, True, Signed, Unsigned, Tiny, Binary32, Binary64, String, Object, Array}
use Rattle.fractured_json_values.specs.declared.types.KeyKind.TheVariants.{Immediate, Back, Global}

-- ---- types with a byte of their own

abbrev pub number_widths : List ℕ
number_widths = 1 ∷ 1 ∷ 2 ∷ 2 ∷ 4 ∷ 4 ∷ 8 ∷ 8 ∷ 4 ∷ 8 ∷ []

abbrev pub length_widths : List ℕ
length_widths = 1 ∷ 2 ∷ 4 ∷ []

-- what holds of each number below n holds of every one
Each : (ℕ → Type 0) → ℕ → Type 0
Each P zero = Unit {0}
Each P (suc n) = Each P n × P n

one_more : (P : ℕ → Type 0) (n i : ℕ) → (i < n → P i) → P n → i < suc n → P i
one_more P n i below last h = go (ltb i n) (ltb→lt i n) (nltb→le i n)
  where
    go : (b : Bool) → (T b → i < n) → (T (not b) → n ≤ i) → P i
    go true p q = below (p tt)
    go false p q = let l = q tt in let z : i ≡ n = omega arith in rw z last

each : (P : ℕ → Type 0) (n : ℕ) → Each P n → (i : ℕ) → i < n → P i
unfolding Each
each P zero e i h = absurd (omega arith)
each P (suc n) e i h = one_more P n i (each P n e.0 i) e.1 h

Plain : ℕ → Type 0
Plain i = Some (head (choose (eqb i 0) Null (choose (eqb i 1) False True)) 0 0) ≡ head_of (form_of i)

Number : ℕ → Type 0
Number i =
    (Some (head (choose (eqb i 8) Binary32 (choose (eqb i 9) Binary64 (choose (eqb (i % 2) 0) Signed Unsigned))) (get_or number_widths i 0) 0) ≡ head_of (form_of (i + 3)))
    × T (ltb (get_or number_widths i 0) 9)

Sized : ℕ → Type 0
Sized i =
    (Some (head (choose (eqb (i / 3) 0) String (choose (eqb (i / 3) 1) Object Array)) (get_or length_widths (i % 3) 0) 0) ≡ head_of (form_of (i + 13)))
    × T (ltb (get_or length_widths (i % 3) 0) 9)

all_plain : Each Plain 3
unfolding Each Plain form_of choose
all_plain = (((tt, refl), refl), refl)

all_numbers : Each Number 10
unfolding Each Number form_of choose
all_numbers = ((((((((((tt, (refl, tt)), (refl, tt)), (refl, tt)), (refl, tt)), (refl, tt)), (refl, tt)), (refl, tt)), (refl, tt)), (refl, tt)), (refl, tt))

all_sized : Each Sized 9
unfolding Each Sized form_of choose
all_sized = (((((((((tt, (refl, tt)), (refl, tt)), (refl, tt)), (refl, tt)), (refl, tt)), (refl, tt)), (refl, tt)), (refl, tt)), (refl, tt))

module _ (i : ℕ) (h : i < 3) where
  plain_is : Plain i
  plain_is = each Plain 3 all_plain i h

  pub null_right : i ≡ 0 → Some (head Null 0 0) ≡ head_of (form_of i)
  unfolding Plain choose
  null_right e = rw (eq-eqb i 0 e) at plain_is

  pub false_right : i ≡ 1 → Some (head False 0 0) ≡ head_of (form_of i)
  unfolding Plain choose
  false_right e = let f : i ≡ 0 → ⊥ = λ z. omega arith in rw (ne_eqb i 0 f, eq-eqb i 1 e) at plain_is

  pub true_right : (i ≡ 0 → ⊥) → (i ≡ 1 → ⊥) → Some (head True 0 0) ≡ head_of (form_of i)
  unfolding Plain choose
  true_right f g = rw (ne_eqb i 0 f, ne_eqb i 1 g) at plain_is

module _ (i : ℕ) (h : i < 10) where
  number_is : Number i
  number_is = each Number 10 all_numbers i h

  pub number_fits : Fits w64 (get_or number_widths i 0)
  unfolding Number
  number_fits = let l = ltb→lt _ _ number_is.1 in record { fits = omega arith }

  pub binary32_right : i ≡ 8 → Some (head Binary32 (get_or number_widths i 0) 0) ≡ head_of (form_of (i + 3))
  unfolding Number choose
  binary32_right e = rw (eq-eqb i 8 e) at number_is.0

  pub binary64_right : i ≡ 9 → Some (head Binary64 (get_or number_widths i 0) 0) ≡ head_of (form_of (i + 3))
  unfolding Number choose
  binary64_right e = let f : i ≡ 8 → ⊥ = λ z. omega arith in rw (ne_eqb i 8 f, eq-eqb i 9 e) at number_is.0

  module _ (f : i ≡ 8 → ⊥) (g : i ≡ 9 → ⊥) where
    pub signed_right : i % 2 ≡ 0 → Some (head Signed (get_or number_widths i 0) 0) ≡ head_of (form_of (i + 3))
    unfolding Number choose
    signed_right e = rw (ne_eqb i 8 f, ne_eqb i 9 g, eq-eqb (i % 2) 0 e) at number_is.0

    pub unsigned_right : (i % 2 ≡ 0 → ⊥) → Some (head Unsigned (get_or number_widths i 0) 0) ≡ head_of (form_of (i + 3))
    unfolding Number choose
    unsigned_right e = rw (ne_eqb i 8 f, ne_eqb i 9 g, ne_eqb (i % 2) 0 e) at number_is.0

pub ruleset number_laws = (number_fits, binary32_right, binary64_right, signed_right, unsigned_right, rules)

module _ (i : ℕ) (h : i < 9) where
  sized_is : Sized i
  sized_is = each Sized 9 all_sized i h

  pub length_fits : Fits w64 (get_or length_widths (i % 3) 0)
  unfolding Sized
  length_fits = let l = ltb→lt _ _ sized_is.1 in record { fits = omega arith }

  pub string_right : i / 3 ≡ 0 → Some (head String (get_or length_widths (i % 3) 0) 0) ≡ head_of (form_of (i + 13))
  unfolding Sized choose
  string_right e = rw (eq-eqb (i / 3) 0 e) at sized_is.0

  pub object_right : i / 3 ≡ 1 → Some (head Object (get_or length_widths (i % 3) 0) 0) ≡ head_of (form_of (i + 13))
  unfolding Sized choose
  object_right e = let f : i / 3 ≡ 0 → ⊥ = λ z. omega arith in rw (ne_eqb (i / 3) 0 f, eq-eqb (i / 3) 1 e) at sized_is.0

  pub array_right : (i / 3 ≡ 0 → ⊥) → (i / 3 ≡ 1 → ⊥) → Some (head Array (get_or length_widths (i % 3) 0) 0) ≡ head_of (form_of (i + 13))
  unfolding Sized choose
  array_right f g = rw (ne_eqb (i / 3) 0 f, ne_eqb (i / 3) 1 g) at sized_is.0

pub ruleset length_laws = (length_fits, string_right, object_right, array_right, rules)

-- ---- ranges

module _ (b : ℕ) (m : 22 ≤ b) where
  pub tiny_string : b - 22 < 88 → Some (head String 0 (b - 22)) ≡ head_of (form_of b)
  unfolding form_of choose
  tiny_string h = let u : b < 110 = omega arith in rw (le-ltb b 22 m, lt-ltb b 110 u)

  module _ (m1 : 88 ≤ b - 22) where
    pub tiny_object : b - 110 < 48 → Some (head Object 0 (b - 110)) ≡ head_of (form_of b)
    unfolding form_of choose
    tiny_object h = let l : 110 ≤ b = omega arith in let u : b < 158 = omega arith in rw (le-ltb b 22 m, le-ltb b 110 l, lt-ltb b 158 u)

    module _ (m2 : 48 ≤ b - 110) where
      pub tiny_array : b - 158 < 32 → Some (head Array 0 (b - 158)) ≡ head_of (form_of b)
      unfolding form_of choose
      tiny_array h =
          let l : 110 ≤ b = omega arith in
          let k : 158 ≤ b = omega arith in
          let u : b < 190 = omega arith in
          rw (le-ltb b 22 m, le-ltb b 110 l, le-ltb b 158 k, lt-ltb b 190 u)

      module _ (m3 : 32 ≤ b - 158) where
        above : (190 ≤ b) × (158 ≤ b) × (110 ≤ b)
        above = (omega arith, omega arith, omega arith)

        pub tiny_int : b - 190 < 64 → Some (head Tiny 0 (b - 190)) ≡ head_of (form_of b)
        unfolding form_of choose
        tiny_int h = let u : b < 254 = omega (arith, above) in rw (le-ltb b 22 m, le-ltb b 110 above.2, le-ltb b 158 above.1, le-ltb b 190 above.0, lt-ltb b 254 u)

        pub reserved_type : 64 ≤ b - 190 → None ≡ head_of (form_of b)
        unfolding form_of choose
        reserved_type h = let u : 254 ≤ b = omega (arith, above) in rw (le-ltb b 22 m, le-ltb b 110 above.2, le-ltb b 158 above.1, le-ltb b 190 above.0, le-ltb b 254 u)

pub ruleset tiny_laws = (tiny_string, tiny_object, tiny_array, tiny_int, reserved_type, rules)

-- the byte from its place in the range
module _ (b : ℕ) (r : Option Head) where
  pub from_number : 3 ≤ b → r ≡ head_of (form_of (b - 3 + 3)) → r ≡ head_of (form_of b)
  from_number h e = let z : b - 3 + 3 ≡ b = omega arith in rw z at e

  pub from_length : 10 ≤ b - 3 → r ≡ head_of (form_of (b - 13 + 13)) → r ≡ head_of (form_of b)
  from_length h e = let z : b - 13 + 13 ≡ b = omega arith in rw z at e

pub ruleset type_laws = (null_right, false_right, true_right, from_number, from_length, rules)

-- ---- key bytes

module _ (b : ℕ) where
  pub spelled_first : b ≡ 0 → Some (key_head Immediate None) ≡ key_head_of (key_form_of b)
  unfolding key_form_of choose
  spelled_first e = rw e

  pub spelled_second : b ≡ 1 → Some (key_head Back None) ≡ key_head_of (key_form_of b)
  unfolding key_form_of choose
  spelled_second e = rw e

  pub spelled_third : b ≡ 2 → Some (key_head Global None) ≡ key_head_of (key_form_of b)
  unfolding key_form_of choose
  spelled_third e = rw e

module _ (b : ℕ) (m : 3 ≤ b) where
  pub key_immediate : b - 3 < 84 → Some (key_head Immediate (Some (b - 3))) ≡ key_head_of (key_form_of b)
  unfolding key_form_of choose
  key_immediate h = let u : b < 87 = omega arith in rw (le-ltb b 3 m, lt-ltb b 87 u)

  module _ (m1 : 84 ≤ b - 3) where
    pub key_back : b - 87 < 84 → Some (key_head Back (Some (b - 87))) ≡ key_head_of (key_form_of b)
    unfolding key_form_of choose
    key_back h = let l : 87 ≤ b = omega arith in let u : b < 171 = omega arith in rw (le-ltb b 3 m, le-ltb b 87 l, lt-ltb b 171 u)

    module _ (m2 : 84 ≤ b - 87) where
      pub key_global : b - 171 < 84 → Some (key_head Global (Some (b - 171))) ≡ key_head_of (key_form_of b)
      unfolding key_form_of choose
      key_global h =
          let l : 87 ≤ b = omega arith in
          let k : 171 ≤ b = omega arith in
          let u : b < 255 = omega arith in
          rw (le-ltb b 3 m, le-ltb b 87 l, le-ltb b 171 k, lt-ltb b 255 u)

      pub key_reserved : 84 ≤ b - 171 → None ≡ key_head_of (key_form_of b)
      unfolding key_form_of choose
      key_reserved h =
          let l : 87 ≤ b = omega arith in
          let k : 171 ≤ b = omega arith in
          let u : 255 ≤ b = omega arith in
          rw (le-ltb b 3 m, le-ltb b 87 l, le-ltb b 171 k, le-ltb b 255 u)

pub ruleset key_laws = (spelled_first, spelled_second, spelled_third, key_immediate, key_back, key_global, key_reserved, rules)
