-- One law for each way through the functions of numbers.rt.
use mathlib.Core.Path.{◌≡◌, refl, sym, ap, ◌∙◌}
use mathlib.Core.Bool.{Bool, true, false, not}
use mathlib.Core.List.{List, [], ◌∷◌}
use Prim.Native.Nat.{ℕ, ◌+◌, ◌-◌, ◌*◌, ◌%◌, ◌^◌, ◌≤◌, ◌<◌}
use native.Mathlib.Omega.{arith}
use borrow.Author.Rules.{rules}
use borrow.Author.Tests.{lt-ltb, le-ltb}
use lib.Dec.{T, eqb, ltb, eqb→eq, ltb→lt, nltb→le}
use lib.ListN.{get_or}
use mir.Syntax.{w64}
use mir.Val.{Fits}
use Rattle.std.specs.Prelude.{Option, Some, None}
use Rattle.json_model.specs.Choose.{choose}
use Rattle.json_model.specs.Reading.{Asked, ask, answers, refuses, answer, ◌>>=◌, need}
use Rattle.json_model.specs.declared.Refusal.{Refusal}
use Rattle.json_model.proofs.Reading.{done_answer, then, stops, pass, fail}
use Rattle.fractured_json_rules.specs.ByteTables.{one, two, four, eight, Form, f_null, f_bool, f_int, f_float, f_tiny, f_string, f_object, f_array, f_reserved, form_of}
use Rattle.fractured_json_rules.specs.Verdict.{numeral}
use Rattle.fractured_json_rules.specs.Questions.{Bits, extended, tiny_bits, number_by}
use Rattle.fractured_json_values.specs.Heads.{head_of}
use Rattle.fractured_json_values.specs.Opened.{sized_at, finite_type}
use Rattle.fractured_json_scalars.specs.Asked.{bits_of, PayloadSmall, number_type, number_sized, number_head}
use Rattle.fractured_json_values.specs.declared.types.Head.{Head}
use Rattle.fractured_json_values.specs.declared.types.ValueType.{ValueType}
use Rattle.fractured_json_values.specs.declared.types.ValueType.TheVariants.{Null, False, True, Signed, Tiny, String, Object, Array}
use Rattle.json_model.proofs.Table.{both, split, at}
use Rattle.fractured_json_values.proofs.Opening.{of_head, head_width}
use Rattle.fractured_json_values.proofs.Walks.{Sound, sound}
use Rattle.fractured_json_scalars.proofs.Forms.{number_form}

-- ---- extended by its sign: a constant table over the widths

abbrev pub signed : List ℕ
signed = 1 ∷ 128 ∷ 32_768 ∷ 8_388_608 ∷ 2_147_483_648 ∷ 549_755_813_888 ∷ 140_737_488_355_328 ∷ 36_028_797_018_963_968 ∷ 9_223_372_036_854_775_808 ∷ []

abbrev pub above : List ℕ
above =
    18_446_744_073_709_551_615 ∷ 18_446_744_073_709_551_360 ∷ 18_446_744_073_709_486_080 ∷ 18_446_744_073_692_774_400 ∷ 18_446_744_069_414_584_320
    ∷ 18_446_742_974_197_923_840 ∷ 18_446_462_598_732_840_960 ∷ 18_374_686_479_671_623_680 ∷ 0 ∷ []

right_signed : ℕ → ℕ → Bool
right_signed w x = eqb x (2 ^ (8 * w - 1))

right_above : ℕ → ℕ → Bool
right_above w x = both (eqb x (2 ^ 64 - 2 ^ (8 * w))) (eqb (256 ^ w + x) (2 ^ 64))

module _ (w : ℕ) (h : w ≤ 8) where
  below_nine : w < 9
  below_nine = omega arith

  signed_is : get_or signed w 0 ≡ 2 ^ (8 * w - 1)
  unfolding right_signed
  signed_is = eqb→eq (get_or signed w 0) (2 ^ (8 * w - 1)) (at right_signed signed tt w below_nine)

  above_both : T (eqb (get_or above w 0) (2 ^ 64 - 2 ^ (8 * w))) × T (eqb (256 ^ w + get_or above w 0) (2 ^ 64))
  unfolding right_above
  above_both = split (eqb (get_or above w 0) (2 ^ 64 - 2 ^ (8 * w))) (eqb (256 ^ w + get_or above w 0) (2 ^ 64)) (at right_above above tt w below_nine)

  above_is : get_or above w 0 ≡ 2 ^ 64 - 2 ^ (8 * w)
  above_is = eqb→eq (get_or above w 0) (2 ^ 64 - 2 ^ (8 * w)) above_both.0

  above_fills : 256 ^ w + get_or above w 0 ≡ 2 ^ 64
  above_fills = eqb→eq (256 ^ w + get_or above w 0) (2 ^ 64) above_both.1

  pub not_minus : (n : ℕ) → n < get_or signed w 0 → n ≡ extended true w n
  unfolding choose
  not_minus n l = rw (lt-ltb n (2 ^ (8 * w - 1)) (rw signed_is at l))

  pub minus : (n : ℕ) → get_or signed w 0 ≤ n → n + get_or above w 0 ≡ extended true w n
  unfolding choose
  minus n l = rw (le-ltb n (2 ^ (8 * w - 1)) (rw signed_is at l), above_is)

  pub extended_fits : (n : ℕ) → n < 256 ^ w → Fits w64 (n + get_or above w 0)
  extended_fits n l = let e = above_fills in record { fits = omega arith }

pub ruleset extend_laws = (not_minus, minus, extended_fits, rules)

-- ---- a tiny int

module _ (n : ℕ) (h : n < 64) where
  tiny_minus : n < 32 → (n + 18_446_744_073_709_551_584) % 18_446_744_073_709_551_616 ≡ tiny_bits (n + 0xBE)
  unfolding choose
  tiny_minus l = rw (lt-ltb (n + 0xBE) 222 (omega arith)) (omega arith)

  tiny_plus : 32 ≤ n → (n + 18_446_744_073_709_551_584) % 18_446_744_073_709_551_616 ≡ tiny_bits (n + 0xBE)
  unfolding choose
  tiny_plus l = rw (le-ltb (n + 0xBE) 222 (omega arith)) (omega arith)

  pub tiny_wraps : (n + 18_446_744_073_709_551_584) % 18_446_744_073_709_551_616 ≡ tiny_bits (n + 0xBE)
  tiny_wraps = go (ltb n 32) (ltb→lt n 32) (nltb→le n 32)
    where
      go : (b : Bool) → (T b → n < 32) → (T (not b) → 32 ≤ n) → (n + 18_446_744_073_709_551_584) % 18_446_744_073_709_551_616 ≡ tiny_bits (n + 0xBE)
      go true l g = tiny_minus (l tt)
      go false l g = tiny_plus (g tt)

pub ruleset tiny_laws = (tiny_wraps, rules)

-- ---- a number by its type

module _ (at b width n : ℕ) where
  pub signed_told : (x : ℕ) → x ≡ extended true width n → answers (bits_of b x) ≡ ask (number_type at b Signed width n)
  unfolding number_type
  signed_told x q = rw q

  pub tiny_told : (x : ℕ) → x ≡ tiny_bits (n + 0xBE) → answers (bits_of b x) ≡ ask (number_type at b Tiny width n)
  unfolding number_type
  tiny_told x q = rw q

  plain : (kind : ValueType) → (kind ≡ Signed → ⊥) → (kind ≡ Tiny → ⊥) → ask (number_type at b kind width n) ≡ ask (need (finite_type kind n) 43 at >>= λ _. answer (bits_of b n))
  unfolding number_type
  plain Signed f g = absurd (f refl)
  plain Tiny f g = absurd (g refl)
  plain _ f g = refl

  module _ (kind : ValueType) (f : kind ≡ Signed → ⊥) (g : kind ≡ Tiny → ⊥) (t : Bool) (ts : t ≡ finite_type kind n) where
    pub plain_told : t ≡ true → answers (bits_of b n) ≡ ask (number_type at b kind width n)
    plain_told e = sym (plain kind f g ∙ pass _ _ _ _ tt (rw (sym ts ∙ e) tt))

    pub float_refused : t ≡ false → refuses 43 at ≡ ask (number_type at b kind width n)
    float_refused e = sym (plain kind f g ∙ fail _ _ _ _ tt (rw (sym ts ∙ e) (λ u. u)))

module _ (width n : ℕ) where
  pub signed_asks : PayloadSmall Signed width n → n < 256 ^ width
  unfolding PayloadSmall
  signed_asks l = l

  pub tiny_asks : PayloadSmall Tiny width n → n < 64
  unfolding PayloadSmall
  tiny_asks l = l

pub ruleset number_type_laws = (signed_asks, tiny_asks, signed_told, tiny_told, plain_told, float_refused, rules)

-- ---- a number at a place

-- a signed int has bytes after it, and a tiny int none, but its place in its range
Placed : ValueType → ℕ → ℕ → Type 0
Placed Signed width tiny = width ≡ 0 → ⊥
Placed Tiny width tiny = (width ≡ 0) × (tiny < 64)
Placed _ width tiny = Unit {0}

HeadPlaced : Option Head → Type 0
HeadPlaced (Some h) = Placed h.kind h.width h.tiny
HeadPlaced None = Unit {0}

placed : (f : Form) → Sound f → HeadPlaced (head_of f)
unfolding HeadPlaced Placed
placed f_null h = tt
placed (f_bool false) h = tt
placed (f_bool true) h = tt
placed (f_int true one) h = λ z. omega arith
placed (f_int true two) h = λ z. omega arith
placed (f_int true four) h = λ z. omega arith
placed (f_int true eight) h = λ z. omega arith
placed (f_int false w) h = tt
placed (f_float f one) h = tt
placed (f_float f two) h = tt
placed (f_float f four) h = tt
placed (f_float f eight) h = tt
placed (f_tiny b) h = let l = h.0 in let u = h.1 in (refl, omega arith)
placed (f_string x) h = tt
placed (f_object x) h = tt
placed (f_array x) h = tt
placed f_reserved h = tt

small_in_byte : (doc : List ℕ) (o width tiny k p : ℕ) → width ≡ 0 → tiny < 64 → ask (sized_at doc o width tiny) ≡ answers (numeral k p) → k < 64
unfolding sized_at choose
small_in_byte doc o width tiny k p z l e =
    let w : answers (numeral tiny (o + 1)) ≡ answers (numeral k p) = rw z at e in
    let d : tiny ≡ k = ap (λ n. n.is) (done_answer w) in
    omega arith

module _ (doc : List ℕ) (at b : ℕ) where
  by_head : (o : Option Head) → o ≡ head_of (form_of b) → ask (number_by doc at b (form_of b)) ≡ ask (number_head doc at b o)
  by_head o os = number_form doc at b (form_of b) (sound b) tt ∙ rw os

  pub number_reserved : None ≡ head_of (form_of b) → refuses 36 at ≡ ask (number_by doc at b (form_of b))
  unfolding number_head
  number_reserved os = sym (by_head None os)

  module _ (h : Head) (hs : Some h ≡ head_of (form_of b)) where
    by_type : (k : ValueType) → h.kind ≡ k → ask (number_by doc at b (form_of b)) ≡ ask (number_sized doc at b k h.width h.tiny)
    unfolding number_head
    by_type k e = by_head _ hs ∙ rw e

    pub null_refused : h.kind ≡ Null → refuses 21 at ≡ ask (number_by doc at b (form_of b))
    unfolding number_sized
    null_refused e = sym (by_type _ e)

    pub false_refused : h.kind ≡ False → refuses 21 at ≡ ask (number_by doc at b (form_of b))
    unfolding number_sized
    false_refused e = sym (by_type _ e)

    pub true_refused : h.kind ≡ True → refuses 21 at ≡ ask (number_by doc at b (form_of b))
    unfolding number_sized
    true_refused e = sym (by_type _ e)

    pub string_refused : h.kind ≡ String → refuses 21 at ≡ ask (number_by doc at b (form_of b))
    unfolding number_sized
    string_refused e = sym (by_type _ e)

    pub object_refused : h.kind ≡ Object → refuses 21 at ≡ ask (number_by doc at b (form_of b))
    unfolding number_sized
    object_refused e = sym (by_type _ e)

    pub array_refused : h.kind ≡ Array → refuses 21 at ≡ ask (number_by doc at b (form_of b))
    unfolding number_sized
    array_refused e = sym (by_type _ e)

    number_is : (kind : ValueType) → (kind ≡ Null → ⊥) → (kind ≡ False → ⊥) → (kind ≡ True → ⊥) → (kind ≡ String → ⊥) → (kind ≡ Object → ⊥) → (kind ≡ Array → ⊥)
        → ask (number_sized doc at b kind h.width h.tiny) ≡ ask (sized_at doc at h.width h.tiny >>= λ n. number_type at b kind h.width n.is)
    unfolding number_sized
    number_is Null f g i j k l = absurd (f refl)
    number_is False f g i j k l = absurd (g refl)
    number_is True f g i j k l = absurd (i refl)
    number_is String f g i j k l = absurd (j refl)
    number_is Object f g i j k l = absurd (k refl)
    number_is Array f g i j k l = absurd (l refl)
    number_is _ f g i j k l = refl

    module _ (f : h.kind ≡ Null → ⊥) (g : h.kind ≡ False → ⊥) (i : h.kind ≡ True → ⊥) (j : h.kind ≡ String → ⊥) (k : h.kind ≡ Object → ⊥) (l : h.kind ≡ Array → ⊥) where
      sized : ask (number_by doc at b (form_of b)) ≡ ask (sized_at doc at h.width h.tiny >>= λ n. number_type at b h.kind h.width n.is)
      sized = by_type _ refl ∙ number_is h.kind f g i j k l

      pub payload_refused : (r : Refusal) → ask (sized_at doc at h.width h.tiny) ≡ refuses r.number r.place → refuses r.number r.place ≡ ask (number_by doc at b (form_of b))
      payload_refused r q = sym (sized ∙ stops _ _ tt q)

      pub payload_told : (n p : ℕ) (r : Asked Bits) → ask (sized_at doc at h.width h.tiny) ≡ answers (numeral n p) → r ≡ ask (number_type at b h.kind h.width n) → r ≡ ask (number_by doc at b (form_of b))
      payload_told n p r q e = e ∙ sym (sized ∙ then _ _ tt q)

    of_placed : (kind : ValueType) (n p : ℕ) → Placed kind h.width h.tiny → ((h.width ≡ 0 → ⊥) → n < 256 ^ h.width) → ask (sized_at doc at h.width h.tiny) ≡ answers (numeral n p) → PayloadSmall kind h.width n
    unfolding Placed PayloadSmall
    of_placed Signed n p l s q = s l
    of_placed Tiny n p l s q = small_in_byte doc at h.width h.tiny n p l.0 l.1 q
    of_placed _ n p l s q = tt

    pub payload_small : (n p : ℕ) → ((h.width ≡ 0 → ⊥) → n < 256 ^ h.width) → ask (sized_at doc at h.width h.tiny) ≡ answers (numeral n p) → PayloadSmall h.kind h.width n
    unfolding HeadPlaced
    payload_small n p s q = of_placed h.kind n p (of_head HeadPlaced (form_of b) (Some h) hs (placed (form_of b) (sound b))) s q

pub ruleset number_of_laws = (
  number_reserved,
  null_refused,
  false_refused,
  true_refused,
  string_refused,
  object_refused,
  array_refused,
  payload_refused,
  payload_told,
  payload_small,
  head_width,
  rules,
)
