-- One law for each way through the functions of values.rt: its premises are the tests as the code makes them.
use mathlib.Core.Path.{◌≡◌, refl, sym, ap, ◌∙◌}
use mathlib.Core.Bool.{Bool, true, false, not}
use mathlib.Core.List.{List}
use Prim.Native.Nat.{ℕ, zero, suc, ◌+◌, ◌-◌, ◌*◌, ◌/◌, ◌%◌, ◌^◌, ◌≤◌, ◌<◌}
use native.Mathlib.Nat.{add-zero, div-one, div-div-eq-div-mul, pow-succ'}
use native.Mathlib.Omega.{arith}
use borrow.Author.Rules.{rules}
use borrow.Author.Tests.{ne_eqb}
use lib.Dec.{T, eqb, le→leb, eqb→eq}
use lib.ListN.{length, get_or}
use mir.Syntax.{w8, w64}
use mir.Val.{Fits}
use Rattle.std.proofs.lemmas.Bool.{true≢false}
use Rattle.json_model.specs.Bytes.{Bytes, number}
use Rattle.json_model.specs.Choose.{choose}
use Rattle.json_model.specs.Number.{finite}
use Rattle.json_model.specs.Reading.{ask, answers, refuses, ◌>>=◌, follow, need}
use Rattle.json_model.specs.declared.Refusal.{Refusal}
use Rattle.json_model.proofs.Bytes.{number_small}
use Rattle.json_model.proofs.Reading.{over, then, stops, pass, fail}
use Rattle.std.specs.Prelude.{Option, Some, None, Result}
use Rattle.fractured_json_rules.specs.ByteTables.{Width, one, two, four, eight, bytes, Len, tiny, after, Form, f_null, f_bool, f_int, f_float, f_tiny, f_string, f_object, f_array, f_reserved, form_of}
use Rattle.fractured_json_rules.specs.Verdict.{byte_at, payload, numeral}
use Rattle.fractured_json_theorems.proofs.Readers.{byte_is, byte_past, payload_is}
use Rattle.fractured_json_values.specs.Heads.{has_length, head, width_in, head_of}
use Rattle.fractured_json_values.specs.Opened.{sized_at, leaf, inside, finite_type, finite_at, FloatInside, FloatWidth, LengthWidth, open_scalar, open_type, open_head, opened_at, told_open}
use Rattle.fractured_json_values.specs.declared.types.Head.{Head}
use Rattle.fractured_json_values.specs.declared.types.ValueType.{ValueType}
use Rattle.fractured_json_values.specs.declared.types.ValueType.TheVariants.{Null, False, True, Signed, Unsigned, Tiny, Binary32, Binary64, String, Object, Array}
use Rattle.fractured_json_values.specs.declared.values.Open.{Open}
use Rattle.fractured_json_values.proofs.Forms.{every_form}

-- ---- a length or payload

-- what holds of a form's head holds of the head that the code has of it
pub of_head : (P : Option Head → Type 0) (f : Form) (o : Option Head) → o ≡ head_of f → P (head_of f) → P o
of_head P f o e p = rw e p

-- the width that the table gives is at most 8
Small : Option Head → Type 0
Small (Some h) = h.width ≤ 8
Small None = Unit {0}

small_bytes : (w : Width) → bytes w ≤ 8
small_bytes one = omega arith
small_bytes two = omega arith
small_bytes four = omega arith
small_bytes eight = omega arith

small_length : (x : Len) → width_in x ≤ 8
small_length (tiny n) = omega arith
small_length (after w) = small_bytes w

width_small : (f : Form) → Small (head_of f)
unfolding Small
width_small f_null = omega arith
width_small (f_bool false) = omega arith
width_small (f_bool true) = omega arith
width_small (f_int true w) = small_bytes w
width_small (f_int false w) = small_bytes w
width_small (f_tiny b) = omega arith
width_small (f_float f w) = small_bytes w
width_small (f_string x) = small_length x
width_small (f_object x) = small_length x
width_small (f_array x) = small_length x
width_small f_reserved = tt

pub head_width : (h : Head) (f : Form) → Some h ≡ head_of f → h.width ≤ 8
unfolding Small
head_width h f e = of_head Small f (Some h) e (width_small f)

module _ (doc : List ℕ) (at width tiny : ℕ) where
  pub in_byte : width ≡ 0 → at < length doc → ask (sized_at doc at width tiny) ≡ answers (numeral tiny (at + 1))
  unfolding sized_at choose
  in_byte z h = rw z

  module _ (more : width ≡ 0 → ⊥) where
    pub short_payload : at < length doc → length doc - at ≤ width → ask (sized_at doc at width tiny) ≡ refuses 35 at
    unfolding sized_at choose payload
    short_payload i h =
        let o : length doc < at + 1 + width = omega arith in
        rw (ne_eqb width 0 more) (fail _ _ _ _ tt (over o))

    pub payload_read : (n : ℕ) → at < length doc → width < length doc - at → n ≡ number doc (at + 1) width
        → ask (sized_at doc at width tiny) ≡ answers (numeral n (at + 1 + width))
    unfolding sized_at choose
    payload_read n i h e =
        let o : at + 1 + width ≤ length doc = omega arith in
        rw (ne_eqb width 0 more, e) (payload_is doc at width tt o)

    pub payload_small : (n : ℕ) → ((k : ℕ) → Fits w8 (get_or doc k 0)) → n ≡ number doc (at + 1) width → n < 256 ^ width
    payload_small n g e = rw e (number_small doc (λ k. (g k).fits) (at + 1) width)

    pub payload_inside : at < length doc → width < length doc - at → at + 1 + width ≤ length doc
    payload_inside i h = omega arith

pub ruleset sized_laws = (in_byte, short_payload, payload_read, payload_small, payload_inside, rules)

-- ---- the byte at a place

pub ruleset byte_laws = (byte_past, byte_is, rules)

-- ---- finite floats

module _ (n : ℕ) where
  pub as_binary32 : not (eqb (n / 8_388_608 % 256) 255) ≡ finite_type Binary32 n
  unfolding finite_type finite
  as_binary32 = refl

  pub as_binary64 : not (eqb (n / 4_503_599_627_370_496 % 2_048) 2_047) ≡ finite_type Binary64 n
  unfolding finite_type finite
  as_binary64 = refl

pub no_float : (kind : ValueType) (n : ℕ) → (kind ≡ Binary32 → ⊥) → (kind ≡ Binary64 → ⊥) → true ≡ finite_type kind n
unfolding finite_type
no_float Binary32 n f g = absurd (f refl)
no_float Binary64 n f g = absurd (g refl)
no_float _ n f g = refl

pub ruleset finite_laws = (as_binary32, as_binary64, no_float, rules)

-- the two highest bytes of a number
shift : (d x n : ℕ) → d < 256 → (d + 256 * x) / 256 ^ suc n ≡ x / 256 ^ n
shift d x n h =
    let z : (d + 256 * x) / 256 ≡ x = omega arith in
    rw pow-succ' (sym (div-div-eq-div-mul (d + 256 * x) 256 (256 ^ n)) ∙ ap (λ y. y / 256 ^ n) z)

both_bytes : (doc : List ℕ) (o : ℕ) → number doc o 2 / 1 ≡ number doc (o + 0) 2
both_bytes doc o = div-one (number doc o 2) ∙ ap (λ p. number doc p 2) (sym (add-zero o))

high_bytes : (doc : List ℕ) → Bytes doc → (o n : ℕ) → number doc o (n + 2) / 256 ^ n ≡ number doc (o + n) 2
unfolding number
high_bytes doc b o zero = both_bytes doc o
high_bytes doc b o (suc n) =
    let e : suc n + 2 ≡ suc (n + 2) = omega arith in
    let p : o + suc n ≡ o + 1 + n = omega arith in
    rw (e, p) (shift (get_or doc o 0) (number doc (o + 1) (n + 2)) n (b o) ∙ high_bytes doc b (o + 1) n)

module _ (doc : List ℕ) (at w : ℕ) (g : (k : ℕ) → Fits w8 (get_or doc k 0)) where
  exponent : (n m : ℕ) → number doc (at + 1) (n + 2) / (256 ^ n * m) ≡ number doc (at + 1 + n) 2 / m
  exponent n m = sym (div-div-eq-div-mul (number doc (at + 1) (n + 2)) (256 ^ n) m) ∙ ap (λ x. x / m) (high_bytes doc (λ k. (g k).fits) (at + 1) n)

  pub binary32_at : w ≡ number doc (at + 3) 2 → not (eqb (w / 128 % 256) 255) ≡ finite_at doc at Binary32
  unfolding finite_at finite
  binary32_at e =
      let p : at + 1 + 2 ≡ at + 3 = omega arith in
      let x : number doc (at + 1) 4 / 8_388_608 ≡ number doc (at + 1 + 2) 2 / 128 = exponent 2 128 in
      rw (x, p, e)

  pub binary64_at : w ≡ number doc (at + 7) 2 → not (eqb (w / 16 % 2_048) 2_047) ≡ finite_at doc at Binary64
  unfolding finite_at finite
  binary64_at e =
      let p : at + 1 + 6 ≡ at + 7 = omega arith in
      let x : number doc (at + 1) 8 / 4_503_599_627_370_496 ≡ number doc (at + 1 + 6) 2 / 16 = exponent 6 16 in
      rw (x, p, e)

pub no_float_at : (doc : List ℕ) (at : ℕ) (kind : ValueType) → (kind ≡ Binary32 → ⊥) → (kind ≡ Binary64 → ⊥) → true ≡ finite_at doc at kind
unfolding finite_at
no_float_at doc at Binary32 f g = absurd (f refl)
no_float_at doc at Binary64 f g = absurd (g refl)
no_float_at doc at _ f g = refl

module _ (doc : List ℕ) (at : ℕ) (short : length doc < 2 ^ 64) where
  pub high_32 : FloatInside doc at Binary32 → at + 3 + 2 ≤ length doc
  unfolding FloatInside
  high_32 l = omega arith

  pub high_64 : FloatInside doc at Binary64 → at + 7 + 2 ≤ length doc
  unfolding FloatInside
  high_64 l = omega arith

  pub place_32 : FloatInside doc at Binary32 → Fits w64 (at + 3)
  place_32 i = let l = high_32 i in record { fits = omega arith }

  pub place_64 : FloatInside doc at Binary64 → Fits w64 (at + 7)
  place_64 i = let l = high_64 i in record { fits = omega arith }

pub ruleset finite_at_laws = (binary32_at, binary64_at, no_float_at, high_32, high_64, place_32, place_64, rules)

-- ---- a length after its byte

module _ (doc : List ℕ) (at width n : ℕ) where
  pub one_byte : width ≡ 1 → n ≡ number doc (at + 1) 1 → n ≡ number doc (at + 1) width
  one_byte e h = rw e h

  pub two_bytes : width ≡ 2 → n ≡ number doc (at + 1) 2 → n ≡ number doc (at + 1) width
  two_bytes e h = rw e h

  pub four_bytes : LengthWidth width → (width ≡ 1 → ⊥) → (width ≡ 2 → ⊥) → n ≡ number doc (at + 1) 4 → n ≡ number doc (at + 1) width
  unfolding LengthWidth
  four_bytes w f g h = rw (w f g) h

pub four_inside : (doc : List ℕ) (at width : ℕ) → LengthWidth width → (width ≡ 1 → ⊥) → (width ≡ 2 → ⊥) → width < length doc - at → at + 1 + 4 ≤ length doc
unfolding LengthWidth
four_inside doc at width w f g h = let e = w f g in omega arith

pub ruleset length_at_laws = (one_byte, two_bytes, four_bytes, four_inside, rules)

-- ---- a value by its type

module _ (at n past : ℕ) (kind : ValueType) (b : Bool) (e : b ≡ finite_type kind n) where
  pub scalar_passes : b ≡ true → answers (leaf past) ≡ ask (open_scalar at kind n past)
  unfolding open_scalar
  scalar_passes t = sym (pass _ _ _ _ tt (rw (sym e ∙ t) tt))

  pub scalar_refused : b ≡ false → refuses 43 at ≡ ask (open_scalar at kind n past)
  unfolding open_scalar
  scalar_refused t = sym (fail _ _ _ _ tt (rw (sym e ∙ t) (λ u. u)))

module _ (len at n past : ℕ) where
  pub string_refused : past ≤ len → len - past < n → refuses 35 at ≡ ask (open_type len at String n past)
  unfolding open_type
  string_refused p h = let o : len < past + n = omega arith in sym (fail _ _ _ _ tt (over o))

  pub string_passes : past ≤ len → n ≤ len - past → answers (leaf (past + n)) ≡ ask (open_type len at String n past)
  unfolding open_type
  string_passes p h = let o : past + n ≤ len = omega arith in sym (pass _ _ _ _ tt (le→leb _ _ o))

  pub object_opens : answers (inside true n past) ≡ ask (open_type len at Object n past)
  unfolding open_type
  object_opens = refl

  pub array_opens : (kind : ValueType) → (l : Bool) → l ≡ has_length kind → l ≡ true → (kind ≡ String → ⊥) → (kind ≡ Object → ⊥) → answers (inside false n past) ≡ ask (open_type len at kind n past)
  unfolding open_type
  array_opens String l e t f g = absurd (f refl)
  array_opens Object l e t f g = absurd (g refl)
  array_opens Array l e t f g = refl
  array_opens Null l e t f g = absurd (true≢false (sym t ∙ e))
  array_opens False l e t f g = absurd (true≢false (sym t ∙ e))
  array_opens True l e t f g = absurd (true≢false (sym t ∙ e))
  array_opens Signed l e t f g = absurd (true≢false (sym t ∙ e))
  array_opens Unsigned l e t f g = absurd (true≢false (sym t ∙ e))
  array_opens Tiny l e t f g = absurd (true≢false (sym t ∙ e))
  array_opens Binary32 l e t f g = absurd (true≢false (sym t ∙ e))
  array_opens Binary64 l e t f g = absurd (true≢false (sym t ∙ e))

  scalar_type : (kind : ValueType) → has_length kind ≡ false → ask (open_scalar at kind n past) ≡ ask (open_type len at kind n past)
  unfolding open_type
  scalar_type String f = absurd (true≢false f)
  scalar_type Object f = absurd (true≢false f)
  scalar_type Array f = absurd (true≢false f)
  scalar_type _ f = refl

  module _ (kind : ValueType) (l : Bool) (e : l ≡ has_length kind) (f : l ≡ false) where
    pub number_passes : (b : Bool) → b ≡ finite_type kind n → b ≡ true → answers (leaf past) ≡ ask (open_type len at kind n past)
    number_passes b q t = scalar_passes at n past kind b q t ∙ scalar_type kind (sym e ∙ f)

    pub number_refused : (b : Bool) → b ≡ finite_type kind n → b ≡ false → refuses 43 at ≡ ask (open_type len at kind n past)
    number_refused b q t = scalar_refused at n past kind b q t ∙ scalar_type kind (sym e ∙ f)

pub ruleset type_laws = (string_refused, string_passes, object_opens, array_opens, number_passes, number_refused, rules)

-- nothing with no payload is a float
no_payload : (kind : ValueType) (n : ℕ) → FloatWidth kind 0 → true ≡ finite_type kind n
unfolding FloatWidth finite_type
no_payload Binary32 n w = absurd (omega arith)
no_payload Binary64 n w = absurd (omega arith)
no_payload _ n w = refl

pub tiny_leaf : (len at n : ℕ) (kind : ValueType) → FloatWidth kind 0 → (l : Bool) → l ≡ has_length kind → l ≡ false
    → answers (leaf (at + 1)) ≡ ask (open_type len at kind n (at + 1))
tiny_leaf len at n kind w l e f = number_passes len at n (at + 1) kind l e f true (no_payload kind n w) refl

pub ruleset tiny_open_laws = (tiny_leaf, rules)

-- ---- a number at a place

module _ (doc : List ℕ) (at width : ℕ) where
  pub float_inside : (kind : ValueType) → FloatWidth kind width → width < length doc - at → FloatInside doc at kind
  unfolding FloatWidth FloatInside
  float_inside Binary32 w l = omega arith
  float_inside Binary64 w l = omega arith
  float_inside _ w l = tt

  finite_is : (kind : ValueType) → FloatWidth kind width → finite_at doc at kind ≡ finite_type kind (number doc (at + 1) width)
  unfolding FloatWidth finite_at finite_type
  finite_is Binary32 w = rw w
  finite_is Binary64 w = rw w
  finite_is _ w = refl

  module _ (kind : ValueType) (w : FloatWidth kind width) (b : Bool) (e : b ≡ finite_at doc at kind) where
    pub number_finite : b ≡ true → answers (leaf (at + 1 + width)) ≡ ask (open_scalar at kind (number doc (at + 1) width) (at + 1 + width))
    number_finite t = scalar_passes at _ _ kind b (e ∙ finite_is kind w) t

    pub number_infinite : b ≡ false → refuses 43 at ≡ ask (open_scalar at kind (number doc (at + 1) width) (at + 1 + width))
    number_infinite t = scalar_refused at _ _ kind b (e ∙ finite_is kind w) t

pub ruleset scalar_laws = (float_inside, number_finite, number_infinite, rules)

-- ---- a value at a place

-- a length after its byte takes one, two or four bytes
length_right : ℕ → Bool
length_right width = choose (eqb width 0) true (choose (eqb width 1) true (choose (eqb width 2) true (eqb width 4)))

right_length : (width : ℕ) → T (length_right width) → (width ≡ 0 → ⊥) → LengthWidth width
unfolding length_right choose LengthWidth
right_length width t z f g = eqb→eq width 4 (rw (ne_eqb width 0 z, ne_eqb width 1 f, ne_eqb width 2 g) at t)

-- a float has the width of its format
width_right : ValueType → ℕ → Bool
width_right Binary32 width = eqb width 4
width_right Binary64 width = eqb width 8
width_right String width = length_right width
width_right Object width = length_right width
width_right Array width = length_right width
width_right _ width = true

right_float : (kind : ValueType) (width : ℕ) → T (width_right kind width) → FloatWidth kind width
unfolding width_right FloatWidth
right_float Binary32 width t = eqb→eq width 4 t
right_float Binary64 width t = eqb→eq width 8 t
right_float _ width t = tt

Right : Option Head → Type 0
Right (Some h) = T (width_right h.kind h.width)
Right None = Unit {0}

all_right : (b : ℕ) → Right (head_of (form_of b))
unfolding Right width_right length_right choose
all_right =
    every_form (λ f. Right (head_of f)) tt
    (tt, (tt, (tt, (tt, (tt, (tt, (tt, (tt, (tt, (tt, (tt, (tt, (tt, (tt, (tt, (tt, (tt, (tt, (tt, (tt, (tt, (tt, tt))))))))))))))))))))))
    (λ n. tt)
    (λ n. tt)
    (λ n. tt)
    (λ b l u. tt)

right_width : (h : Head) (b : ℕ) → Some h ≡ head_of (form_of b) → T (width_right h.kind h.width)
unfolding Right
right_width h b e = of_head Right (form_of b) (Some h) e (all_right b)

module _ (doc : List ℕ) (at : ℕ) where
  pub open_past : (r : Refusal) → ask (byte_at doc at at) ≡ refuses r.number r.place → refuses r.number r.place ≡ ask (opened_at doc at)
  unfolding opened_at
  open_past r q = sym (stops _ _ tt q)

  module _ (b : ℕ) (e : ask (byte_at doc at at) ≡ answers b) where
    opening : (o : Option Head) → o ≡ head_of (form_of b) → ask (opened_at doc at) ≡ ask (open_head doc at o)
    unfolding opened_at
    opening o os = then _ _ tt e ∙ rw os

    pub opened_reserved : None ≡ head_of (form_of b) → refuses 36 at ≡ ask (opened_at doc at)
    unfolding open_head
    opened_reserved z = sym (opening None z)

  module _ (b : ℕ) (e : ask (byte_at doc at at) ≡ answers b) (i : at < length doc) (kind : ValueType) (width tiny : ℕ) (hs : Some (head kind width tiny) ≡ head_of (form_of b)) where
    pub opened_tiny : (o : Result Open Refusal) → width ≡ 0 → told_open o ≡ ask (open_type (length doc) at kind tiny (at + 1)) → told_open o ≡ ask (opened_at doc at)
    unfolding open_head sized_at choose
    opened_tiny o z q = q ∙ sym (opening b e _ hs ∙ then _ _ tt (in_byte doc at width tiny z i))

    pub float_width : FloatWidth kind width
    float_width = right_float kind width (right_width (head kind width tiny) b hs)

    pub tiny_width : width ≡ 0 → FloatWidth kind 0
    tiny_width z = rw z at float_width

    module _ (more : width ≡ 0 → ⊥) where
      pub opened_short : length doc - at ≤ width → refuses 35 at ≡ ask (opened_at doc at)
      unfolding open_head
      opened_short l = sym (opening b e _ hs ∙ stops _ _ tt (short_payload doc at width tiny more i l))

      module _ (l : width < length doc - at) where
        wide : ask (opened_at doc at) ≡ ask (open_type (length doc) at kind (number doc (at + 1) width) (at + 1 + width))
        unfolding open_head
        wide = opening b e _ hs ∙ then _ _ tt (payload_read doc at width tiny more (number doc (at + 1) width) i l refl)

        pub opened_scalar : (o : Result Open Refusal) (s : Bool) → s ≡ has_length kind → s ≡ false → told_open o ≡ ask (open_scalar at kind (number doc (at + 1) width) (at + 1 + width)) → told_open o ≡ ask (opened_at doc at)
        opened_scalar o s r f q = q ∙ (scalar_type (length doc) at _ _ kind (sym r ∙ f) ∙ sym wide)

        pub opened_long : (n : ℕ) (o : Result Open Refusal) → n ≡ number doc (at + 1) width → told_open o ≡ ask (open_type (length doc) at kind n (at + 1 + width))
            → told_open o ≡ ask (opened_at doc at)
        opened_long n o m q = rw m at q ∙ sym wide

-- a length after its byte
right_kind : (kind : ValueType) (width : ℕ) → has_length kind ≡ true → T (width_right kind width) → T (length_right width)
unfolding width_right
right_kind String width h t = t
right_kind Object width h t = t
right_kind Array width h t = t
right_kind Null width h t = absurd (true≢false (sym h))
right_kind False width h t = absurd (true≢false (sym h))
right_kind True width h t = absurd (true≢false (sym h))
right_kind Signed width h t = absurd (true≢false (sym h))
right_kind Unsigned width h t = absurd (true≢false (sym h))
right_kind Tiny width h t = absurd (true≢false (sym h))
right_kind Binary32 width h t = absurd (true≢false (sym h))
right_kind Binary64 width h t = absurd (true≢false (sym h))

pub length_width : (b width small : ℕ) (kind : ValueType) → (width ≡ 0 → ⊥) → (l : Bool) → l ≡ has_length kind → l ≡ true → Some (head kind width small) ≡ head_of (form_of b) → LengthWidth width
length_width b width small kind more l e t hs = right_length width (right_kind kind width (sym e ∙ t) (right_width (head kind width small) b hs)) more

-- null, false and true
literal : (doc : List ℕ) (at b : ℕ) → b < 3 → answers (leaf (at + 1)) ≡ ask (open_head doc at (head_of (form_of b)))
unfolding open_head sized_at open_type open_scalar finite_type choose form_of ◌>>=◌ follow need
literal doc at zero h = refl
literal doc at (suc zero) h = refl
literal doc at (suc (suc zero)) h = refl
literal doc at (suc (suc (suc n))) h = absurd (omega arith)

pub opened_literal : (doc : List ℕ) (at b : ℕ) → ask (byte_at doc at at) ≡ answers b → b < 3 → answers (leaf (at + 1)) ≡ ask (opened_at doc at)
unfolding opened_at
opened_literal doc at b e h = literal doc at b h ∙ sym (then _ _ tt e)

-- a binary64
module _ (doc : List ℕ) (at : ℕ) (i : at < length doc) where
  pub binary64_short : length doc - at ≤ 8 → refuses 35 at ≡ ask (open_head doc at (Some (head Binary64 8 0)))
  unfolding open_head
  binary64_short l = sym (stops _ _ tt (short_payload doc at 8 0 (λ z. omega (arith, z)) i l))

  module _ (l : 8 < length doc - at) where
    pub binary64_inside : FloatInside doc at Binary64
    unfolding FloatInside
    binary64_inside = omega arith

    binary64_is : ask (open_head doc at (Some (head Binary64 8 0))) ≡ ask (open_scalar at Binary64 (number doc (at + 1) 8) (at + 1 + 8))
    unfolding open_head
    binary64_is = then _ _ tt (payload_read doc at 8 0 (λ z. omega (arith, z)) (number doc (at + 1) 8) i l refl) ∙ sym (scalar_type (length doc) at _ _ Binary64 refl)

    width_64 : FloatWidth Binary64 8
    unfolding FloatWidth
    width_64 = refl

    pub binary64_ends : (b : Bool) → b ≡ finite_at doc at Binary64 → b ≡ true → answers (leaf (at + 9)) ≡ ask (open_head doc at (Some (head Binary64 8 0)))
    binary64_ends b e t =
        let p : at + 1 + 8 ≡ at + 9 = omega arith in
        rw (sym p) (number_finite doc at 8 Binary64 width_64 b e t ∙ sym binary64_is)

    pub binary64_not : (b : Bool) → b ≡ finite_at doc at Binary64 → b ≡ false → refuses 43 at ≡ ask (open_head doc at (Some (head Binary64 8 0)))
    binary64_not b e t = number_infinite doc at 8 Binary64 width_64 b e t ∙ sym binary64_is

pub ruleset binary64_laws = (binary64_short, binary64_inside, binary64_ends, binary64_not, rules)

binary64_head : head_of (form_of 12) ≡ Some (head Binary64 8 0)
unfolding form_of choose
binary64_head = refl

pub opened_binary64 : (doc : List ℕ) (at b : ℕ) → ask (byte_at doc at at) ≡ answers b → b ≡ 12 → (o : Result Open Refusal) → told_open o ≡ ask (open_head doc at (Some (head Binary64 8 0))) → told_open o ≡ ask (opened_at doc at)
unfolding opened_at
opened_binary64 doc at b e t o q = q ∙ sym (then _ _ tt e ∙ rw (t, binary64_head))

pub ruleset open_laws = (open_past, opened_reserved, opened_literal, opened_binary64, opened_tiny, float_width, tiny_width, opened_short, opened_scalar, opened_long, length_width, rules)
