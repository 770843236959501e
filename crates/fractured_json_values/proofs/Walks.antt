-- The walk over a value as the code makes it is the rules' walk, whatever reads the keys and whatever is kept: for the check's
-- walk and the questions' walk alike.
use mathlib.Core.Path.{◌≡◌, refl, sym, ap, ◌∙◌}
use mathlib.Core.Bool.{Bool, true, false}
use mathlib.Core.List.{List}
use Prim.Native.Nat.{ℕ, zero, suc, ◌+◌, ◌-◌, ◌≤◌, ◌<◌}
use native.Mathlib.Omega.{arith}
use lib.Dec.{leb}
use lib.ListN.{length}
use Rattle.std.specs.Prelude.{Some}
use Rattle.json_model.specs.Choose.{choose}
use Rattle.json_model.specs.Number.{Float, binary32, binary64, finite}
use Rattle.json_model.specs.Reading.{Outcome, halt, done, Reading, ask, answers, refuses, answer, follow, ◌>>=◌, need}
use Rattle.json_model.proofs.Reading.{then, stops, assoc}
use Rattle.fractured_json_rules.specs.ByteTables.{Width, one, two, four, eight, bytes, Len, tiny, after, Form, f_null, f_bool, f_int, f_float, f_tiny, f_string, f_object, f_array, f_reserved, form_of}
use Rattle.fractured_json_rules.specs.Verdict.{byte_at, payload, length_at, text_at, Numeral, numeral, in_turn, value_by, value}
use Rattle.fractured_json_values.specs.Heads.{head, width_in, tiny_in, float_type, head_of}
use Rattle.fractured_json_values.specs.Opened.{sized_at, Opened, leaf, inside, finite_type, open_scalar, open_type, open_head, opened_at, entry}
use Rattle.fractured_json_values.specs.declared.types.ValueType.{ValueType}
use Rattle.fractured_json_values.specs.declared.types.ValueType.TheVariants.{Signed, Unsigned, String, Object, Array}
use Rattle.fractured_json_values.proofs.Carried.{opened_done, opened_halts}
use Rattle.fractured_json_values.proofs.Forms.{every_form}

-- ---- what every form of a type byte keeps

abbrev pub float_of : Width → Float
float_of one = binary32
float_of two = binary32
float_of four = binary32
float_of eight = binary64

-- a float's format goes by its width, and a tiny int lies in its range
abbrev pub Sound : Form → Type 0
Sound f_null = Unit {0}
Sound (f_bool b) = Unit {0}
Sound (f_int s w) = Unit {0}
Sound (f_float f w) = f ≡ float_of w
Sound (f_tiny b) = (0xBE ≤ b) × (b < 0xFE)
Sound (f_string x) = Unit {0}
Sound (f_object x) = Unit {0}
Sound (f_array x) = Unit {0}
Sound f_reserved = Unit {0}

pub sound : (b : ℕ) → Sound (form_of b)
sound =
    every_form Sound tt
    (tt, (tt, (tt, (tt, (tt, (tt, (tt, (tt, (tt, (tt, (tt, (refl, (refl, (tt, (tt, (tt, (tt, (tt, (tt, (tt, (tt, (tt, tt))))))))))))))))))))))
    (λ n. tt)
    (λ n. tt)
    (λ n. tt)
    (λ b l u. (l, u))

-- ---- chains

module _ {S : Type 0} where
  follow_same : {A B : Type 0} (o : Outcome S A) (f g : A → Reading S B) → ((a : A) (s : S) → f a s ≡ g a s) → follow o f ≡ follow o g
  unfolding follow
  follow_same (halt n p s) f g h = refl
  follow_same (done a s) f g h = h a s

  pub then_same : {A B : Type 0} (m : Reading S A) (f g : A → Reading S B) (s : S) → ((a : A) (z : S) → f a z ≡ g a z) → (m >>= f) s ≡ (m >>= g) s
  unfolding ◌>>=◌
  then_same m f g s h = follow_same (m s) f g h

  -- ---- lengths and payloads

  module _ (doc : List ℕ) (o : ℕ) where
    pub payload_sized : (w : Width) → payload {S = S} doc o (bytes w) ≡ sized_at doc o (bytes w) 0
    unfolding sized_at choose
    payload_sized one = refl
    payload_sized two = refl
    payload_sized four = refl
    payload_sized eight = refl

    pub length_sized : (x : Len) → length_at {S = S} doc o x ≡ sized_at doc o (width_in x) (tiny_in x)
    unfolding length_at sized_at choose
    length_sized (tiny n) = refl
    length_sized (after w) = payload_sized w

  -- ---- a value by its form

  abbrev pub on_opened : (Numeral → Reading S ℕ) → (Numeral → Reading S ℕ) → Opened → Reading S ℕ
  on_opened array object (leaf e) = answer e
  on_opened array object (inside true n at) = object (numeral n at)
  on_opened array object (inside false n at) = array (numeral n at)

  module _ (doc : List ℕ) (o : ℕ) (array object : Numeral → Reading S ℕ) where
    -- what is left of a value, once its length or payload n has been read
    abbrev rest : ValueType → ℕ → ℕ → Reading S ℕ
    rest kind n past = open_type (length doc) o kind n past >>= on_opened array object

    -- a value by the head of its type byte
    abbrev headed : ValueType → ℕ → ℕ → Reading S ℕ
    headed kind width small = sized_at doc o width small >>= λ n. rest kind n.is n.past

    -- a test before an end
    tested : (t : Bool) (n p e : ℕ) (s : S) → (need t n p >>= λ _. answer e) s ≡ ((need t n p >>= λ _. answer (leaf e)) >>= on_opened array object) s
    unfolding ◌>>=◌ follow need
    tested true n p e s = refl
    tested false n p e s = refl

    float_form : (w : Width) (s : S) → value_by doc o array object (f_float (float_of w) w) s ≡ headed (float_type w) (bytes w) 0 s
    unfolding value_by open_type open_scalar finite_type
    float_form one s = rw (payload_sized doc o one) (then_same _ _ _ s (λ n z. tested (finite binary32 n.is) 43 o n.past z))
    float_form two s = rw (payload_sized doc o two) (then_same _ _ _ s (λ n z. tested (finite binary32 n.is) 43 o n.past z))
    float_form four s = rw (payload_sized doc o four) (then_same _ _ _ s (λ n z. tested (finite binary32 n.is) 43 o n.past z))
    float_form eight s = rw (payload_sized doc o eight) (then_same _ _ _ s (λ n z. tested (finite binary64 n.is) 43 o n.past z))

    string_form : (x : Len) (s : S) → value_by doc o array object (f_string x) s ≡ headed String (width_in x) (tiny_in x) s
    unfolding value_by text_at open_type
    string_form x s = rw (length_sized doc o x) (then_same _ _ _ s (λ n z. tested (leb (n.past + n.is) (length doc)) 35 o (n.past + n.is) z))

    -- the head's own reading, put in order
    turned : (kind : ValueType) (width small : ℕ) (s : S) → headed kind width small s ≡ (open_head doc o (Some (head kind width small)) >>= on_opened array object) s
    unfolding open_head
    turned kind width small s = sym (assoc _ _ (on_opened array object) s)

    value_form : (f : Form) → Sound f → (s : S) → value_by doc o array object f s ≡ (open_head doc o (head_of f) >>= on_opened array object) s
    unfolding value_by open_head sized_at open_type open_scalar finite_type choose ◌>>=◌ follow need
    value_form f_null h s = refl
    value_form (f_bool false) h s = refl
    value_form (f_bool true) h s = refl
    value_form (f_tiny b) h s = refl
    value_form (f_int true w) h s = ap (λ m. (m >>= λ n. answer n.past) s) (payload_sized doc o w) ∙ turned Signed (bytes w) 0 s
    value_form (f_int false w) h s = ap (λ m. (m >>= λ n. answer n.past) s) (payload_sized doc o w) ∙ turned Unsigned (bytes w) 0 s
    value_form (f_float f w) h s = rw h (float_form w s) ∙ turned (float_type w) (bytes w) 0 s
    value_form (f_string x) h s = string_form x s ∙ turned String (width_in x) (tiny_in x) s
    value_form (f_object x) h s = ap (λ m. (m >>= object) s) (length_sized doc o x) ∙ turned Object (width_in x) (tiny_in x) s
    value_form (f_array x) h s = ap (λ m. (m >>= array) s) (length_sized doc o x) ∙ turned Array (width_in x) (tiny_in x) s
    value_form f_reserved h s = refl

    pub value_opened : (s : S) → (byte_at doc o o >>= λ b. value_by doc o array object (form_of b)) s ≡ (opened_at doc o >>= on_opened array object) s
    unfolding opened_at
    value_opened s = then_same _ _ _ s (λ b z. value_form (form_of b) (sound b) z) ∙ sym (assoc _ _ (on_opened array object) s)

-- ---- a value, by what stands at its type byte

module _ {S : Type 0} (key : ℕ → Reading S ℕ) (doc : List ℕ) (at : ℕ) (s : S) where
  pub value_leaf : (levels e : ℕ) → ask (opened_at doc at) ≡ answers (leaf e) → value key levels doc at s ≡ done e s
  unfolding value
  value_leaf zero e h = value_opened doc at _ _ s ∙ then _ _ s (opened_done doc at (leaf e) s h)
  value_leaf (suc l) e h = value_opened doc at _ _ s ∙ then _ _ s (opened_done doc at (leaf e) s h)

  pub value_halts : (levels n p : ℕ) → ask (opened_at doc at) ≡ refuses n p → value key levels doc at s ≡ halt n p s
  unfolding value
  value_halts zero n p h = value_opened doc at _ _ s ∙ stops _ _ s (opened_halts doc at n p s h)
  value_halts (suc l) n p h = value_opened doc at _ _ s ∙ stops _ _ s (opened_halts doc at n p s h)

  pub value_deep : (levels : ℕ) (b : Bool) (n p : ℕ) → ask (opened_at doc at) ≡ answers (inside b n p) → levels ≡ 0 → value key levels doc at s ≡ halt 41 at s
  unfolding value
  value_deep zero true n p h z = value_opened doc at _ _ s ∙ then _ _ s (opened_done doc at (inside true n p) s h)
  value_deep zero false n p h z = value_opened doc at _ _ s ∙ then _ _ s (opened_done doc at (inside false n p) s h)
  value_deep (suc l) b n p h z = absurd (omega arith)

  pub value_inside : (levels : ℕ) (b : Bool) (n p : ℕ) → ask (opened_at doc at) ≡ answers (inside b n p) → (levels ≡ 0 → ⊥)
      → value key levels doc at s ≡ in_turn (entry b key (value key (levels - 1) doc)) n p s
  unfolding value entry
  value_inside zero b n p h z = absurd (z refl)
  value_inside (suc l) true n p h z = let e : suc l - 1 ≡ l = omega arith in rw e (value_opened doc at _ _ s ∙ then _ _ s (opened_done doc at (inside true n p) s h))
  value_inside (suc l) false n p h z = let e : suc l - 1 ≡ l = omega arith in rw e (value_opened doc at _ _ s ∙ then _ _ s (opened_done doc at (inside false n p) s h))

-- ---- things in a row

module _ {S : Type 0} (thing : ℕ → Reading S ℕ) (left at : ℕ) (s : S) where
  pub turns_done : left ≤ 0 → in_turn thing left at s ≡ done at s
  unfolding in_turn
  turns_done h = let z : left ≡ 0 = omega arith in rw z

  pub turn_passes : (a : ℕ) (z : S) → 0 < left → thing at s ≡ done a z → in_turn thing left at s ≡ in_turn thing (left - 1) a z
  unfolding in_turn
  turn_passes a z h e = let w : left ≡ suc (left - 1) = omega arith in ap (λ n. in_turn thing n at s) w ∙ then _ _ s e

  pub turn_halts : (n p : ℕ) (z : S) → 0 < left → thing at s ≡ halt n p z → in_turn thing left at s ≡ halt n p z
  unfolding in_turn
  turn_halts n p z h e = let w : left ≡ suc (left - 1) = omega arith in ap (λ k. in_turn thing k at s) w ∙ stops _ _ s e
