-- The questions that read only a value's own bytes: its kind, its number and its string; and the wrong kind, which is
-- 21. Each is what is asked after the opening, which passes in a good document with a good key list.
use Prim.Native.Nat.{ℕ, ◌+◌, ◌≤◌, ◌<◌}
use mathlib.Core.Bool.{Bool, true, false}
use mathlib.Core.List.{List}
use mathlib.Core.Path.{◌≡◌, refl, sym, ◌∙◌}
use native.Mathlib.Omega.{arith}
use lib.Dec.{le→leb}
use lib.ListN.{length, get_or, length-take, length-drop}
use Rattle.json_model.specs.Bytes.{Bytes, number, part}
use Rattle.json_model.specs.Reading.{Reading, ◌>>=◌, ask, answers, refuses}
use Rattle.json_model.specs.Tree.{Tree, null, bool, num, str, arr, obj, Trees, Members, size, sizem, NoNumber, NoString, NoArray, NoObject}
use Rattle.json_model.proofs.Bytes.{number_small}
use Rattle.json_model.proofs.Reading.{then, pass, need_yes}
use Rattle.fractured_json_rules.specs.ByteTables.{bytes, form_of}
use Rattle.fractured_json_rules.specs.Meaning.{after_length, TextIs, NumberIs, as_tiny, as_int, as_float, Names, Lists, Keys, ValueIs, Headed}
use Rattle.fractured_json_rules.specs.Verdict.{numeral, byte_at}
use Rattle.fractured_json_rules.specs.Questions.{opening, kind_by, kind_here, extended, tiny_bits, number_by, number_here, a_string, an_object, an_array, wanted_by, wanted_here, string_here}
use Rattle.fractured_json_rules.specs.Answers.{kind_of, value_by, value_of}
use Rattle.fractured_json_theorems.proofs.KeyList.{list_is}
use Rattle.fractured_json_theorems.proofs.Nodes.{value_form}
use Rattle.fractured_json_theorems.proofs.Numbers.{int_value, tiny_value, tiny_byte}
use Rattle.fractured_json_theorems.proofs.Readers.{header_is, byte_is, payload_is, length_is, text_is_lem}

module _ (doc : List ℕ) (names : Names) where
  value_inside : (u : Tree) (o : ℕ) (ks : Keys) (e : ℕ) (kz : Keys) → ValueIs doc names u o ks e kz → o < length doc
  value_inside null o ks e kz h = h.0.inside
  value_inside (bool b) o ks e kz h = h.0.inside
  value_inside (num s m) o ks e kz h = number_inside h.0
    where
      number_inside : {e : ℕ} → NumberIs doc (num s m) o e → o < length doc
      number_inside (as_tiny b st p q) = st.inside
      number_inside (as_int g w st i p q) = st.inside
      number_inside (as_float f w st i n p q) = st.inside
  value_inside (str t) o ks e kz h = h.2.inside
  value_inside (arr ts) o ks e kz h = h.1.inside
  value_inside (obj ms) o ks e kz h = h.1.inside

  text_length : (t : List ℕ) (o n : ℕ) → TextIs doc o n t → length t ≡ n
  text_length t o n h = let fits = h.inside in rw (h.same, length-take, length-drop) (omega arith)

  pub opening_is : (list : List ℕ) → Lists list names → Headed doc → (o : ℕ) → 3 ≤ o → ask (opening doc list o) ≡ answers tt
  unfolding opening
  opening_is list l h o b = then _ _ tt (list_is list names tt l) ∙ (then _ _ tt (header_is doc tt h) ∙ need_yes _ _ _ tt (le→leb _ _ b))

  -- every question but the end and the key goes on with the type byte
  asked : {A : Type 0} (o : ℕ) (by : ℕ → Reading (Unit {0}) A) (u : Tree) (ks : Keys) (e : ℕ) (kz : Keys) → ValueIs doc names u o ks e kz → ask (byte_at doc o o >>= by) ≡ ask (by (get_or doc o 0))
  asked o by u ks e kz v = then _ _ tt (byte_is doc o o tt (value_inside u o ks e kz v))

  -- ---- its kind

  number_kind : (s : Bool) (m o e : ℕ) → NumberIs doc (num s m) o e → ask (kind_by doc o (form_of (get_or doc o 0))) ≡ answers (kind_of (num s m))
  unfolding kind_by kind_of
  number_kind s m o e (as_tiny b st p q) = rw st.form_is
  number_kind s m o e (as_int g w st i p q) = rw st.form_is
  number_kind s m o e (as_float f w st i n p q) = rw st.form_is

  kind_by_lem : (u : Tree) (o : ℕ) (ks : Keys) (e : ℕ) (kz : Keys) → ValueIs doc names u o ks e kz → ask (kind_by doc o (form_of (get_or doc o 0))) ≡ answers (kind_of u)
  unfolding kind_by kind_of
  kind_by_lem null o ks e kz h = rw h.0.form_is
  kind_by_lem (bool false) o ks e kz h = rw h.0.form_is
  kind_by_lem (bool true) o ks e kz h = rw h.0.form_is
  kind_by_lem (num s m) o ks e kz h = number_kind s m o e h.0
  kind_by_lem (str t) o ks e kz h =
      rw (h.2.form_is, text_length t _ _ h.4) (then _ _ tt (length_is doc o h.0 h.1 tt h.3))
  kind_by_lem (arr ts) o ks e kz h = rw h.1.form_is (then _ _ tt (length_is doc o h.0 (size ts) tt h.2))
  kind_by_lem (obj ms) o ks e kz h = rw h.1.form_is (then _ _ tt (length_is doc o h.0 (sizem ms) tt h.2))

  pub kind_is : (u : Tree) (o : ℕ) (ks : Keys) (e : ℕ) (kz : Keys) → ValueIs doc names u o ks e kz → ask (kind_here doc o) ≡ answers (kind_of u)
  unfolding kind_here
  kind_is u o ks e kz v = asked o _ u ks e kz v ∙ kind_by_lem u o ks e kz v

  -- ---- its number

  number_by_lem : Bytes doc → (s : Bool) (m o e : ℕ) → NumberIs doc (num s m) o e
      → (n : ℕ) × (ask (number_by doc o (get_or doc o 0) (form_of (get_or doc o 0))) ≡ answers (record { type = get_or doc o 0; bits = n }))
      × (value_of (record { type = get_or doc o 0; bits = n }) ≡ num s m)
  unfolding number_by value_by
  number_by_lem bs s m o e (as_tiny b st p q) =
      let same = tiny_byte (get_or doc o 0) b st.form_is in
      let small = bs o in
      (tiny_bits b, rw st.form_is, rw st.form_is (tiny_value b (omega arith) ∙ sym p))
  number_by_lem bs s m o e (as_int true w st i p q) =
      let n = number doc (o + 1) (bytes w) in (
        extended true (bytes w) n,
        rw st.form_is (then _ _ tt (payload_is doc o (bytes w) tt i)),
        rw st.form_is (int_value w n (number_small doc bs (o + 1) (bytes w)) ∙ sym p),
      )
  number_by_lem bs s m o e (as_int false w st i p q) =
      (number doc (o + 1) (bytes w), rw st.form_is (then _ _ tt (payload_is doc o (bytes w) tt i)), rw st.form_is (sym p))
  number_by_lem bs s m o e (as_float f w st i n p q) =
      (number doc (o + 1) (bytes w), rw st.form_is (then _ _ tt (payload_is doc o (bytes w) tt i) ∙ pass _ _ _ _ tt n), rw st.form_is (sym p))

  pub number_is_lem : Bytes doc → (s : Bool) (m o : ℕ) (ks : Keys) (e : ℕ) (kz : Keys) → ValueIs doc names (num s m) o ks e kz
      → (n : ℕ) × (ask (number_here doc o) ≡ answers (record { type = get_or doc o 0; bits = n })) × (value_of (record { type = get_or doc o 0; bits = n }) ≡ num s m)
  unfolding number_here
  number_is_lem bs s m o ks e kz v = let (n, is, same) = number_by_lem bs s m o e v.0 in (n, asked o _ (num s m) ks e kz v ∙ is, same)

  -- ---- the wrong kind of number

  pub no_number : (u : Tree) (o : ℕ) (ks : Keys) (e : ℕ) (kz : Keys) → ValueIs doc names u o ks e kz → NoNumber u → ask (number_here doc o) ≡ refuses 21 o
  unfolding number_here number_by
  no_number u o ks e kz v n =
      asked o _ u ks e kz v
      ∙ value_form doc names (λ f. ask (number_by doc o (get_or doc o 0) f) ≡ refuses 21 o) u o ks e kz v
      (λ _. refl) (λ b _. refl) (λ s m q. absurd (n s m q)) (λ t x _. refl) (λ ts x _. refl) (λ ms x _. refl)

  -- ---- the length of a string, an array and an object, and the wrong kind

  module _ (o : ℕ) where
    string_length : (t : List ℕ) (ks : Keys) (e : ℕ) (kz : Keys) (v : ValueIs doc names (str t) o ks e kz) → ask (wanted_here doc o a_string) ≡ answers (numeral v.1 (after_length o v.0))
    unfolding wanted_here wanted_by
    string_length t ks e kz v = asked o _ (str t) ks e kz v ∙ rw v.2.form_is (length_is doc o v.0 v.1 tt v.3)

    pub array_length : (ts : Trees) (ks : Keys) (e : ℕ) (kz : Keys) (v : ValueIs doc names (arr ts) o ks e kz) → ask (wanted_here doc o an_array) ≡ answers (numeral (size ts) (after_length o v.0))
    unfolding wanted_here wanted_by
    array_length ts ks e kz v = asked o _ (arr ts) ks e kz v ∙ rw v.1.form_is (length_is doc o v.0 (size ts) tt v.2)

    pub object_length : (ms : Members) (ks : Keys) (e : ℕ) (kz : Keys) (v : ValueIs doc names (obj ms) o ks e kz) → ask (wanted_here doc o an_object) ≡ answers (numeral (sizem ms) (after_length o v.0))
    unfolding wanted_here wanted_by
    object_length ms ks e kz v = asked o _ (obj ms) ks e kz v ∙ rw v.1.form_is (length_is doc o v.0 (sizem ms) tt v.2)

    module _ (u : Tree) (ks : Keys) (e : ℕ) (kz : Keys) (v : ValueIs doc names u o ks e kz) where
      pub no_string : NoString u → ask (wanted_here doc o a_string) ≡ refuses 21 o
      unfolding wanted_here wanted_by
      no_string n =
          asked o _ u ks e kz v
          ∙ value_form doc names (λ f. ask (wanted_by doc o f a_string) ≡ refuses 21 o) u o ks e kz v
          (λ _. refl) (λ b _. refl) (λ s m _. (λ b. refl, λ g w. refl, λ f w. refl)) (λ t x q. absurd (n t q)) (λ ts x _. refl) (λ ms x _. refl)

      pub no_array : NoArray u → ask (wanted_here doc o an_array) ≡ refuses 21 o
      unfolding wanted_here wanted_by
      no_array n =
          asked o _ u ks e kz v
          ∙ value_form doc names (λ f. ask (wanted_by doc o f an_array) ≡ refuses 21 o) u o ks e kz v
          (λ _. refl) (λ b _. refl) (λ s m _. (λ b. refl, λ g w. refl, λ f w. refl)) (λ t x _. refl) (λ ts x q. absurd (n ts q)) (λ ms x _. refl)

      pub no_object : NoObject u → ask (wanted_here doc o an_object) ≡ refuses 21 o
      unfolding wanted_here wanted_by
      no_object n =
          asked o _ u ks e kz v
          ∙ value_form doc names (λ f. ask (wanted_by doc o f an_object) ≡ refuses 21 o) u o ks e kz v
          (λ _. refl) (λ b _. refl) (λ s m _. (λ b. refl, λ g w. refl, λ f w. refl)) (λ t x _. refl) (λ ts x _. refl) (λ ms x q. absurd (n ms q))

    -- ---- its string

    pub string_is : (t : List ℕ) (ks : Keys) (e : ℕ) (kz : Keys) → ValueIs doc names (str t) o ks e kz
        → (p : ℕ) × (ask (string_here doc o) ≡ answers (record { place = p; len = length t })) × (part doc p (length t) ≡ t) × (p + length t ≡ e)
    unfolding string_here
    string_is t ks e kz v =
        let len = text_length t _ _ v.4 in (
          after_length o v.0,
          rw len (then _ _ tt (string_length t ks e kz v) ∙ then _ _ tt (text_is_lem doc o _ tt v.4.inside)),
          rw len (sym v.4.same),
          rw len (sym v.5),
        )
