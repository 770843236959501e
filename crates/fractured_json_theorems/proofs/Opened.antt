-- A walk by questions that starts with an opening and goes on at answers needs no other opening: one that passed passes
-- at every later cursor, and no value, key or end that is answered lies before its cursor, in any bytes. So from then
-- on each question is what it asks after the opening.
use Prim.Native.Nat.{ℕ, zero, suc, ◌+◌, ◌≤◌}
use mathlib.Core.Bool.{Bool, true, false}
use mathlib.Core.List.{List}
use mathlib.Core.Path.{◌≡◌, ◌∙◌, subst}
use native.Mathlib.Omega.{arith}
use lib.Dec.{leb→le, le→leb}
use lib.ListN.{get_or}
use Rattle.json_model.specs.Choose.{choose}
use Rattle.json_model.specs.Limits.{deepest}
use Rattle.json_model.specs.Reading.{Reading, ask, answers, answer, ◌>>=◌, ◌>>◌}
use Rattle.json_model.specs.Texts.{compare_texts, is_equal}
use Rattle.json_model.proofs.Reading.{halt≢done, done_answer, step, passed, need_done, need_yes, then}
use Rattle.fractured_json_rules.specs.ByteTables.{bytes, Len, tiny, after, Form, f_null, f_bool, f_int, f_float, f_tiny, f_string, f_object, f_array, f_reserved, form_of, KeyForm, immediate, back_reference, global_index, k_reserved, key_form_of}
use Rattle.fractured_json_rules.specs.Meaning.{after_length}
use Rattle.fractured_json_rules.specs.Verdict.{Numeral, numeral, payload, length_at, text_at, in_turn, member, value_by, value, key_by}
use Rattle.fractured_json_rules.specs.Questions.{opening, KeyRead, text_in, text_key, back_key, name_key, read_key, pass_key, walk, inner, end_of, kind_here, kind, number_here, number_at, Wanted, a_string, an_object, an_array, wanted_by, wanted_here, string_here, string_at}
use Rattle.fractured_json_rules.specs.Questions.{element_from, element_here, element_at, MemberAt, member_from, member_here, member_at, value_at, absent, find_from, find_in, first_here, first_member, key_at}
use Rattle.fractured_json_theorems.proofs.Nodes.{after_forward, key_number_forward}
use Rattle.fractured_json_theorems.proofs.Readers.{byte_step, payload_step, length_step, text_step, key_number_step}

value_answer : {p e : ℕ} → value_at p ≡ value_at e → p ≡ e
value_answer q = cc

absent≢value : {e : ℕ} → absent ≡ value_at e → ⊥
absent≢value q = let w : ◌≡◌ {A = ℕ} 0 1 = cc in omega arith

module _ (doc : List ℕ) where
  -- reading from any place, if it ends, ends not before it
  abbrev Forward : (ℕ → Reading (Unit {0}) ℕ) → Type 0
  Forward f = (o e : ℕ) → ask (f o) ≡ answers e → o ≤ e

  -- ---- a value

  in_turn_lem : (f : ℕ → Reading (Unit {0}) ℕ) → Forward f → (n : ℕ) → Forward (in_turn f n)
  unfolding in_turn
  in_turn_lem f h zero o e q = let r : o ≡ e = done_answer q in omega arith
  in_turn_lem f h (suc n) o e q =
      let s = step _ _ tt q in
      let a = h o s.got s.first in
      let b = in_turn_lem f h n s.got e s.rest in
      omega arith

  in_member : (key val : ℕ → Reading (Unit {0}) ℕ) → Forward key → Forward val → Forward (member key val)
  unfolding member
  in_member key val h g o e q =
      let s = step _ _ tt q in
      let a = h o s.got s.first in
      let b = g s.got e s.rest in
      omega arith

  by_form : (o : ℕ) (array object : Numeral → Reading (Unit {0}) ℕ) → ((n p e : ℕ) → o ≤ p → ask (array (numeral n p)) ≡ answers e → o ≤ e)
      → ((n p e : ℕ) → o ≤ p → ask (object (numeral n p)) ≡ answers e → o ≤ e) → (f : Form) (e : ℕ) → ask (value_by doc o array object f) ≡ answers e → o ≤ e
  unfolding value_by text_at
  by_form o array object a b f_null e q = let r : o + 1 ≡ e = done_answer q in omega arith
  by_form o array object a b (f_bool x) e q = let r : o + 1 ≡ e = done_answer q in omega arith
  by_form o array object a b (f_tiny x) e q = let r : o + 1 ≡ e = done_answer q in omega arith
  by_form o array object a b (f_int s w) e q = let r : o + 1 + bytes w ≡ e = done_answer (payload_step doc o (bytes w) _ tt q).1 in omega arith
  by_form o array object a b (f_float f w) e q =
      let r : o + 1 + bytes w ≡ e = done_answer (passed _ _ _ _ tt (payload_step doc o (bytes w) _ tt q).1).rest in
      omega arith
  by_form o array object a b (f_string x) e q =
      let (n, is, rest) = length_step doc o x _ tt q in
      let r : after_length o x + n ≡ e = done_answer (passed _ _ _ _ tt rest).rest in
      let f = after_forward o x in
      omega arith
  by_form o array object a b (f_object x) e q = let (n, is, rest) = length_step doc o x _ tt q in b n (after_length o x) e (after_forward o x) rest
  by_form o array object a b (f_array x) e q = let (n, is, rest) = length_step doc o x _ tt q in a n (after_length o x) e (after_forward o x) rest
  by_form o array object a b f_reserved e q = absurd (halt≢done q)

  in_value : (key : ℕ → Reading (Unit {0}) ℕ) → Forward key → (l : ℕ) → Forward (value key l doc)
  unfolding value
  in_value key h zero o e q =
      by_form o _ _ (λ n p e b r. absurd (halt≢done r)) (λ n p e b r. absurd (halt≢done r)) (form_of (get_or doc o 0)) e (byte_step doc o o _ tt q).1
  in_value key h (suc l) o e q =
      let go = in_value key h l in
      by_form o _ _
      (λ n p e b r. let f = in_turn_lem (value key l doc) go n p e r in omega arith)
      (λ n p e b r. let f = in_turn_lem (member key (value key l doc)) (in_member key (value key l doc) h go) n p e r in omega arith)
      (form_of (get_or doc o 0)) e (byte_step doc o o _ tt q).1

  -- ---- a length

  length_forward : (o : ℕ) (x : Len) (n : Numeral) → ask (length_at doc o x) ≡ answers n → o ≤ n.past
  unfolding length_at payload
  length_forward o (tiny k) n q = subst (λ (y : Numeral). o ≤ y.past) (done_answer q) (omega arith)
  length_forward o (after w) n q = subst (λ (y : Numeral). o ≤ y.past) (done_answer (passed _ _ _ _ tt q).rest) (omega arith)

  wanted_form : (o : ℕ) (f : Form) (want : Wanted) (n : Numeral) → ask (wanted_by doc o f want) ≡ answers n → o ≤ n.past
  unfolding wanted_by
  wanted_form o f_null want n q = absurd (halt≢done q)
  wanted_form o (f_bool b) want n q = absurd (halt≢done q)
  wanted_form o (f_int s w) want n q = absurd (halt≢done q)
  wanted_form o (f_float f w) want n q = absurd (halt≢done q)
  wanted_form o (f_tiny b) want n q = absurd (halt≢done q)
  wanted_form o (f_string x) a_string n q = length_forward o x n q
  wanted_form o (f_string x) an_object n q = absurd (halt≢done q)
  wanted_form o (f_string x) an_array n q = absurd (halt≢done q)
  wanted_form o (f_object x) a_string n q = absurd (halt≢done q)
  wanted_form o (f_object x) an_object n q = length_forward o x n q
  wanted_form o (f_object x) an_array n q = absurd (halt≢done q)
  wanted_form o (f_array x) a_string n q = absurd (halt≢done q)
  wanted_form o (f_array x) an_object n q = absurd (halt≢done q)
  wanted_form o (f_array x) an_array n q = length_forward o x n q
  wanted_form o f_reserved want n q = absurd (halt≢done q)

  wanted_forward : (o : ℕ) (want : Wanted) (n : Numeral) → ask (wanted_here doc o want) ≡ answers n → o ≤ n.past
  unfolding wanted_here
  wanted_forward o want n q = wanted_form o (form_of (get_or doc o 0)) want n (byte_step doc o o _ tt q).1

  module _ (list words : List ℕ) (count : ℕ) where
    -- ---- a key, and the end

    key_form : (o : ℕ) (f : KeyForm) (k : KeyRead) → ask (key_by doc o (text_key doc o) (back_key doc words count o) (name_key list o) f) ≡ answers k → o ≤ k.past
    unfolding key_by text_key back_key name_key
    key_form o (immediate x) k q =
        let (n, b, is, rest) = key_number_step doc o x _ tt q in
        let (fits, r) = text_step doc o (numeral n b) _ tt rest in
        let f = key_number_forward doc o x n b is in
        subst (λ (y : KeyRead). o ≤ y.past) (done_answer r) (omega arith)
    key_form o (back_reference x) k q =
        let (n, b, is, rest) = key_number_step doc o x _ tt q in
        let r = (passed _ _ _ _ tt (passed _ _ _ _ tt (passed _ _ _ _ tt rest).rest).rest).rest in
        subst (λ (y : KeyRead). o ≤ y.past) (done_answer r) (key_number_forward doc o x n b is)
    key_form o (global_index x) k q =
        let (n, b, is, rest) = key_number_step doc o x _ tt q in
        subst (λ (y : KeyRead). o ≤ y.past) (done_answer (passed _ _ _ _ tt rest).rest) (key_number_forward doc o x n b is)
    key_form o k_reserved k q = absurd (halt≢done q)

    pub key_forward : (o : ℕ) (k : KeyRead) → ask (read_key doc list words count o) ≡ answers k → o ≤ k.past
    unfolding read_key
    key_forward o k q = key_form o (key_form_of (get_or doc o 0)) k (byte_step doc o o _ tt q).1

    pass_forward : Forward (pass_key doc list words count)
    unfolding pass_key
    pass_forward o e q =
        let s = step _ _ tt q in
        let f = key_forward o s.got s.first in
        let r : s.got.past ≡ e = done_answer s.rest in
        omega arith

    walk_forward : (l : ℕ) → Forward (walk l doc list words count)
    walk_forward l = in_value (pass_key doc list words count) pass_forward l

    pub end_forward : (o e : ℕ) → ask (walk deepest doc list words count o) ≡ answers e → o ≤ e
    end_forward = walk_forward deepest

    -- ---- element i, member j and the first member by key

    pub element_forward : (o i e : ℕ) → ask (element_here doc list words count o i) ≡ answers e → o ≤ e
    unfolding element_here element_from
    element_forward o i e q =
        let s = step _ _ tt q in
        let f = wanted_forward o an_array s.got s.first in
        let g = in_turn_lem (walk inner doc list words count) (walk_forward inner) i s.got.past e (passed _ _ _ _ tt s.rest).rest in
        omega arith

    pub member_forward : (o j : ℕ) (a : MemberAt) → ask (member_here doc list words count o j) ≡ answers a → (o ≤ a.key) × (o ≤ a.value)
    unfolding member_here member_from
    member_forward o j a q =
        let s = step _ _ tt q in
        let f = wanted_forward o an_object s.got s.first in
        let t = step _ _ tt (passed _ _ _ _ tt s.rest).rest in
        let g = in_turn_lem (member (pass_key doc list words count) (walk inner doc list words count)) (in_member _ _ pass_forward (walk_forward inner)) j s.got.past t.got t.first in
        let u = step _ _ tt t.rest in
        let h = pass_forward t.got u.got u.first in
        subst (λ (y : MemberAt). (o ≤ y.key) × (o ≤ y.value)) (done_answer u.rest) (omega arith, omega arith)

    find_forward : (x : List ℕ) (later o e : ℕ) → ask (find_from doc list words count x later o) ≡ answers (value_at e) → o ≤ e
    unfolding find_from choose
    find_forward x zero o e q = let s = step _ _ tt q in go (is_equal (compare_texts (text_in doc list s.got) x)) s.got.past (key_forward o s.got s.first) s.rest
      where
        go : (b : Bool) (p : ℕ) → o ≤ p → ask (choose b (answer (value_at p)) (answer absent)) ≡ answers (value_at e) → o ≤ e
        go true p f r = let w : p ≡ e = value_answer (done_answer r) in omega arith
        go false p f r = absurd (absent≢value (done_answer r))
    find_forward x (suc later) o e q =
        let s = step _ _ tt q in
        go (is_equal (compare_texts (text_in doc list s.got) x)) s.got.past (key_forward o s.got s.first) (λ n w. find_forward x later n e w) s.rest
      where
        go : (b : Bool) (p : ℕ) → o ≤ p → ((n : ℕ) → ask (find_from doc list words count x later n) ≡ answers (value_at e) → n ≤ e)
            → ask (choose b (answer (value_at p)) (walk inner doc list words count p >>= λ next. find_from doc list words count x later next)) ≡ answers (value_at e) → o ≤ e
        go true p f k r = let w : p ≡ e = value_answer (done_answer r) in omega arith
        go false p f k r =
            let t = step _ _ tt r in
            let a = walk_forward inner p t.got t.first in
            let b = k t.got t.rest in
            omega arith

    pub first_forward : (o : ℕ) (x : List ℕ) (e : ℕ) → ask (first_here doc list words count o x) ≡ answers (value_at e) → o ≤ e
    unfolding first_here find_in
    first_forward o x e q = let s = step _ _ tt q in go s.got.is s.got.past (wanted_forward o an_object s.got s.first) s.rest
      where
        go : (n p : ℕ) → o ≤ p → ask (find_in doc list words count x n p) ≡ answers (value_at e) → o ≤ e
        go zero p f r = absurd (absent≢value (done_answer r))
        go (suc n) p f r = let g = find_forward x n p e r in omega arith

-- ---- after an opening at c, which is after the header, at any cursor d after the header

after_header : (doc list : List ℕ) (c : ℕ) → ask (opening doc list c) ≡ answers tt → 3 ≤ c
unfolding opening
after_header doc list c o = leb→le 3 c (need_done _ _ _ tt (step _ _ tt (step _ _ tt o).rest).rest)

module _ (doc list : List ℕ) (c d : ℕ) (h : 3 ≤ d) (o : ask (opening doc list c) ≡ answers tt) where
  pub opens_again : ask (opening doc list d) ≡ answers tt
  unfolding opening
  opens_again =
      let s = step _ _ tt o in
      then _ _ tt s.first ∙ (then _ _ tt (step _ _ tt s.rest).first ∙ need_yes _ _ _ tt (le→leb 3 d h))

  once : {A : Type 0} (rest : Reading (Unit {0}) A) → ask (opening doc list d >> rest) ≡ ask rest
  once rest = then _ _ tt opens_again

  pub kind_once : ask (kind doc list d) ≡ ask (kind_here doc d)
  unfolding kind
  kind_once = once _

  pub number_once : ask (number_at doc list d) ≡ ask (number_here doc d)
  unfolding number_at
  number_once = once _

  pub string_once : ask (string_at doc list d) ≡ ask (string_here doc d)
  unfolding string_at
  string_once = once _

  module _ (words : List ℕ) (count : ℕ) where
    pub end_once : ask (end_of doc list words count d) ≡ ask (walk deepest doc list words count d)
    unfolding end_of
    end_once = once _

    pub element_once : (i : ℕ) → ask (element_at doc list words count d i) ≡ ask (element_here doc list words count d i)
    unfolding element_at
    element_once i = once _

    pub member_once : (j : ℕ) → ask (member_at doc list words count d j) ≡ ask (member_here doc list words count d j)
    unfolding member_at
    member_once j = once _

    pub first_once : (x : List ℕ) → ask (first_member doc list words count d x) ≡ ask (first_here doc list words count d x)
    unfolding first_member
    first_once x = once _

    pub key_once : ask (key_at doc list words count d) ≡ ask (read_key doc list words count d)
    unfolding key_at
    key_once = once _

-- and so at every later cursor
pub opens_later : (doc list : List ℕ) (c d : ℕ) → c ≤ d → ask (opening doc list c) ≡ answers tt → ask (opening doc list d) ≡ answers tt
opens_later doc list c d h o = let b = after_header doc list c o in opens_again doc list c d (omega arith) o
