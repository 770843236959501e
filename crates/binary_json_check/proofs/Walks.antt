-- The walk over the tree, one law for each way through the functions of `walk`.
use mathlib.Core.Path.{◌≡◌, refl, sym, ap, ◌∙◌, subst}
use mathlib.Core.Bool.{Bool, true, false}
use mathlib.Core.List.{List}
use Prim.Native.Nat.{ℕ, zero, suc, ◌+◌, ◌-◌, ◌*◌, ◌/◌, ◌%◌, ◌^◌, ◌≤◌, ◌<◌}
use native.Mathlib.Omega.{arith}
use borrow.Author.Rules.{rules}
use mir.Syntax.{w64}
use mir.Val.{Fits}
use borrow.Author.Tests.{lt-ltb}
use lib.Dec.{T, leb, le→leb, lt→ltb, leb→le, ltb→lt, eqb→eq}
use lib.ListN.{length, take, drop}
use borrow.Rule.Slice.PartMut.{put_mid}
use Rattle.std.proofs.lemmas.Float.{T_from_true}
use Rattle.binary_json_check.proofs.MarkLaws.{put_filled, put_same, clear_part}
use Rattle.json_model.specs.Limits.{deepest}
use Rattle.json_model.specs.Reading.{Outcome, halt, done, Reading, refuse, ask, answers, refuses, follow, ◌>>=◌, ◌>>◌, need}
use Rattle.json_model.specs.declared.Refusal.{Refusal}
use Rattle.std.specs.Prelude.{Option, Some, None, Result, Ok, Err}
use Rattle.json_model.proofs.Reading.{eq→eqb, over, past, unlike, then, stops, pass, fail, carry}
use Rattle.binary_json_rules.specs.Areas.{word, low, high, index, count, slot, k_array, k_object, kind_of, type_of}
use Rattle.binary_json_rules.specs.Verdict.{slot_named, key_entries, entry_by, entry, entries, mark_body, container_by, container, scalar, root_by}
use Rattle.binary_json_rules.specs.Marks.{words, word_at, clear}
use Rattle.binary_json_theorems.proofs.Carried.{carry_slot_named, carry_number_named, carry_keys}
use Rattle.binary_json_theorems.proofs.Cases.{by_kind, by_type}
use Rattle.binary_json_areas.specs.Laid.{Laid}
use Rattle.binary_json_areas.specs.Naming.{SlotNamed, NumberNamed}
use Rattle.binary_json_check.specs.Taken.{Taken}
use Rattle.binary_json_check.specs.Walks.{on_step, Stepped, container_with, BodyIs}
use Rattle.binary_json_areas.specs.declared.areas.Areas.{Areas}
use Rattle.binary_json_areas.specs.declared.named.NoNumber.{NoNumber}
use Rattle.binary_json_check.specs.declared.walk.Entries.{Entries}

-- ---- rule 11

-- the KeyEntries from the k-th on, above p, are all that is left of the n from first on; p is the string index or a slot
pub record Keyed (doc : List ℕ) (first n k p : ℕ) : Type 0 where
  pub same : ask (key_entries doc (n - k) p (first + 4 * k)) ≡ ask (key_entries doc n 0 first)
  pub above : index doc ≤ p

-- tests with one number and place: whichever fails, the refusal is the same
tests_fail : (t1 t2 t3 t4 : Bool) (n p : ℕ) (f : Unit {0} → Reading (Unit {0}) (Unit {0})) → (T t1 → T t2 → T t3 → T t4 → ⊥)
    → ask ((need t1 n p >>= λ _. need t2 n p >>= λ _. need t3 n p) >>= λ _. need t4 n p >>= f) ≡ refuses n p
unfolding ◌>>=◌ follow need
tests_fail false t2 t3 t4 n p f h = refl
tests_fail true false t3 t4 n p f h = refl
tests_fail true true false t4 n p f h = refl
tests_fail true true true false n p f h = refl
tests_fail true true true true n p f h = absurd (h tt tt tt tt)

tests_pass : (t1 t2 t3 t4 : Bool) (n p : ℕ) (f : Unit {0} → Reading (Unit {0}) (Unit {0})) → T t1 → T t2 → T t3 → T t4
    → ask ((need t1 n p >>= λ _. need t2 n p >>= λ _. need t3 n p) >>= λ _. need t4 n p >>= f) ≡ ask (f tt)
unfolding ◌>>=◌ follow need
tests_pass true true true true n p f a b c d = refl
tests_pass false t2 t3 t4 n p f a b c d = absurd a
tests_pass true false t3 t4 n p f a b c d = absurd b
tests_pass true true false t4 n p f a b c d = absurd c
tests_pass true true true false n p f a b c d = absurd d

module _ (doc : List ℕ) (l p at : ℕ) where
  key_fails : (slot doc 0 ≤ word doc at → (word doc at - slot doc 0) % 4 ≡ 0 → word doc at < slot doc (count doc) → p < word doc at → ⊥)
      → ask (key_entries doc (suc l) p at) ≡ refuses 11 at
  unfolding key_entries slot_named
  key_fails h = tests_fail _ _ _ _ 11 at _ (λ a b c d. h (leb→le _ _ a) (eqb→eq _ _ b) (ltb→lt _ _ c) (ltb→lt _ _ d))

  key_passes : slot doc 0 ≤ word doc at → (word doc at - slot doc 0) % 4 ≡ 0 → word doc at < slot doc (count doc) → p < word doc at
      → ask (key_entries doc (suc l) p at) ≡ ask (key_entries doc l (word doc at) (at + 4))
  unfolding key_entries slot_named
  key_passes a b c d = tests_pass _ _ _ _ 11 at _ (le→leb _ _ a) (eq→eqb b) (lt→ltb _ _ c) (lt→ltb _ _ d)

-- a test that comes to the same wherever the first passes
tests_alike : (t1 t2 t3 t4 u4 : Bool) (n p : ℕ) (f : Unit {0} → Reading (Unit {0}) (Unit {0})) → (T t1 → t4 ≡ u4)
    → ask ((need t1 n p >>= λ _. need t2 n p >>= λ _. need t3 n p) >>= λ _. need t4 n p >>= f) ≡ ask ((need t1 n p >>= λ _. need t2 n p >>= λ _. need t3 n p) >>= λ _. need u4 n p >>= f)
unfolding ◌>>=◌ follow need
tests_alike false t2 t3 t4 u4 n p f h = refl
tests_alike true t2 t3 t4 u4 n p f h = rw (h tt)

-- so the first KeyEntry may be asked to be above the string index, where no slot is below
from_index : (doc : List ℕ) (n at : ℕ) → ask (key_entries doc n (index doc) at) ≡ ask (key_entries doc n 0 at)
unfolding key_entries slot_named slot
from_index doc zero at = refl
from_index doc (suc n) at =
    tests_alike _ _ _ _ _ 11 at _
    (λ t. let h : index doc + 4 + 4 * 0 ≤ word doc at = leb→le _ _ t in lt-ltb (index doc) (word doc at) (omega arith) ∙ sym (lt-ltb 0 (word doc at) (omega arith)))

module _ (doc : List ℕ) (a : Areas) (laid : Laid doc a) (first n : ℕ) where
  pub keyed_first : Keyed doc first n 0 a.index
  keyed_first =
      let i = laid.framed.index_is in
      let p : first + 4 * 0 ≡ first = omega arith in
      let q : n - 0 ≡ n = omega arith in
      record { same = rw (i, p, q) (from_index doc n first); above = omega arith }

  module _ (k p : ℕ) (x : Keyed doc first n k p) (b : k < n) (v : ℕ) (is : v ≡ word doc (first + 4 * k)) where
    left : suc (n - (k + 1)) ≡ n - k
    left = omega arith

    key_refused : (slot doc 0 ≤ v → (v - slot doc 0) % 4 ≡ 0 → v < slot doc (count doc) → p < v → ⊥) → refuses 11 (first + 4 * k) ≡ ask (key_entries doc n 0 first)
    key_refused f = sym (key_fails doc (n - (k + 1)) p (first + 4 * k) (rw is at f)) ∙ rw left x.same

    pub not_above : v ≤ p → refuses 11 (first + 4 * k) ≡ ask (key_entries doc n 0 first)
    not_above h = key_refused (λ q r s t. omega arith)

    module _ (over : p < v) where
      pub above_index : a.index ≤ v
      above_index = let i = laid.framed.index_is in let u = x.above in omega arith

      pub key_out_of_step : ((v - a.index) % 4 ≡ 0 → ⊥) → refuses 11 (first + 4 * k) ≡ ask (key_entries doc n 0 first)
      unfolding slot
      key_out_of_step h = let i = laid.framed.index_is in key_refused (λ q r s t. h (omega arith))

      pub past_slots : a.index + 4 + 4 * a.count ≤ v → refuses 11 (first + 4 * k) ≡ ask (key_entries doc n 0 first)
      unfolding slot
      past_slots h = let i = laid.framed.index_is in let c = laid.framed.count_is in key_refused (λ q r s t. omega arith)

      pub keyed_next : (v - a.index) % 4 ≡ 0 → v < a.index + 4 + 4 * a.count → Keyed doc first n (k + 1) v
      unfolding slot
      keyed_next s e =
          let i = laid.framed.index_is in
          let c = laid.framed.count_is in
          let u = x.above in
          record {
            same = goes (omega arith) (omega arith) (omega arith) (omega arith) ∙ rw left x.same;
            above = omega arith;
          }
        where
          on : first + 4 * k + 4 ≡ first + 4 * (k + 1)
          on = omega arith

          goes : slot doc 0 ≤ v → (v - slot doc 0) % 4 ≡ 0 → v < slot doc (count doc) → p < v
              → ask (key_entries doc (n - (k + 1)) v (first + 4 * (k + 1))) ≡ ask (key_entries doc (suc (n - (k + 1))) p (first + 4 * k))
          goes d e f g = rw (← on) (rw is (sym (key_passes doc (n - (k + 1)) p (first + 4 * k) (rw is at d) (rw is at e) (rw is at f) (rw is at g))))

pub keyed_done : (doc : List ℕ) (first n k p : ℕ) → Keyed doc first n k p → n ≤ k → answers tt ≡ ask (key_entries doc n 0 first)
unfolding key_entries
keyed_done doc first n k p x h = let e : n - k ≡ 0 = omega arith in (rw e at x.same)

pub ruleset key_laws = (keyed_first, not_above, above_index, key_out_of_step, past_slots, keyed_next, keyed_done, rules)

-- ---- rules 9 and 10

module _ (doc : List ℕ) (c at : ℕ) (child : ℕ → Reading (List ℕ) (Unit {0})) (ms : List ℕ) where
  small_type : (n : ℕ) → n < 3 → entry_by doc child c at (type_of n) ms ≡ done tt ms
  unfolding entry_by
  small_type =
      by_type (λ n t. n < 3 → entry_by doc child c at t ms ≡ done tt ms) (λ h. refl) (λ h. refl) (λ h. refl) (λ h. absurd (omega arith)) (λ h. absurd (omega arith)) (λ h. absurd (omega arith)) (λ n h. absurd (omega arith))

  large_type : (n : ℕ) → 6 ≤ n → entry_by doc child c at (type_of n) ms ≡ halt 9 at ms
  unfolding entry_by
  large_type =
      by_type (λ n t. 6 ≤ n → entry_by doc child c at t ms ≡ halt 9 at ms) (λ h. absurd (omega arith)) (λ h. absurd (omega arith)) (λ h. absurd (omega arith)) (λ h. absurd (omega arith)) (λ h. absurd (omega arith)) (λ h. absurd (omega arith)) (λ n h. refl)

module _ (doc : List ℕ) (c at kind value : ℕ) (ks : kind ≡ low doc at) (vs : value ≡ high doc at) where
  of_kind : (child : ℕ → Reading (List ℕ) (Unit {0})) (ms : List ℕ) → entry_by doc child c at (type_of kind) ms ≡ entry doc child c at ms
  unfolding entry
  of_kind child ms = rw ks

  pub plain_entry : kind < 3 → Stepped doc c at (Ok None)
  unfolding Stepped
  plain_entry h = (tt, λ child ms. sym (small_type doc c at child ms kind h) ∙ of_kind child ms)

  module _ (k3 : kind ≡ 3) (g : Bool) (named : SlotNamed doc value g) where
    pub string_entry : g ≡ true → Stepped doc c at (Ok None)
    unfolding Stepped entry_by type_of
    string_entry q = (tt, λ child ms. sym (rw (k3, sym vs) (carry_slot_named doc value 9 at ms ∙ ap (carry ms) ((rw q at named) 9 at))) ∙ of_kind child ms)

    pub string_refused : g ≡ false → Stepped doc c at (Err (record { place = at; number = 9 }))
    unfolding Stepped entry_by type_of
    string_refused q = (tt, λ child ms. sym (rw (k3, sym vs) (carry_slot_named doc value 9 at ms ∙ ap (carry ms) ((rw q at named) 9 at))) ∙ of_kind child ms)

  module _ (k4 : kind ≡ 4) where
    pub number_entry : (bits : ℕ) → NumberNamed doc value (Ok bits) → Stepped doc c at (Ok None)
    unfolding Stepped entry_by type_of
    number_entry bits h = (tt, λ child ms. sym (rw (k4, sym vs) (carry_number_named doc value 9 at ms ∙ ap (carry ms) (h.1 9 at))) ∙ of_kind child ms)

    pub not_finite_refused : NumberNamed doc value (Err NoNumber.NotFinite) → Stepped doc c at (Err (record { place = at; number = 10 }))
    unfolding Stepped entry_by type_of
    not_finite_refused h = (tt, λ child ms. sym (rw (k4, sym vs) (carry_number_named doc value 9 at ms ∙ ap (carry ms) (h 9 at))) ∙ of_kind child ms)

    pub outside_refused : NumberNamed doc value (Err NoNumber.Outside) → Stepped doc c at (Err (record { place = at; number = 9 }))
    unfolding Stepped entry_by type_of
    outside_refused h = (tt, λ child ms. sym (rw (k4, sym vs) (carry_number_named doc value 9 at ms ∙ ap (carry ms) (h 9 at))) ∙ of_kind child ms)

  module _ (k5 : kind ≡ 5) where
    pub container_entry : value % 4 ≡ 0 → c < value → Stepped doc c at (Ok (Some value))
    unfolding Stepped entry_by type_of
    container_entry q p = (p, λ child ms. sym (rw (k5, sym vs) (pass _ _ _ _ ms (eq→eqb q) ∙ pass _ _ _ _ ms (lt→ltb _ _ p))) ∙ of_kind child ms)

    pub not_past : value % 4 ≡ 0 → value ≤ c → Stepped doc c at (Err (record { place = at; number = 9 }))
    unfolding Stepped entry_by type_of
    not_past q p = (tt, λ child ms. sym (rw (k5, sym vs) (pass _ _ _ _ ms (eq→eqb q) ∙ fail _ _ _ _ ms (past p))) ∙ of_kind child ms)

    pub out_of_step : (value % 4 ≡ 0 → ⊥) → Stepped doc c at (Err (record { place = at; number = 9 }))
    unfolding Stepped entry_by type_of
    out_of_step q = (tt, λ child ms. sym (rw (k5, sym vs) (fail _ _ _ _ ms (unlike q))) ∙ of_kind child ms)

  pub other_entry : 3 ≤ kind → (kind ≡ 3 → ⊥) → (kind ≡ 4 → ⊥) → (kind ≡ 5 → ⊥) → Stepped doc c at (Err (record { place = at; number = 9 }))
  unfolding Stepped
  other_entry a b d e = (tt, λ child ms. sym (large_type doc c at child ms kind (omega arith)) ∙ of_kind child ms)

pub ruleset entry_laws = (plain_entry, string_entry, string_refused, number_entry, not_finite_refused, outside_refused, container_entry, not_past, out_of_step, other_entry, rules)

-- ---- rule 14

-- k words from that of o on are what `after` stands for
module _ (o w k : ℕ) (ms after : List ℕ) (room : (o - 4) / 4 + w ≤ length ms) (ks : k ≡ w) where
  pub body_taken : Taken (take k (drop ((o - 4) / 4) ms)) true after → done tt (put_mid ((o - 4) / 4) k ms after) ≡ mark_body o w ms
  unfolding mark_body
  body_taken h =
      let t : T (clear ms (word_at o) w) = T_from_true _ (sym (clear_part ms (word_at o) k w ks room) ∙ h.0) in
      ap (λ z. done tt z) (put_filled ms (word_at o) k w 1 after ks room h.1) ∙ sym (then _ _ ms refl ∙ pass _ _ _ _ ms t)

  pub body_met : Taken (take k (drop ((o - 4) / 4) ms)) false after → halt 14 o (put_mid ((o - 4) / 4) k ms after) ≡ mark_body o w ms
  unfolding mark_body
  body_met h =
      let t : T (clear ms (word_at o) w) → ⊥ = λ q. subst (λ (b : Bool). T b) (sym (clear_part ms (word_at o) k w ks room) ∙ h.0) q in
      ap (λ z. halt 14 o z) (rw h.1 (put_same ms (word_at o) k)) ∙ sym (then _ _ ms refl ∙ fail _ _ _ _ ms t)

pub ruleset mark_laws = (body_taken, body_met, rules)

-- ---- rules 8, 14 and 11

module _ (doc : List ℕ) (a : Areas) (x : Laid doc a) (o : ℕ) (ms : List ℕ) where
  index_is : a.index ≡ index doc
  index_is = x.framed.index_is

  refused : a.index < o + 4 → BodyIs doc o ms ms (Err (record { place = o; number = 8 }))
  unfolding BodyIs container_with
  refused h child = sym (fail _ _ _ _ ms (over (rw index_is at h)))

  pub past_index : a.index < o → BodyIs doc o ms ms (Err (record { place = o; number = 8 }))
  past_index h = refused (omega arith)

  module _ (l : o ≤ a.index) where
    pub no_meta : a.index - o < 4 → BodyIs doc o ms ms (Err (record { place = o; number = 8 }))
    no_meta h = refused (omega arith)

    module _ (h : 4 ≤ a.index - o) (kind n : ℕ) (ks : kind ≡ low doc o) (ns : n ≡ high doc o) where
      there : T (leb (o + 4) (index doc))
      there = let e = index_is in let q : o + 4 ≤ index doc = omega arith in le→leb _ _ q

      container_by_lem : (child : ℕ → Reading (List ℕ) (Unit {0})) → container_by doc child o n (kind_of kind) ms ≡ container_with doc o child ms
      unfolding container_with
      container_by_lem child = sym (pass _ _ _ _ ms there ∙ rw (sym ks, sym ns))

      kind_over : (child : ℕ → Reading (List ℕ) (Unit {0})) (k : ℕ) → (k ≡ 0 → ⊥) → (k ≡ 1 → ⊥) → container_by doc child o n (kind_of k) ms ≡ halt 8 o ms
      unfolding container_by
      kind_over child =
          by_kind (λ k t. (k ≡ 0 → ⊥) → (k ≡ 1 → ⊥) → container_by doc child o n t ms ≡ halt 8 o ms) (λ p q. absurd (p refl)) (λ p q. absurd (q refl)) (λ p q. refl) (λ k p q. refl)

      pub kind_refused : (kind ≡ 0 → ⊥) → (kind ≡ 1 → ⊥) → BodyIs doc o ms ms (Err (record { place = o; number = 8 }))
      unfolding BodyIs
      kind_refused p q child = sym (kind_over child kind p q) ∙ container_by_lem child

pub of_index : (doc : List ℕ) (a : Areas) (o : ℕ) → o ≤ a.index → 4 ≤ a.index - o → o + 4 ≤ a.index
of_index doc a o l h = omega arith

-- either kind: so many KeyEntries, and then n Entries
unfoldable words_read : List ℕ → (ℕ → Reading (List ℕ) (Unit {0})) → ℕ → ℕ → ℕ → Reading (List ℕ) (Unit {0})
words_read doc child o keys n = do
  need (leb (o + 4 + 4 * keys + 4 * n) (index doc)) 8 o
  mark_body o (1 + keys + n)
  key_entries doc keys 0 (o + 4)
  entries doc child o n (o + 4 + 4 * keys)

words_of : (doc : List ℕ) (child : ℕ → Reading (List ℕ) (Unit {0})) (o keys n : ℕ) (ms : List ℕ) (k : ℕ) → k ≤ 1 → keys ≡ k * n → container_by doc child o n (kind_of k) ms ≡ words_read doc child o keys n ms
unfolding container_by words_read key_entries ◌>>=◌ follow
words_of doc child o keys n ms =
    by_kind (λ k t. k ≤ 1 → keys ≡ k * n → container_by doc child o n t ms ≡ words_read doc child o keys n ms) (λ s e. none e) (λ s e. all e) (λ s e. absurd (omega arith)) (λ k s e. absurd (omega arith))
  where
    none : keys ≡ 0 * n → container_by doc child o n k_array ms ≡ words_read doc child o keys n ms
    none e =
        let z : keys ≡ 0 = omega arith in
        let p : o + 4 + 4 * 0 ≡ o + 4 = omega arith in
        let q : 1 + 0 + n ≡ 1 + n = omega arith in
        rw (z, p, q) refl

    all : keys ≡ 1 * n → container_by doc child o n k_object ms ≡ words_read doc child o keys n ms
    all e =
        let z : keys ≡ n = omega arith in
        let p : o + 4 + 4 * n + 4 * n ≡ o + 4 + 4 * (2 * n) = omega arith in
        let q : 1 + n + n ≡ 1 + 2 * n = omega arith in
        rw (z, p, q) refl

module _ (doc : List ℕ) (o kind n : ℕ) (ks : kind ≡ low doc o) where
  pub no_keys : kind ≡ 0 → (low doc o ≤ 1) × (0 ≡ low doc o * n)
  no_keys z = rw (sym ks, z) (omega arith, omega arith)

  pub all_keys : kind ≡ 1 → (low doc o ≤ 1) × (n ≡ low doc o * n)
  all_keys z = rw (sym ks, z) (omega arith, omega arith)

pub ruleset body_laws = (past_index, no_meta, kind_refused, of_index, no_keys, all_keys, rules)

module _ (doc : List ℕ) (a : Areas) (x : Laid doc a) (o n keys : ℕ) (ms : List ℕ) (l : o + 4 ≤ a.index) (ns : n ≡ high doc o) (small : low doc o ≤ 1) (ks : keys ≡ low doc o * n) where
  keys_few : keys ≤ n
  keys_few = go (low doc o) small ks
    where
      go : (k : ℕ) → k ≤ 1 → keys ≡ k * n → keys ≤ n
      go zero s e = omega arith
      go (suc zero) s e = omega arith
      go (suc (suc k)) s e = absurd (omega arith)

  pub place_fits : n < 2 ^ 27 → Fits w64 (o + 4 + 4 * keys)
  place_fits b = let f = keys_few in let c = x.framed.slots_inside in let d = x.framed.short in omega arith

  pub end_fits : n < 2 ^ 27 → Fits w64 (o + 4 + 4 * keys + 4 * n)
  end_fits b = let f = keys_few in let c = x.framed.slots_inside in let d = x.framed.short in omega arith

  read_is : (child : ℕ → Reading (List ℕ) (Unit {0})) → words_read doc child o keys n ms ≡ container_with doc o child ms
  unfolding container_with
  read_is child = sym (pass _ _ _ _ ms (le→leb _ _ (rw x.framed.index_is at l)) ∙ (ap (λ m. container_by doc child o m (kind_of (low doc o)) ms) (sym ns) ∙ words_of doc child o keys n ms (low doc o) small ks))

  pub words_refused : a.index < o + 4 + 4 * keys + 4 * n → BodyIs doc o ms ms (Err (record { place = o; number = 8 }))
  unfolding BodyIs words_read
  words_refused q child = sym (fail _ _ _ _ ms (over (rw x.framed.index_is at q))) ∙ read_is child

  module _ (q : o + 4 + 4 * keys + 4 * n ≤ a.index) where
    pub words_room : 4 ≤ o → words doc ≤ length ms → (o - 4) / 4 + (1 + keys + n) ≤ length ms
    unfolding words
    words_room p m = let e = x.framed.index_is in omega arith

    pub keys_inside : o + 4 + 4 * keys ≤ a.index
    keys_inside = omega arith

    module _ (after : List ℕ) where
      pub words_met : (r : Refusal) → halt r.number r.place after ≡ mark_body o (1 + keys + n) ms → BodyIs doc o ms after (Err r)
      unfolding BodyIs words_read
      words_met r m child = sym (pass _ _ _ _ ms (le→leb _ _ (rw x.framed.index_is at q)) ∙ stops _ _ ms (sym m)) ∙ read_is child

      module _ (m : done tt after ≡ mark_body o (1 + keys + n) ms) where
        to_keys : (child : ℕ → Reading (List ℕ) (Unit {0})) → (key_entries doc keys 0 (o + 4) >>= λ _. entries doc child o n (o + 4 + 4 * keys)) after ≡ container_with doc o child ms
        unfolding words_read
        to_keys child = sym (pass _ _ _ _ ms (le→leb _ _ (rw x.framed.index_is at q)) ∙ then _ _ ms (sym m)) ∙ read_is child

        pub keys_refused : (r : Refusal) → refuses r.number r.place ≡ ask (key_entries doc keys 0 (o + 4)) → BodyIs doc o ms after (Err r)
        unfolding BodyIs
        keys_refused r f child = sym (stops _ _ after (carry_keys doc keys 0 (o + 4) after ∙ ap (carry after) (sym f))) ∙ to_keys child

        pub words_body : answers tt ≡ ask (key_entries doc keys 0 (o + 4)) → BodyIs doc o ms after (Ok (record { first = o + 4 + 4 * keys; count = n }))
        unfolding BodyIs
        words_body f =
            let i = x.framed.index_is in
            (omega arith, λ child. sym (then _ _ after (carry_keys doc keys 0 (o + 4) after ∙ ap (carry after) (sym f))) ∙ to_keys child)

pub ruleset words_laws = (place_fits, end_fits, words_refused, words_room, keys_inside, words_met, keys_refused, words_body, rules)

-- ---- rule 12, and the walk itself

module _ (doc : List ℕ) (c at below : ℕ) (ms : List ℕ) where
  pub pass_ends : Stepped doc c at (Ok None) → done tt ms ≡ entry doc (container below doc) c at ms
  unfolding Stepped
  pass_ends x = x.1 (container below doc) ms

  pub child_past : (o : ℕ) → Stepped doc c at (Ok (Some o)) → 4 ≤ c → 4 ≤ o
  unfolding Stepped
  child_past o x h = let p : c < o = x.0 in omega arith

  pub child_ends : (o : ℕ) (r : Outcome (List ℕ) (Unit {0})) → Stepped doc c at (Ok (Some o)) → r ≡ container below doc o ms → r ≡ entry doc (container below doc) c at ms
  unfolding Stepped
  child_ends o r x h = h ∙ x.1 (container below doc) ms

  pub step_refused : (r : Refusal) → Stepped doc c at (Err r) → halt r.number r.place ms ≡ entry doc (container below doc) c at ms
  unfolding Stepped
  step_refused r x = x.1 (container below doc) ms

pub no_level : (doc ms : List ℕ) (levels o : ℕ) → levels ≡ 0 → halt 12 o ms ≡ container levels doc o ms
unfolding container
no_level doc ms levels o e = rw e

-- the Entries from the k-th on are all that is left of the n from first on, where the marks were ms
pub record Entered (doc : List ℕ) (a : Areas) (levels o first n : ℕ) (ms : List ℕ) (k : ℕ) (now : List ℕ) : Type 0 where
  pub same : entries doc (container (levels - 1) doc) o (n - k) (first + 4 * k) now ≡ entries doc (container (levels - 1) doc) o n first ms
  pub inside : first + 4 * n ≤ a.index
  pub long : length now ≡ length ms

container_is : (doc ms : List ℕ) (levels o : ℕ) → (levels ≡ 0 → ⊥) → container_with doc o (container (levels - 1) doc) ms ≡ container levels doc o ms
unfolding container_with container
container_is doc ms zero o h = absurd (h refl)
container_is doc ms (suc l) o h = let e : suc l - 1 ≡ l = omega arith in rw e

entries_suc : (doc : List ℕ) (child : ℕ → Reading (List ℕ) (Unit {0})) (c l at : ℕ) (ms : List ℕ) → entries doc child c (suc l) at ms ≡ (entry doc child c at >>= λ _. entries doc child c l (at + 4)) ms
unfolding entries
entries_suc doc child c l at ms = refl

module _ (doc : List ℕ) (a : Areas) (levels o f n : ℕ) (ns : List ℕ) (k : ℕ) (now : List ℕ) (x : Entered doc a levels o f n ns k now) (b : k < n) (after : List ℕ) where
  one_entry : entries doc (container (levels - 1) doc) o (n - k) (f + 4 * k) now
      ≡ (entry doc (container (levels - 1) doc) o (f + 4 * k) >>= λ _. entries doc (container (levels - 1) doc) o (n - (k + 1)) (f + 4 * (k + 1))) now
  one_entry =
      let e : n - k ≡ suc (n - (k + 1)) = omega arith in
      let p : f + 4 * k + 4 ≡ f + 4 * (k + 1) = omega arith in
      ap (λ m. entries doc (container (levels - 1) doc) o m (f + 4 * k) now) e ∙ rw p at (entries_suc doc (container (levels - 1) doc) o (n - (k + 1)) (f + 4 * k) now)

  pub entered_next : done tt after ≡ entry doc (container (levels - 1) doc) o (f + 4 * k) now → length after ≡ length now → Entered doc a levels o f n ns (k + 1) after
  entered_next h l =
      let i = x.inside in let j = x.long in
      record { same = sym (then _ _ now (sym h)) ∙ (sym one_entry ∙ x.same); inside = i; long = l ∙ j }

  refused_there : (r : Refusal) → halt r.number r.place after ≡ entry doc (container (levels - 1) doc) o (f + 4 * k) now → halt r.number r.place after ≡ entries doc (container (levels - 1) doc) o n f ns
  refused_there r h = sym (stops _ _ now (sym h)) ∙ (sym one_entry ∙ x.same)

module _ (doc : List ℕ) (a : Areas) (levels o : ℕ) (ms ns : List ℕ) (some : levels ≡ 0 → ⊥) where
  pub body_refused : (r : Refusal) → BodyIs doc o ms ns (Err r) → halt r.number r.place ns ≡ container levels doc o ms
  unfolding BodyIs
  body_refused r h = h (container (levels - 1) doc) ∙ container_is doc ms levels o some

  module _ (b : Entries) (h : BodyIs doc o ms ns (Ok b)) where
    whole : entries doc (container (levels - 1) doc) o b.count b.first ns ≡ container levels doc o ms
    unfolding BodyIs
    whole = h.1 (container (levels - 1) doc) ∙ container_is doc ms levels o some

    pub entered_first : Laid doc a → Entered doc a levels o b.first b.count ns 0 ns
    unfolding BodyIs
    entered_first x =
        let i = x.framed.index_is in
        let j = h.0 in
        let p : b.first + 4 * 0 ≡ b.first = omega arith in
        let q : b.count - 0 ≡ b.count = omega arith in
        record { same = rw (p, q); inside = omega arith; long = refl }

    module _ (k : ℕ) (now : List ℕ) (x : Entered doc a levels o b.first b.count ns k now) where
      pub entry_refused : k < b.count → (after : List ℕ) (r : Refusal) → halt r.number r.place after ≡ entry doc (container (levels - 1) doc) o (b.first + 4 * k) now
          → halt r.number r.place after ≡ container levels doc o ms
      entry_refused c after r q = refused_there doc a levels o b.first b.count ns k now x c after r q ∙ whole

      pub entered_done : b.count ≤ k → done tt now ≡ container levels doc o ms
      unfolding entries
      entered_done c = let z : b.count - k ≡ 0 = omega arith in (rw z at x.same) ∙ whole

pub still_room : (doc : List ℕ) (a : Areas) (levels o f n : ℕ) (ms ns : List ℕ) (k : ℕ) (now : List ℕ) → Entered doc a levels o f n ns k now → length ns ≡ length ms → words doc ≤ length ms
    → words doc ≤ length now
still_room doc a levels o f n ms ns k now x e h = let l = x.long in omega arith

pub entered_inside : (doc : List ℕ) (a : Areas) (levels o f n : ℕ) (ns : List ℕ) (k : ℕ) (now : List ℕ) → Entered doc a levels o f n ns k now → k < n → f + 4 * k + 4 ≤ a.index
entered_inside doc a levels o f n ns k now x b = let i = x.inside in omega arith

pub ruleset walk_laws = (pass_ends, child_past, child_ends, step_refused, no_level, body_refused, entered_first, entered_next, entry_refused, entered_done, still_room, entered_inside, rules)

-- ---- the root

module _ (doc : List ℕ) (a : Areas) (x : Laid doc a) (n : ℕ) (ms : List ℕ) (ns : n ≡ high doc 4) where
  pub size_refused : (n ≡ 1 → ⊥) → halt 8 4 ms ≡ scalar doc ms
  unfolding scalar
  size_refused h = sym (fail _ _ _ _ ms (unlike (λ e. h (ns ∙ e))))

  module _ (one : n ≡ 1) where
    pub scalar_refused : a.index < 12 → halt 8 4 ms ≡ scalar doc ms
    unfolding scalar
    scalar_refused h = sym (pass _ _ _ _ ms (eq→eqb (sym ns ∙ one)) ∙ fail _ _ _ _ ms (over (rw x.framed.index_is at h)))

    module _ (fits : 12 ≤ a.index) (after : List ℕ) where
      pub scalar_met : (r : Refusal) → halt r.number r.place after ≡ mark_body 4 2 ms → halt r.number r.place after ≡ scalar doc ms
      unfolding scalar
      scalar_met r m = sym (pass _ _ _ _ ms (eq→eqb (sym ns ∙ one)) ∙ (pass _ _ _ _ ms (le→leb _ _ (rw x.framed.index_is at fits)) ∙ stops _ _ ms (sym m)))

      module _ (m : done tt after ≡ mark_body 4 2 ms) where
        to_entry : (s : Result (Option ℕ) Refusal) → Stepped doc 4 8 s → on_step s (λ o. refuse 9 8) after ≡ scalar doc ms
        unfolding scalar Stepped
        to_entry s h =
            h.1 (λ o. refuse 9 8) after ∙ sym (pass _ _ _ _ ms (eq→eqb (sym ns ∙ one)) ∙ (pass _ _ _ _ ms (le→leb _ _ (rw x.framed.index_is at fits)) ∙ then _ _ ms (sym m)))

        pub scalar_ends : Stepped doc 4 8 (Ok None) → done tt after ≡ scalar doc ms
        scalar_ends h = to_entry (Ok None) h

        pub scalar_child : (o : ℕ) → Stepped doc 4 8 (Ok (Some o)) → halt 9 8 after ≡ scalar doc ms
        scalar_child o h = to_entry (Ok (Some o)) h

        pub scalar_step : (r : Refusal) → Stepped doc 4 8 (Err r) → halt r.number r.place after ≡ scalar doc ms
        scalar_step r h = to_entry (Err r) h

pub scalar_room : (doc : List ℕ) (a : Areas) (ms : List ℕ) → Laid doc a → words doc ≤ length ms → 12 ≤ a.index → (4 - 4) / 4 + 2 ≤ length ms
unfolding words
scalar_room doc a ms x m i = let e = x.framed.index_is in omega arith

module _ (doc : List ℕ) (kind : ℕ) (ks : kind ≡ low doc 4) (ms : List ℕ) (w : Outcome (List ℕ) (Unit {0})) where
  pub root_scalar : kind ≡ 2 → w ≡ scalar doc ms → w ≡ root_by doc (kind_of (low doc 4)) ms
  unfolding root_by kind_of
  root_scalar e h = h ∙ rw (sym ks, e)

  walked : (k : ℕ) → (k ≡ 2 → ⊥) → container deepest doc 4 ms ≡ root_by doc (kind_of k) ms
  unfolding root_by
  walked = by_kind (λ k t. (k ≡ 2 → ⊥) → container deepest doc 4 ms ≡ root_by doc t ms) (λ h. refl) (λ h. refl) (λ h. absurd (h refl)) (λ k h. refl)

  pub root_walked : (kind ≡ 2 → ⊥) → w ≡ container deepest doc 4 ms → w ≡ root_by doc (kind_of (low doc 4)) ms
  root_walked e h = h ∙ (walked kind e ∙ ap (λ k. root_by doc (kind_of k) ms) ks)

pub ruleset root_laws = (size_refused, scalar_refused, scalar_met, scalar_ends, scalar_child, scalar_step, scalar_room, root_scalar, root_walked, rules)
