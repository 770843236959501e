-- A text among the names: one law for each way through `find_name`, and that its answer names the text in every list that is accepted.
use mathlib.Core.Path.{◌≡◌, refl, sym, ap, ◌∙◌}
use mathlib.Core.Bool.{Bool, true, false}
use mathlib.Core.List.{List}
use mathlib.Core.Logic.{◌≢◌}
use Prim.Native.Nat.{ℕ, zero, suc, ◌+◌, ◌-◌, ◌≤◌, ◌<◌}
use native.Mathlib.Omega.{arith}
use Rattle.std.specs.Prelude.{Option, Some, None}
use borrow.Author.Rules.{rules}
use borrow.Author.Tests.{eq-eqb, ne_eqb}
use lib.Dec.{T}
use Rattle.json_model.specs.Bytes.{number, part}
use Rattle.json_model.specs.Choose.{choose}
use Rattle.json_model.specs.Reading.{ask, answers}
use Rattle.json_model.specs.Texts.{compare_texts, is_equal}
use Rattle.json_model.proofs.Texts.{texts_same}
use Rattle.fractured_json_rules.specs.Meaning.{Distinct, key_text}
use Rattle.fractured_json_rules.specs.KeyList.{name_at, next_name, count_in, key_list, steps, name_of}
use Rattle.fractured_json_theorems.proofs.KeyList.{list_exactly, name_is}
use Rattle.fractured_json_list.specs.Finding.{named_from, is_named, Named}

-- ---- the pass: what the names say from name j on is z

pub names_begin : (list x : List ℕ) (n : ℕ) → n ≡ count_in list → named_from list x (n - 0) 3 0 ≡ named_from list x (count_in list) 3 0
names_begin list x n e = let z : n - 0 ≡ count_in list = omega arith in rw z

module _ (list x : List ℕ) (n at j : ℕ) (z : Option ℕ) (here : named_from list x (n - j) at j ≡ z) where
  module _ (h : j < n) (len : ℕ) (e : len ≡ number list at 2) (t : List ℕ) (ts : t ≡ part list (at + 2) len) (b : Bool) (bs : b ≡ is_equal (compare_texts t x)) where
    from_here : choose b (Some j) (named_from list x (n - (j + 1)) (at + 2 + len) (j + 1)) ≡ z
    unfolding named_from
    from_here = let l : n - j ≡ suc (n - (j + 1)) = omega arith in rw (bs, ts, e) (rw l at here)

    pub name_found : b ≡ true → Some j ≡ z
    unfolding choose
    name_found q = rw q at from_here

    pub name_other : b ≡ false → named_from list x (n - (j + 1)) (at + 2 + len) (j + 1) ≡ z
    unfolding choose
    name_other q = rw q at from_here

  pub no_name : n ≤ j → None ≡ z
  unfolding named_from
  no_name h = let l : n - j ≡ 0 = omega arith in rw l at here

pub ruleset find_laws = (names_begin, name_found, name_other, no_name, rules)

-- ---- the answer names the text

-- a name from j on is named, or none
AtLeast : ℕ → Option ℕ → Type 0
AtLeast j (Some k) = j ≤ k
AtLeast j None = Unit {0}

at_least : (b : Bool) (j : ℕ) (r : Option ℕ) → AtLeast (j + 1) r → AtLeast j (choose b (Some j) r)
unfolding choose AtLeast
at_least true j r h = omega arith
at_least false j (Some k) h = omega arith
at_least false j None h = tt

not_named : (j : ℕ) (r : Option ℕ) → AtLeast (j + 1) r → is_named j r ≡ false
unfolding AtLeast
not_named j (Some k) h = ne_eqb j k (λ q. omega arith)
not_named j None h = refl

-- f says of each number whether its name has the text, r is the answer for the names after the first, and b what f says of the first
one_named : (f : ℕ → Bool) (n j : ℕ) (r : Option ℕ) → AtLeast (j + 1) r → (f 0 ≡ true → (i : ℕ) → i < n → f (suc i) ≡ false) → ((i : ℕ) → i < n → f (suc i) ≡ is_named (j + 1 + i) r)
    → (b : Bool) → f 0 ≡ b → (i : ℕ) → i < suc n → f i ≡ is_named (j + i) (choose b (Some j) r)
unfolding choose
one_named f n j r l only later true e zero h = e ∙ sym (eq-eqb (j + zero) j (omega arith))
one_named f n j r l only later true e (suc i) h = only e i (omega arith) ∙ sym (ne_eqb (j + suc i) j (λ q. omega arith))
one_named f n j r l only later false e zero h = let s : j + zero ≡ j = omega arith in e ∙ rw s (sym (not_named j r l))
one_named f n j r l only later false e (suc i) h = let s : j + 1 + i ≡ j + suc i = omega arith in later i (omega arith) ∙ ap (λ k. is_named k r) s

refuted : (b : Bool) → (T b → ⊥) → b ≡ false
refuted true n = absurd (n tt)
refuted false n = refl

module _ (list x : List ℕ) where
  -- the text of the name that is i steps from o
  abbrev step_text : ℕ → ℕ → List ℕ
  step_text o i = key_text list (name_at list (steps (next_name list) i o))

  not_before : (n o j : ℕ) → AtLeast j (named_from list x n o j)
  unfolding named_from AtLeast
  not_before zero o j = tt
  not_before (suc n) o j = at_least _ j _ (not_before n (next_name list o) (j + 1))

  -- of two texts that are unlike, one is x at most
  other_text : (s t : List ℕ) → s ≢ t → is_equal (compare_texts s x) ≡ true → is_equal (compare_texts t x) ≡ false
  other_text s t n e = refuted _ (λ h. n ((texts_same s x).0 (rw e tt) ∙ sym ((texts_same t x).0 h)))

  found_from : (n o j : ℕ) → ((i k : ℕ) → i < k → k < n → step_text o i ≢ step_text o k) → (i : ℕ) → i < n → is_equal (compare_texts (step_text o i) x) ≡ is_named (j + i) (named_from list x n o j)
  unfolding named_from steps
  found_from zero o j d i h = absurd (omega arith)
  found_from (suc n) o j d i h =
      one_named (λ k. is_equal (compare_texts (step_text o k) x)) n j _ (not_before n (next_name list o) (j + 1))
      (λ e k l. other_text (step_text o zero) (step_text o (suc k)) (d zero (suc k) (omega arith) (omega arith)) e)
      (found_from n (next_name list o) (j + 1) (λ a b l m. d (suc a) (suc b) (omega arith) (omega arith))) _ refl i h

  -- the names of a list that is accepted are distinct
  names_apart : ask (key_list list) ≡ answers tt → (i k : ℕ) → i < k → k < count_in list → step_text 3 i ≢ step_text 3 k
  unfolding Distinct name_of
  names_apart good i k l h =
      let (names, m) = (list_exactly list).0 good in
      let c = m.count in
      rw ((name_is list names m i (omega arith)).0, (name_is list names m k (omega arith)).0) (m.distinct i k l (omega arith))

  pub answer_names : (r : Option ℕ) → ask (key_list list) ≡ answers tt → r ≡ named_from list x (count_in list) 3 0 → Named list x r
  unfolding name_of
  answer_names r good e = record { each = λ j h. let z : 0 + j ≡ j = omega arith in rw e (rw z at (found_from (count_in list) 3 0 (names_apart good) j h)) }
