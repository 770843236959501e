-- What comparing two texts gives, from a place that was reached in so many steps: one law for each way through the code.
use mathlib.Core.Path.{◌≡◌, refl, sym, ap, ◌∙◌}
use mathlib.Core.Bool.{Bool, true, false}
use mathlib.Core.List.{List, [], ◌∷◌}
use Prim.Native.Nat.{◌*◌, ℕ, zero, suc, ◌+◌, ◌-◌, ◌/◌, ◌%◌, ◌≤◌, ◌<◌, min}
use native.Mathlib.Omega.{arith}
use borrow.Author.Rules.{rules}
use borrow.Author.Tests.{eqb-true, eqb-false}
use mir.Syntax.{w8}
use mir.Val.{Fits}
use lib.Dec.{eqb, ltb}
use lib.ListN.{length, take, drop, get_or, length-drop, drop_of_length-le}
use lib.Seq.{drop-cons, drop-drop}
use Rattle.json_model.specs.Bytes.{number, part}
use Rattle.json_model.specs.Choose.{choose}
use Rattle.json_model.specs.Texts.{by_numbers, compare_numbers, compare_texts, is_equal}
use Rattle.json_model.proofs.Texts.{by_numbers_lem, texts_equal, numbers_below, numbers_equal, numbers_above}
use Rattle.std.specs.declared.cmp.Ordering.{Ordering}
use Rattle.std.specs.declared.cmp.Ordering.TheVariants.{Less, Equal, Greater}
use Rattle.word.proofs.Laws.{number_below, number_part}
use Rattle.text.specs.Comparing.{ComparesFrom, Passed}
use mir.Syntax.{w64}
use Rattle.std.specs.Int.{swap_bytes}
use Rattle.std.specs.Ordering.{is_eq, nat_cmp, MatchOrdering}
use Rattle.std.specs.Cmp.{ranks}
use Rattle.text.specs.Steps.{alike, step, compare_steps}
use Rattle.text.specs.Swapped.{swapped}
use Rattle.text.proofs.Steps.{steps_eight, steps_one, steps_none}
use Rattle.text.proofs.Swapped.{swapped_one, swapped_order, swapped_bytes}

-- ---- the order of two texts is that of their first n bytes, and where those are the same that of the rest

abbrev then_by : Ordering → Ordering → Ordering
then_by Less r = Less
then_by Equal r = r
then_by Greater r = Greater

first_decides : (x y : ℕ) (o p r : Ordering) → o ≡ then_by p r → by_numbers x y o ≡ then_by (by_numbers x y p) r
unfolding by_numbers choose
first_decides x y o p r e = go (ltb x y) (ltb y x)
  where
    go : (l g : Bool) → choose l Less (choose g Greater o) ≡ then_by (choose l Less (choose g Greater p)) r
    go true g = refl
    go false true = refl
    go false false = e

by_parts : (n : ℕ) (a b : List ℕ) → n ≤ length a → n ≤ length b → compare_texts a b ≡ then_by (compare_texts (take n a) (take n b)) (compare_texts (drop n a) (drop n b))
unfolding compare_texts
by_parts zero a b ha hb = refl
by_parts (suc n) [] b ha hb = absurd (omega arith)
by_parts (suc n) (x ∷ xs) [] ha hb = absurd (omega arith)
by_parts (suc n) (x ∷ xs) (y ∷ ys) ha hb = first_decides x y (compare_texts xs ys) (compare_texts (take n xs) (take n ys)) (compare_texts (drop n xs) (drop n ys)) (by_parts n xs ys (omega arith) (omega arith))

-- ---- one step over n bytes

module _ (a b : List ℕ) (i s : ℕ) (here : ComparesFrom a b i s) (n : ℕ) (next : compare_steps (drop i a) (drop i b) ≡ step n compare_steps (drop i a) (drop i b))
    (ha : i + n ≤ length a) (hb : i + n ≤ length b) where
  parts : compare_texts a b ≡ then_by (compare_texts (part a i n) (part b i n)) (compare_texts (drop (i + n) a) (drop (i + n) b))
  unfolding ComparesFrom
  parts =
      let la = length-drop i a in
      let lb = length-drop i b in
      rw (drop-drop n i a, drop-drop n i b) at (sym here.0 ∙ by_parts n (drop i a) (drop i b) (omega arith) (omega arith))

  counted : s + suc (choose (is_equal (compare_texts (part a i n) (part b i n))) (compare_steps (drop (i + n) a) (drop (i + n) b)) 0) ≡ compare_steps a b
  unfolding ComparesFrom step alike
  counted = rw (drop-drop n i a, drop-drop n i b) at (ap (λ (k : ℕ). s + k) (sym next) ∙ here.1)

  step_below : compare_texts (part a i n) (part b i n) ≡ Less → (Less ≡ compare_texts a b) × (s + 1 ≡ compare_steps a b)
  unfolding choose
  step_below e = (sym (rw e at parts), rw e at counted)

  step_above : compare_texts (part a i n) (part b i n) ≡ Greater → (Greater ≡ compare_texts a b) × (s + 1 ≡ compare_steps a b)
  unfolding choose
  step_above e = (sym (rw e at parts), rw e at counted)

  step_equal : compare_texts (part a i n) (part b i n) ≡ Equal → ComparesFrom a b (i + n) (s + 1)
  unfolding ComparesFrom choose
  step_equal e = (sym (rw e at parts), (let c = rw e at counted in omega arith))

-- ---- eight bytes

pub eight_read : (a b : List ℕ) (i x y : ℕ) → x ≡ number (take (length a - i) (drop i a)) 0 8 → y ≡ number (take (length b - i) (drop i b)) 0 8
    → eqb x y ≡ eqb (number a i 8) (number b i 8)
eight_read a b i x y ex ey = rw (ex, ey, number_part a i 8, number_part b i 8)

pub passed_first : (a b : List ℕ) → ComparesFrom a b 0 (0 / 8)
unfolding ComparesFrom
passed_first a b = (refl, omega arith)

module _ (a b : List ℕ) (i : ℕ) (ga : (k : ℕ) → Fits w8 (get_or a k 0)) (gb : (k : ℕ) → Fits w8 (get_or b k 0)) (ha : i + 8 ≤ length a) (hb : i + 8 ≤ length b) where
  by_swapped : compare_texts (part a i 8) (part b i 8) ≡ compare_numbers (swapped 8 (number a i 8)) (swapped 8 (number b i 8))
  by_swapped = swapped_order a b (λ k. (ga k).fits) (λ k. (gb k).fits) 8 i ha hb

  next_eight : compare_steps (drop i a) (drop i b) ≡ step 8 compare_steps (drop i a) (drop i b)
  next_eight =
      let la = length-drop i a in
      let lb = length-drop i b in
      steps_eight (drop i a) (drop i b) (omega arith)

  eight_passed : number a i 8 ≡ number b i 8 → ComparesFrom a b i (i / 8) → ComparesFrom a b (i + 8) ((i + 8) / 8)
  eight_passed e here =
      let q : (i + 8) / 8 ≡ i / 8 + 1 = omega arith in
      let same : compare_texts (part a i 8) (part b i 8) ≡ Equal = by_swapped ∙ (numbers_equal (swapped 8 (number a i 8)) (swapped 8 (number b i 8))).1 (ap (swapped 8) e) in
      rw q (step_equal a b i (i / 8) here 8 next_eight ha hb same)

  module _ (passed : Passed a b i) where
    here : ComparesFrom a b i (i / 8)
    unfolding Passed
    here = passed.1

    unlike : swapped 8 (number a i 8) ≡ swapped 8 (number b i 8) → ⊥
    unfolding Passed
    unlike e =
        passed.0 (omega arith)
        (swapped_one 8 (number a i 8) (number b i 8) (number_below 8 a i 8 (omega arith) (λ k. (ga k).fits)) (number_below 8 b i 8 (omega arith) (λ k. (gb k).fits)) e)

    is_below : swapped 8 (number a i 8) < swapped 8 (number b i 8) → (Less ≡ compare_texts a b) × (i / 8 + 1 ≡ compare_steps a b)
    is_below l = step_below a b i (i / 8) here 8 next_eight ha hb (by_swapped ∙ (numbers_below (swapped 8 (number a i 8)) (swapped 8 (number b i 8))).1 l)

    is_above : swapped 8 (number b i 8) < swapped 8 (number a i 8) → (Greater ≡ compare_texts a b) × (i / 8 + 1 ≡ compare_steps a b)
    is_above g = step_above a b i (i / 8) here 8 next_eight ha hb (by_swapped ∙ (numbers_above (swapped 8 (number a i 8)) (swapped 8 (number b i 8))).1 g)

    module _ (x y : ℕ) (ex : x ≡ swapped 8 (number a i 8)) (ey : y ≡ swapped 8 (number b i 8)) where
      pub differ_below : x < y → Less ≡ compare_texts a b
      differ_below l = (is_below (rw (ex, ey) at l)).0

      pub differ_above : y ≤ x → Greater ≡ compare_texts a b
      differ_above g = (is_above (let h = rw (ex, ey) at g in omega (arith, unlike))).0

    differ_counts : i / 8 + 1 ≡ compare_steps a b
    differ_counts =
        by_numbers_lem (λ _. i / 8 + 1 ≡ compare_steps a b) (swapped 8 (number a i 8)) (swapped 8 (number b i 8)) Equal (λ l. (is_below l).1) (λ e. absurd (unlike e)) (λ g. (is_above g).1)

module _ (a b : List ℕ) (i n : ℕ) (en : n ≡ min (length a) (length b)) (ga : (k : ℕ) → Fits w8 (get_or a k 0)) (gb : (k : ℕ) → Fits w8 (get_or b k 0)) where
  pub differ_counted : i ≤ min (length a) (length b) → 8 ≤ n - i → Passed a b i → i / 8 + 1 ≡ compare_steps a b
  differ_counted l h p = differ_counts a b i ga gb (omega arith) (omega arith) p

  module _ (k : ℕ) (ei : i ≡ 8 * k) (r : Bool) (e : r ≡ eqb (number a i 8) (number b i 8)) (l : k < n / 8) (h : ComparesFrom a b i (i / 8)) where
    pub passes_on : r ≡ true → ComparesFrom a b (8 * (k + 1)) (8 * (k + 1) / 8)
    passes_on t =
        let q : i + 8 ≡ 8 * (k + 1) = omega arith in
        rw q at (eight_passed a b i ga gb (omega arith) (omega arith) (eqb-true (number a i 8) (number b i 8) (sym e ∙ t)) h)

    pub passed_differing : r ≡ false → Passed a b i
    unfolding Passed
    passed_differing f = (λ _. eqb-false (number a i 8) (number b i 8) (sym e ∙ f), h)

pub passed_all : (a b : List ℕ) (n : ℕ) → n ≡ min (length a) (length b) → ComparesFrom a b (8 * (n / 8)) (8 * (n / 8) / 8) → Passed a b (n - n % 8)
unfolding Passed
passed_all a b n en h = let q : 8 * (n / 8) ≡ n - n % 8 = omega arith in ((λ k. absurd (omega arith)), rw q at h)

pub passed_rest : (a b : List ℕ) (i : ℕ) → Passed a b i → ComparesFrom a b i (i / 8)
unfolding Passed
passed_rest a b i p = p.1

-- eight bytes, and their number with its bytes swapped
pub eight_swapped : (t : List ℕ) (i : ℕ) → swap_bytes w64 (number (take (length t - i) (drop i t)) 0 8) ≡ swapped 8 (number t i 8)
eight_swapped t i = swapped_bytes (number (take (length t - i) (drop i t)) 0 8) ∙ ap (swapped 8) (number_part t i 8)

pub ruleset swapped_laws = (eight_swapped, rules)

pub ruleset eights_laws = (eight_read, passed_first, passes_on, passed_differing, passed_all, passed_rest, differ_below, differ_above, differ_counted, rules)

-- ---- one byte

module _ (a b : List ℕ) (i s : ℕ) (here : ComparesFrom a b i s) where
  module _ (n : ℕ) (en : n ≡ min (length a) (length b)) where
    module _ (few : n < i + 8) (before : i < n) where
      next_one : compare_steps (drop i a) (drop i b) ≡ step 1 compare_steps (drop i a) (drop i b)
      next_one =
          let la = length-drop i a in
          let lb = length-drop i b in
          steps_one (drop i a) (drop i b) (omega arith) (omega arith)

      one_byte : compare_texts (part a i 1) (part b i 1) ≡ compare_numbers (get_or a i 0) (get_or b i 0)
      unfolding compare_texts
      one_byte = rw (drop-cons a i 0 (omega arith), drop-cons b i 0 (omega arith))

      below : get_or a i 0 < get_or b i 0 → (Less ≡ compare_texts a b) × (s + 1 ≡ compare_steps a b)
      below l = step_below a b i s here 1 next_one (omega arith) (omega arith) (one_byte ∙ (numbers_below (get_or a i 0) (get_or b i 0)).1 l)

      above : get_or b i 0 < get_or a i 0 → (Greater ≡ compare_texts a b) × (s + 1 ≡ compare_steps a b)
      above g = step_above a b i s here 1 next_one (omega arith) (omega arith) (one_byte ∙ (numbers_above (get_or a i 0) (get_or b i 0)).1 g)

      module _ (unlike : get_or a i 0 ≡ get_or b i 0 → ⊥) where
        pub byte_order : nat_cmp (get_or a i 0) (get_or b i 0) ≡ compare_texts a b
        byte_order = go _ (ranks (get_or a i 0) (get_or b i 0))
          where
            go : (o : Ordering) → MatchOrdering o (get_or a i 0 < get_or b i 0) (get_or a i 0 ≡ get_or b i 0) (get_or b i 0 < get_or a i 0) → o ≡ compare_texts a b
            go Less l = (below l).0
            go Equal e = absurd (unlike e)
            go Greater g = (above g).0

        pub byte_counted : s + 1 ≡ compare_steps a b
        byte_counted = by_numbers_lem (λ _. s + 1 ≡ compare_steps a b) (get_or a i 0) (get_or b i 0) Equal (λ l. (below l).1) (λ e. absurd (unlike e)) (λ g. (above g).1)

      pub byte_equal : get_or a i 0 ≡ get_or b i 0 → ComparesFrom a b (i + 1) (s + 1)
      byte_equal e = step_equal a b i s here 1 next_one (omega arith) (omega arith) (one_byte ∙ (numbers_equal (get_or a i 0) (get_or b i 0)).1 e)

    module _ (end : n ≤ i) (inside : i ≤ n) where
      pub end_counted : s ≡ compare_steps a b
      unfolding ComparesFrom
      end_counted =
          let la = length-drop i a in
          let lb = length-drop i b in
          let z = steps_none (drop i a) (drop i b) (omega arith) in
          let h = here.1 in
          omega arith

      first_ends : length a < length b → Less ≡ compare_texts a b
      unfolding compare_texts ComparesFrom
      first_ends l = rw (drop_of_length-le a {i = i} (omega arith), drop-cons b i 0 (omega arith)) at here.0

      second_ends : length b < length a → Greater ≡ compare_texts a b
      unfolding compare_texts ComparesFrom
      second_ends g = rw (drop-cons a i 0 (omega arith), drop_of_length-le b {i = i} (omega arith)) at here.0

      both_end : length b ≤ length a → length a ≤ length b → Equal ≡ compare_texts a b
      unfolding compare_texts ComparesFrom
      both_end g l = rw (drop_of_length-le a {i = i} (omega arith), drop_of_length-le b {i = i} (omega arith)) at here.0

      pub ends_order : nat_cmp (length a) (length b) ≡ compare_texts a b
      ends_order = go _ (ranks (length a) (length b))
        where
          go : (o : Ordering) → MatchOrdering o (length a < length b) (length a ≡ length b) (length b < length a) → o ≡ compare_texts a b
          go Less l = first_ends l
          go Equal e = both_end (omega arith) (omega arith)
          go Greater g = second_ends g

pub ruleset bytes_laws = (byte_order, byte_counted, byte_equal, ends_order, end_counted, rules)

-- ---- are two texts the same?

module _ (a b : List ℕ) where
  pub unlike_lengths : (length a ≡ length b → ⊥) → false ≡ is_equal (compare_texts a b)
  unlike_lengths h = by (compare_texts a b) (λ e. h (ap length ((texts_equal a b).0 e)))
    where
      by : (o : Ordering) → (o ≡ Equal → ⊥) → false ≡ is_equal o
      by Less n = refl
      by Equal n = absurd (n refl)
      by Greater n = refl

  pub same_order : (o : Ordering) → o ≡ compare_texts a b → is_eq o ≡ is_equal (compare_texts a b)
  same_order o e = by o ∙ ap is_equal e
    where
      by : (o : Ordering) → is_eq o ≡ is_equal o
      by Less = refl
      by Equal = refl
      by Greater = refl

pub ruleset same_laws = (unlike_lengths, same_order, rules)
