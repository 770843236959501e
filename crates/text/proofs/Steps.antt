-- The steps of a comparing, as docs/format/BINARY_JSON.md, section 12, says them: one theorem for each kind of step,
-- and one for the end. That the definition counts down from a length is no part of them. Then how many there are at
-- most, and that it is the same whichever text comes first.
use mathlib.Core.Path.{◌≡◌, refl, sym, ap, ◌∙◌}
use mathlib.Core.Bool.{Bool, true, false}
use mathlib.Core.List.{List}
use mathlib.Core.Logic.{◌↔◌}
use Prim.Native.Nat.{ℕ, zero, suc, ◌+◌, ◌/◌, ◌%◌, ◌≤◌, ◌<◌, min}
use native.Mathlib.Omega.{arith}
use borrow.Author.Tests.{le-leb, lt-leb, leb-true, leb-false}
use lib.Dec.{leb}
use lib.ListN.{length, take, drop, length-drop}
use Rattle.json_model.specs.Choose.{choose}
use Rattle.json_model.specs.Texts.{compare_texts, is_equal}
use Rattle.std.specs.declared.cmp.Ordering.{Ordering}
use Rattle.std.specs.declared.cmp.Ordering.TheVariants.{Less, Equal, Greater}
use Rattle.json_model.proofs.Texts.{below≢equal, equal≢above, texts_above}
use Rattle.text.specs.Steps.{left, alike, step, steps_within, compare_steps}

module _ (n : ℕ) (a b : List ℕ) where
  is_left : n ≤ min (length a) (length b) → left n a b ≡ true
  unfolding left
  is_left h = le-leb n (min (length a) (length b)) h

  not_left : min (length a) (length b) < n → left n a b ≡ false
  unfolding left
  not_left h = lt-leb n (min (length a) (length b)) h

-- ---- with room for as many steps as there are bytes, more room changes nothing

abbrev Same : ℕ → ℕ → Type 0
Same k m = (a b : List ℕ) → length a ≤ k → length a ≤ m → steps_within k a b ≡ steps_within m a b

chosen : (t : Bool) (x y z : ℕ) → (t ≡ true → x ≡ y) → choose t x z ≡ choose t y z
unfolding choose
chosen true x y z h = h refl
chosen false x y z h = refl

same_step : (k m n : ℕ) → Same k m → (a b : List ℕ) → 1 ≤ n → length a ≤ suc k → length a ≤ suc m → step n (steps_within k) a b ≡ step n (steps_within m) a b
unfolding step
same_step k m n h a b one hk hm =
    let l = length-drop n a in
    ap suc (chosen (alike n a b) (steps_within k (drop n a) (drop n b)) (steps_within m (drop n a) (drop n b)) 0 (λ _. h (drop n a) (drop n b) (omega arith) (omega arith)))

none_within : (m : ℕ) (a b : List ℕ) → min (length a) (length b) < 1 → steps_within m a b ≡ 0
unfolding steps_within choose
none_within zero a b h = refl
none_within (suc m) a b h = rw (not_left 8 a b (omega arith), not_left 1 a b h)

room : (k m : ℕ) → Same k m
unfolding steps_within
room zero m a b hk hm = sym (none_within m a b (omega arith))
room (suc k) zero a b hk hm = none_within (suc k) a b (omega arith)
room (suc k) (suc m) a b hk hm = rw (same_step k m 8 (room k m) a b (omega arith) hk hm, same_step k m 1 (room k m) a b (omega arith) hk hm)

step_on : (k n : ℕ) (a b : List ℕ) → 1 ≤ n → length a ≤ suc k → step n (steps_within k) a b ≡ step n compare_steps a b
unfolding step compare_steps
step_on k n a b one h =
    let l = length-drop n a in
    ap suc (chosen (alike n a b) (steps_within k (drop n a) (drop n b)) (compare_steps (drop n a) (drop n b)) 0
    (λ _. room k (length (drop n a)) (drop n a) (drop n b) (omega arith) (omega arith)))

-- ---- what the next step is

module _ (a b : List ℕ) where
  one_more_room : compare_steps a b ≡ steps_within (suc (length a)) a b
  unfolding compare_steps
  one_more_room = room (length a) (suc (length a)) a b (omega arith) (omega arith)

  -- eight bytes at a step where eight are left in both
  pub steps_eight : 8 ≤ min (length a) (length b) → compare_steps a b ≡ step 8 compare_steps a b
  unfolding steps_within choose
  steps_eight h = rw (is_left 8 a b h) at one_more_room ∙ step_on (length a) 8 a b (omega arith) (omega arith)

  -- else one while both have one
  pub steps_one : min (length a) (length b) < 8 → 1 ≤ min (length a) (length b) → compare_steps a b ≡ step 1 compare_steps a b
  unfolding steps_within choose
  steps_one h i = rw (not_left 8 a b h, is_left 1 a b i) at one_more_room ∙ step_on (length a) 1 a b (omega arith) (omega arith)

  -- and none else
  pub steps_none : min (length a) (length b) < 1 → compare_steps a b ≡ 0
  unfolding compare_steps
  steps_none h = none_within (length a) a b h

-- ---- how many there are

-- a comparing by what its next step is
pub by_next : (P : ℕ → Type 0) (a b : List ℕ) → (8 ≤ min (length a) (length b) → P (step 8 compare_steps a b))
    → (min (length a) (length b) < 8 → 1 ≤ min (length a) (length b) → P (step 1 compare_steps a b)) → (min (length a) (length b) < 1 → P 0) → P (compare_steps a b)
by_next P a b eight one none = go (leb 8 m) (leb 1 m) refl refl
  where
    m : ℕ
    m = min (length a) (length b)

    go : (s t : Bool) → leb 8 m ≡ s → leb 1 m ≡ t → P (compare_steps a b)
    go true t e f = rw (steps_eight a b (leb-true 8 m e)) (eight (leb-true 8 m e))
    go false true e f = rw (steps_one a b (leb-false 8 m e) (leb-true 1 m f)) (one (leb-false 8 m e) (leb-true 1 m f))
    go false false e f = rw (steps_none a b (leb-false 1 m f)) (none (leb-false 1 m f))

-- a step and the rest at most
step_most : (n : ℕ) (a b : List ℕ) → step n compare_steps a b ≤ suc (compare_steps (drop n a) (drop n b))
unfolding step choose
step_most n a b = go (alike n a b)
  where
    go : (t : Bool) → suc (choose t (compare_steps (drop n a) (drop n b)) 0) ≤ suc (compare_steps (drop n a) (drop n b))
    go true = omega arith
    go false = omega arith

most_within : (k : ℕ) (a b : List ℕ) → length a ≤ k → compare_steps a b ≤ min (length a) (length b) / 8 + min (length a) (length b) % 8
most_within zero a b h = rw (steps_none a b (omega arith)) (omega arith)
most_within (suc k) a b h =
    by_next (λ s. s ≤ min (length a) (length b) / 8 + min (length a) (length b) % 8) a b
    (λ e. let r = most_within k (drop 8 a) (drop 8 b) (rw (length-drop 8 a) (omega arith)) in
    let la = length-drop 8 a in
    let lb = length-drop 8 b in
    let s = step_most 8 a b in
    omega arith)
    (λ f e. let r = most_within k (drop 1 a) (drop 1 b) (rw (length-drop 1 a) (omega arith)) in
    let la = length-drop 1 a in
    let lb = length-drop 1 b in
    let s = step_most 1 a b in
    omega arith)
    (λ e. omega arith)

-- one for each eight bytes of the shorter text and one for each byte left over, at most
pub steps_at_most : (a b : List ℕ) → compare_steps a b ≤ min (length a) (length b) / 8 + min (length a) (length b) % 8
steps_at_most a b = most_within (length a) a b (omega arith)

alike_turned : (n : ℕ) (a b : List ℕ) → alike n a b ≡ alike n b a
unfolding alike
alike_turned n a b = go (compare_texts (take n a) (take n b)) (compare_texts (take n b) (take n a)) (texts_above (take n a) (take n b)) (texts_above (take n b) (take n a))
  where
    go : (o p : Ordering) → (o ≡ Greater) ↔ (p ≡ Less) → (p ≡ Greater) ↔ (o ≡ Less) → is_equal o ≡ is_equal p
    go Less Less h g = refl
    go Less Equal h g = absurd (equal≢above (g.1 refl))
    go Less Greater h g = refl
    go Equal Less h g = absurd (equal≢above (h.1 refl))
    go Equal Equal h g = refl
    go Equal Greater h g = absurd (below≢equal (sym (g.0 refl)))
    go Greater Less h g = refl
    go Greater Equal h g = absurd (below≢equal (sym (h.0 refl)))
    go Greater Greater h g = refl

step_turned : (n : ℕ) (a b : List ℕ) → compare_steps (drop n a) (drop n b) ≡ compare_steps (drop n b) (drop n a) → step n compare_steps a b ≡ step n compare_steps b a
unfolding step
step_turned n a b e = rw (e, alike_turned n a b)

turned_within : (k : ℕ) (a b : List ℕ) → length a ≤ k → compare_steps a b ≡ compare_steps b a
turned_within zero a b h = rw (steps_none a b (omega arith), steps_none b a (omega arith))
turned_within (suc k) a b h =
    by_next (λ s. s ≡ compare_steps b a) a b
    (λ e. let l = length-drop 8 a in
    step_turned 8 a b (turned_within k (drop 8 a) (drop 8 b) (omega arith)) ∙ sym (steps_eight b a (omega arith)))
    (λ f e. let l = length-drop 1 a in
    step_turned 1 a b (turned_within k (drop 1 a) (drop 1 b) (omega arith)) ∙ sym (steps_one b a (omega arith) (omega arith)))
    (λ e. sym (steps_none b a (omega arith)))

-- as many whichever text comes first
pub steps_turned : (a b : List ℕ) → compare_steps a b ≡ compare_steps b a
steps_turned a b = turned_within (length a) a b (omega arith)
