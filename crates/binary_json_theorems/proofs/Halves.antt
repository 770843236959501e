-- Halving over sorted items finds the equal one, or the position before which it would stand; and it takes at most as many
-- turns as the number of items has binary digits.
use mathlib.Core.Path.{◌≡◌, refl, sym, ◌∙◌}
use mathlib.Core.Logic.{◌⊎◌, inl, inr}
use mathlib.Core.Bool.{Bool, true, false, not}
use Prim.Native.Nat.{ℕ, zero, suc, ◌+◌, ◌-◌, ◌*◌, ◌/◌, ◌^◌, ◌≤◌, ◌<◌}
use native.Mathlib.Nat.{pow-succ'}
use native.Mathlib.Omega.{arith}
use native.Mathlib.Decide.{ℕ_discrete}
use lib.Dec.{T, ltb, ltb→lt, nltb→le}
use Rattle.std.specs.declared.cmp.Ordering.{Ordering}
use Rattle.std.specs.declared.cmp.Ordering.TheVariants.{Less, Equal, Greater}
use Rattle.json_model.proofs.Texts.{below≢above}
use Rattle.binary_json_rules.specs.Halving.{Item, compares, unreadable, Halved, found, missed, broken, middle, turn, halve_if, halve_from, halve, digits_in, digits, turns_of}

pub compares_inj : {o p : Ordering} → compares o ≡ compares p → o ≡ p
compares_inj e = cc

-- each of m items can be read, and of any two the first is below or the second above what is sought
pub record Sorted (item : ℕ → Item) (m : ℕ) : Type 0 where
  pub readable : (i : ℕ) → i < m → (o : Ordering) × (item i ≡ compares o)
  pub rising : (i j : ℕ) → i < j → j < m → (item i ≡ compares Less) ⊎ (item j ≡ compares Greater)

-- what a halving's end says of the items
abbrev pub Ended : (ℕ → Item) → ℕ → Halved → Type 0
Ended item m (found k turns) = (k < m) × (item k ≡ compares Equal)
Ended item m (missed l turns) = (l ≤ m) × ((i : ℕ) → i < l → item i ≡ compares Less) × ((i : ℕ) → l ≤ i → i < m → item i ≡ compares Greater)
Ended item m broken = ⊥

module _ (item : ℕ → Item) (m : ℕ) (sorted : Sorted item m) where
  abbrev Lower : ℕ → Type 0
  Lower low = (i : ℕ) → i < low → item i ≡ compares Less

  abbrev Upper : ℕ → Type 0
  Upper high = (i : ℕ) → high ≤ i → i < m → item i ≡ compares Greater

  lower_to : (mid : ℕ) → mid < m → item mid ≡ compares Less → Lower (mid + 1)
  lower_to mid h e i b = go (ℕ_discrete i mid)
    where
      earlier : (item i ≡ compares Less) ⊎ (item mid ≡ compares Greater) → item i ≡ compares Less
      earlier (inl p) = p
      earlier (inr q) = absurd (below≢above (compares_inj (sym e ∙ q)))

      go : Dec (i ≡ mid) → item i ≡ compares Less
      go (yes x) = rw x e
      go (no x) = earlier (sorted.rising i mid (omega arith) h)

  upper_from : (mid : ℕ) → item mid ≡ compares Greater → Upper mid
  upper_from mid e i b h = go (ℕ_discrete i mid)
    where
      later : (item mid ≡ compares Less) ⊎ (item i ≡ compares Greater) → item i ≡ compares Greater
      later (inl p) = absurd (below≢above (compares_inj (sym p ∙ e)))
      later (inr q) = q

      go : Dec (i ≡ mid) → item i ≡ compares Greater
      go (yes x) = rw x e
      go (no x) = later (sorted.rising mid i (omega arith) h)

  abbrev Halves : ℕ → Type 0
  Halves f = (low high n : ℕ) → low ≤ high → high ≤ m → high - low ≤ f → Lower low → Upper high → Ended item m (halve_from f item low high n)

  -- where low has come to high
  over : (low high : ℕ) → high ≤ low → low ≤ high → high ≤ m → Lower low → Upper high → (low ≤ m) × Lower low × Upper low
  over low high h g a lows highs = (omega arith, lows, λ i b k. highs i (omega arith) k)

  after_turn : (f : ℕ) → Halves f → (low mid high n : ℕ) → low ≤ mid → mid < high → high ≤ m → high - (mid + 1) ≤ f → mid - low ≤ f → Lower low → Upper high
      → (o : Ordering) → item mid ≡ compares o → Ended item m (turn (halve_from f item) low mid high n (compares o))
  unfolding turn
  after_turn f r low mid high n g h a b c lows highs Less e = r (mid + 1) high (n + 1) (omega arith) a b (lower_to mid (omega arith) e) highs
  after_turn f r low mid high n g h a b c lows highs Equal e = (omega arith, e)
  after_turn f r low mid high n g h a b c lows highs Greater e = r low mid (n + 1) g (omega arith) c lows (upper_from mid e)

  after_test : (f : ℕ) → Halves f → (low high n : ℕ) → low ≤ high → high ≤ m → high - low ≤ suc f → Lower low → Upper high
      → (b : Bool) → (T b → low < high) → (T (not b) → high ≤ low) → Ended item m (halve_if (halve_from f item) item low high n b)
  unfolding halve_if
  after_test f r low high n g a b lows highs true p q =
      let h = p tt in
      let mid = middle low high in
      let (o, e) = sorted.readable mid (omega arith) in
      rw e (after_turn f r low mid high n (omega arith) (omega arith) a (omega arith) (omega arith) lows highs o e)
  after_test f r low high n g a b lows highs false p q = over low high (q tt) g a lows highs

  halves : (f : ℕ) → Halves f
  unfolding halve_from
  halves zero low high n g a b lows highs = over low high (omega arith) g a lows highs
  halves (suc f) low high n g a b lows highs = after_test f (halves f) low high n g a b lows highs (ltb low high) (ltb→lt low high) (nltb→le low high)

  pub halving_ends : Ended item m (halve item m)
  unfolding halve
  halving_ends = halves m 0 m 0 (omega arith) (omega arith) (omega arith) (λ i h. absurd (omega arith)) (λ i h k. absurd (omega arith))

-- ---- a halving looks at its m items alone

module _ (item other : ℕ → Item) (m : ℕ) (same : (i : ℕ) → i < m → item i ≡ other i) where
  abbrev Same : ℕ → Type 0
  Same f = (low high n : ℕ) → high ≤ m → halve_from f item low high n ≡ halve_from f other low high n

  same_turn : (f : ℕ) → Same f → (low mid high n : ℕ) → mid < high → high ≤ m → (x : Item) → turn (halve_from f item) low mid high n x ≡ turn (halve_from f other) low mid high n x
  unfolding turn
  same_turn f r low mid high n h a (compares Less) = r (mid + 1) high (n + 1) a
  same_turn f r low mid high n h a (compares Equal) = refl
  same_turn f r low mid high n h a (compares Greater) = r low mid (n + 1) (omega arith)
  same_turn f r low mid high n h a unreadable = refl

  same_test : (f : ℕ) → Same f → (low high n : ℕ) → high ≤ m → (b : Bool) → (T b → low < high)
      → halve_if (halve_from f item) item low high n b ≡ halve_if (halve_from f other) other low high n b
  unfolding halve_if
  same_test f r low high n a true p =
      let h = p tt in
      rw (same (middle low high) (omega arith)) (same_turn f r low (middle low high) high n (omega arith) a (other (middle low high)))
  same_test f r low high n a false p = refl

  same_from : (f : ℕ) → Same f
  unfolding halve_from
  same_from zero low high n a = refl
  same_from (suc f) low high n a = same_test f (same_from f) low high n a (ltb low high) (ltb→lt low high)

  pub halving_same : halve item m ≡ halve other m
  unfolding halve
  halving_same = same_from m 0 m 0 (omega arith)

-- ---- items that can all be read, sorted or not, end every halving

module _ (item : ℕ → Item) (m : ℕ) (readable : (i : ℕ) → (o : Ordering) × (item i ≡ compares o)) where
  abbrev Whole : ℕ → Type 0
  Whole f = (low high n : ℕ) → halve_from f item low high n ≡ broken → ⊥

  missed≢broken : (l n : ℕ) → missed l n ≡ broken → ⊥
  missed≢broken l n e = let z : ◌≡◌ {A = ℕ} 0 1 = cc in omega arith

  found≢broken : (k n : ℕ) → found k n ≡ broken → ⊥
  found≢broken k n e = let z : ◌≡◌ {A = ℕ} 0 1 = cc in omega arith

  whole_turn : (f : ℕ) → Whole f → (low mid high n : ℕ) (o : Ordering) → turn (halve_from f item) low mid high n (compares o) ≡ broken → ⊥
  unfolding turn
  whole_turn f r low mid high n Less e = r (mid + 1) high (n + 1) e
  whole_turn f r low mid high n Equal e = found≢broken mid (n + 1) e
  whole_turn f r low mid high n Greater e = r low mid (n + 1) e

  whole_test : (f : ℕ) → Whole f → (low high n : ℕ) (b : Bool) → halve_if (halve_from f item) item low high n b ≡ broken → ⊥
  unfolding halve_if
  whole_test f r low high n true e =
      let (o, q) = readable (middle low high) in
      whole_turn f r low (middle low high) high n o (rw q at e)
  whole_test f r low high n false e = missed≢broken low n e

  whole : (f : ℕ) → Whole f
  unfolding halve_from
  whole zero low high n e = missed≢broken low n e
  whole (suc f) low high n e = whole_test f (whole f) low high n (ltb low high) e

  pub never_broken : halve item m ≡ broken → ⊥
  unfolding halve
  never_broken e = whole m 0 m 0 e

-- ---- how many turns a halving takes

module _ (item : ℕ → Item) where
  abbrev Turns : ℕ → Type 0
  Turns f = (low high n k : ℕ) → high - low < 2 ^ k → turns_of (halve_from f item low high n) ≤ n + k

  turns_turn : (f : ℕ) → Turns f → (low mid high n k : ℕ) → high - (mid + 1) < 2 ^ k → mid - low < 2 ^ k → (x : Item) → turns_of (turn (halve_from f item) low mid high n x) ≤ n + suc k
  unfolding turn
  turns_turn f r low mid high n k a b (compares Less) = omega (arith, r (mid + 1) high (n + 1) k a)
  turns_turn f r low mid high n k a b (compares Equal) = omega arith
  turns_turn f r low mid high n k a b (compares Greater) = omega (arith, r low mid (n + 1) k b)
  turns_turn f r low mid high n k a b unreadable = omega arith

  turns_test : (f : ℕ) → Turns f → (low high n k : ℕ) → high - low < 2 ^ k → (b : Bool) → (T b → low < high) → turns_of (halve_if (halve_from f item) item low high n b) ≤ n + k
  unfolding halve_if
  turns_test f r low high n k h false p = omega arith
  turns_test f r low high n zero h true p = let q = p tt in absurd (omega arith)
  turns_test f r low high n (suc k) h true p =
      let q = p tt in
      let e : 2 ^ suc k ≡ 2 * 2 ^ k = pow-succ' 2 k in
      turns_turn f r low (middle low high) high n k (omega arith) (omega arith) (item (middle low high))

  turns : (f : ℕ) → Turns f
  unfolding halve_from
  turns zero low high n k h = omega arith
  turns (suc f) low high n k h = turns_test f (turns f) low high n k h (ltb low high) (ltb→lt low high)

digits_above : (f m : ℕ) → m ≤ f → m < 2 ^ digits_in f m
unfolding digits_in
digits_above zero m h = omega arith
digits_above (suc f) zero h = omega arith
digits_above (suc f) (suc m) h =
    let d = digits_in f (suc m / 2) in
    let r = digits_above f (suc m / 2) (omega arith) in
    let e : 2 ^ suc d ≡ 2 * 2 ^ d = pow-succ' 2 d in
    omega arith

-- a number of d binary digits lies below 2 ^ d, and, unless it is zero, not below half of that
pub below_digits : (m : ℕ) → m < 2 ^ digits m
unfolding digits
below_digits m = digits_above m m (omega arith)

zero_digits : (f : ℕ) → digits_in f 0 ≡ 0
unfolding digits_in
zero_digits zero = refl
zero_digits (suc f) = refl

digits_below : (f m : ℕ) → m ≤ f → 0 < m → 2 ^ digits_in f m ≤ 2 * m
unfolding digits_in
digits_below zero m h p = absurd (omega arith)
digits_below (suc f) zero h p = absurd (omega arith)
digits_below (suc f) (suc m) h p = go (suc m / 2) refl (digits_below f (suc m / 2))
  where
    go : (q : ℕ) → suc m / 2 ≡ q → (suc m / 2 ≤ f → 0 < suc m / 2 → 2 ^ digits_in f (suc m / 2) ≤ 2 * (suc m / 2)) → 2 ^ suc (digits_in f (suc m / 2)) ≤ 2 * suc m
    go zero e r = rw (e, zero_digits f) (omega arith)
    go (suc q) e r =
        let d = digits_in f (suc m / 2) in
        let x = r (omega arith) (omega arith) in
        let e2 : 2 ^ suc d ≡ 2 * 2 ^ d = pow-succ' 2 d in
        omega arith

pub digits_exact : (m : ℕ) → 0 < m → 2 ^ digits m ≤ 2 * m
unfolding digits
digits_exact m p = digits_below m m (omega arith) p

pub halving_turns : (item : ℕ → Item) (m : ℕ) → turns_of (halve item m) ≤ digits m
unfolding halve
halving_turns item m = omega (arith, turns item m 0 m 0 (digits m) (let b = below_digits m in omega arith))
