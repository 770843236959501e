-- How many steps there are, by the first byte that differs: their number without a recursion.
use mathlib.Core.Path.{◌≡◌, refl, sym, ap, ◌∙◌}
use mathlib.Core.Bool.{Bool, true, false}
use mathlib.Core.List.{List}
use Prim.Native.Nat.{ℕ, zero, suc, ◌+◌, ◌-◌, ◌/◌, ◌%◌, ◌≤◌, ◌<◌, min}
use native.Mathlib.Omega.{arith}
use borrow.Author.Tests.{leb-true, leb-false}
use lib.Dec.{leb}
use lib.ListN.{length, take, drop, get_or, length-drop}
use lib.Seq.{length-take-le, get_or-take, get_or-drop, ext_get_or}
use Rattle.json_model.specs.Choose.{choose}
use Rattle.json_model.specs.Texts.{compare_texts, is_equal}
use Rattle.std.specs.declared.cmp.Ordering.{Ordering}
use Rattle.std.specs.declared.cmp.Ordering.TheVariants.{Less, Equal, Greater}
use Rattle.json_model.proofs.Texts.{texts_equal}
use Rattle.text.specs.Steps.{alike, step, compare_steps}
use Rattle.text.proofs.Steps.{by_next, steps_none}

-- the first n bytes are the same
abbrev pub SameTo : ℕ → List ℕ → List ℕ → Type 0
SameTo n a b = (i : ℕ) → i < n → get_or a i 0 ≡ get_or b i 0

module _ (n : ℕ) (a b : List ℕ) where
  step_passes : n ≤ length a → n ≤ length b → SameTo n a b → step n compare_steps a b ≡ suc (compare_steps (drop n a) (drop n b))
  unfolding step alike choose
  step_passes ha hb same =
      let la = length-take-le n a ha in
      let lb = length-take-le n b hb in
      let e : take n a ≡ take n b = ext_get_or 0 (take n a) (take n b) (la ∙ sym lb) (λ i l. let k : i < n = omega arith in get_or-take n a i 0 k ∙ same i k ∙ sym (get_or-take n b i 0 k)) in
      rw ((texts_equal (take n a) (take n b)).1 e)

  step_ends : (p : ℕ) → p < n → (get_or a p 0 ≡ get_or b p 0 → ⊥) → step n compare_steps a b ≡ 1
  unfolding step alike choose
  step_ends p l unlike = go (compare_texts (take n a) (take n b)) (λ e. unlike (sym (get_or-take n a p 0 l) ∙ ap (λ x. get_or x p 0) ((texts_equal (take n a) (take n b)).0 e) ∙ get_or-take n b p 0 l))
    where
      go : (o : Ordering) → (o ≡ Equal → ⊥) → suc (choose (is_equal o) (compare_steps (drop n a) (drop n b)) 0) ≡ 1
      go Less h = refl
      go Equal h = absurd (h refl)
      go Greater h = refl

same_on : (n p : ℕ) (a b : List ℕ) → n ≤ p → SameTo p a b → SameTo (p - n) (drop n a) (drop n b)
same_on n p a b h same i l = get_or-drop n a i 0 ∙ same (n + i) (omega arith) ∙ sym (get_or-drop n b i 0)

unlike_on : (n p : ℕ) (a b : List ℕ) → n ≤ p → (get_or a p 0 ≡ get_or b p 0 → ⊥) → get_or (drop n a) (p - n) 0 ≡ get_or (drop n b) (p - n) 0 → ⊥
unlike_on n p a b h unlike e =
    let q : n + (p - n) ≡ p = omega arith in
    unlike (rw q at (sym (get_or-drop n a (p - n) 0) ∙ e ∙ get_or-drop n b (p - n) 0))

-- ---- the steps where byte p is the first that differs, of m that both have

abbrev Unlike : ℕ → ℕ → ℕ → Type 0
Unlike m p s = (p / 8 < m / 8 → s ≡ p / 8 + 1) × (m / 8 ≤ p / 8 → s ≡ m / 8 + p % 8 + 1)

rest_of : (m m' p r s : ℕ) → m < 8 → p < m → 1 ≤ p → m' ≤ m → r ≡ m' / 8 + (p - 1) % 8 + 1 → s ≡ suc r → s ≡ m / 8 + p % 8 + 1
rest_of m m' p r s f l q h e g =
    let z : m / 8 ≡ 0 = omega arith in
    let z' : m' / 8 ≡ 0 = omega arith in
    let y : p % 8 ≡ p = omega arith in
    let y' : (p - 1) % 8 ≡ p - 1 = omega arith in
    omega arith

abbrev Within : ℕ → Type 0
Within k = (a b : List ℕ) (p : ℕ) → length a ≤ k → p < min (length a) (length b) → SameTo p a b → (get_or a p 0 ≡ get_or b p 0 → ⊥) → Unlike (min (length a) (length b)) p (compare_steps a b)

module _ (k : ℕ) (rest : Within k) (a b : List ℕ) (p : ℕ) (h : length a ≤ suc k) (l : p < min (length a) (length b)) (same : SameTo p a b) (unlike : get_or a p 0 ≡ get_or b p 0 → ⊥) where
  eight : 8 ≤ min (length a) (length b) → (t : Bool) → leb 8 p ≡ t → Unlike (min (length a) (length b)) p (step 8 compare_steps a b)
  eight e false t = let q = leb-false 8 p t in let s = step_ends 8 a b p q unlike in (λ x. omega arith, λ x. absurd (omega arith))
  eight e true t =
      let q = leb-true 8 p t in
      let la = length-drop 8 a in
      let lb = length-drop 8 b in
      let s = step_passes 8 a b (omega arith) (omega arith) (λ i j. same i (omega arith)) in
      let r = rest (drop 8 a) (drop 8 b) (p - 8) (omega arith) (omega arith) (same_on 8 p a b q same) (unlike_on 8 p a b q unlike) in
      (λ x. let z = r.0 (omega arith) in omega arith, λ x. let z = r.1 (omega arith) in omega arith)

  one : min (length a) (length b) < 8 → (t : Bool) → leb 1 p ≡ t → Unlike (min (length a) (length b)) p (step 1 compare_steps a b)
  one f false t = let q = leb-false 1 p t in let s = step_ends 1 a b p q unlike in (λ x. absurd (omega arith), λ x. omega arith)
  one f true t =
      let q = leb-true 1 p t in
      let la = length-drop 1 a in
      let lb = length-drop 1 b in
      let s = step_passes 1 a b (omega arith) (omega arith) (λ i j. same i (omega arith)) in
      let r = rest (drop 1 a) (drop 1 b) (p - 1) (omega arith) (omega arith) (same_on 1 p a b q same) (unlike_on 1 p a b q unlike) in
      (λ x. absurd (omega arith), λ x. rest_of (min (length a) (length b)) (min (length (drop 1 a)) (length (drop 1 b))) p (compare_steps (drop 1 a) (drop 1 b)) (step 1 compare_steps a b) f l q (omega arith) (r.1 (omega arith)) s)

unlike_within : (k : ℕ) → Within k
unlike_within zero a b p h l same unlike = absurd (omega arith)
unlike_within (suc k) a b p h l same unlike =
    by_next (λ s. Unlike (min (length a) (length b)) p s) a b
    (λ e. eight k (unlike_within k) a b p h l same unlike e (leb 8 p) refl)
    (λ f e. one k (unlike_within k) a b p h l same unlike f (leb 1 p) refl)
    (λ e. absurd (omega arith))

module _ (a b : List ℕ) (p : ℕ) (l : p < min (length a) (length b)) (same : SameTo p a b) (unlike : get_or a p 0 ≡ get_or b p 0 → ⊥) where
  -- byte p is the first that differs, and stands in one of the eights
  pub differs_in_eights : p / 8 < min (length a) (length b) / 8 → compare_steps a b ≡ p / 8 + 1
  differs_in_eights h = (unlike_within (length a) a b p (omega arith) l same unlike).0 h

  -- or among the bytes left over
  pub differs_left_over : min (length a) (length b) / 8 ≤ p / 8 → compare_steps a b ≡ min (length a) (length b) / 8 + p % 8 + 1
  differs_left_over h = (unlike_within (length a) a b p (omega arith) l same unlike).1 h

-- ---- no byte differs: one text is a prefix of the other

alike_within : (k : ℕ) (a b : List ℕ) → length a ≤ k → SameTo (min (length a) (length b)) a b → compare_steps a b ≡ min (length a) (length b) / 8 + min (length a) (length b) % 8
alike_within zero a b h same = rw (steps_none a b (omega arith)) (omega arith)
alike_within (suc k) a b h same =
    by_next (λ s. s ≡ min (length a) (length b) / 8 + min (length a) (length b) % 8) a b
    (λ e. let la = length-drop 8 a in
    let lb = length-drop 8 b in
    let s = step_passes 8 a b (omega arith) (omega arith) (λ i j. same i (omega arith)) in
    let r = alike_within k (drop 8 a) (drop 8 b) (omega arith) (λ i j. same_on 8 (min (length a) (length b)) a b (omega arith) same i (omega arith)) in
    omega arith)
    (λ f e. let la = length-drop 1 a in
    let lb = length-drop 1 b in
    let s = step_passes 1 a b (omega arith) (omega arith) (λ i j. same i (omega arith)) in
    let r = alike_within k (drop 1 a) (drop 1 b) (omega arith) (λ i j. same_on 1 (min (length a) (length b)) a b (omega arith) same i (omega arith)) in
    omega arith)
    (λ e. omega arith)

pub prefix_steps_are : (a b : List ℕ) → SameTo (min (length a) (length b)) a b → compare_steps a b ≡ min (length a) (length b) / 8 + min (length a) (length b) % 8
prefix_steps_are a b same = alike_within (length a) a b (omega arith) same

-- a text with itself
pub steps_of_same : (a : List ℕ) → compare_steps a a ≡ length a / 8 + length a % 8
steps_of_same a = let m : min (length a) (length a) ≡ length a = omega arith in rw m at (prefix_steps_are a a (λ i l. refl))
