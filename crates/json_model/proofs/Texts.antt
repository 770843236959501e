-- The laws of the order of numbers and of texts: it is strict and total, it is co-transitive (whatever lies below another
-- leaves no text that is neither above the one nor below the other), and two texts are equal in it exactly if they are one.
use mathlib.Core.Path.{◌≡◌, refl, sym, ap, ◌∙◌}
use mathlib.Core.Logic.{◌↔◌, ◌⊎◌, inl, inr}
use mathlib.Core.Bool.{Bool, true, false, not}
use mathlib.Core.List.{List, [], ◌∷◌}
use Prim.Native.Nat.{ℕ, ◌≤◌, ◌<◌}
use native.Mathlib.Omega.{arith}
use lib.Dec.{T, ltb, ltb→lt, nltb→le}
use Rattle.json_model.specs.Choose.{choose}
use Rattle.json_model.specs.Texts.{by_numbers, compare_numbers, compare_texts, is_equal}
use Rattle.std.specs.declared.cmp.Ordering.{Ordering}
use Rattle.std.specs.declared.cmp.Ordering.TheVariants.{Less, Equal, Greater}

pub below≢equal : Less ≡ Equal → ⊥
below≢equal e = let z : ◌≡◌ {A = ℕ} 0 1 = cc in omega arith

pub below≢above : Less ≡ Greater → ⊥
below≢above e = let z : ◌≡◌ {A = ℕ} 0 1 = cc in omega arith

pub equal≢above : Equal ≡ Greater → ⊥
equal≢above e = let z : ◌≡◌ {A = ℕ} 0 1 = cc in omega arith

-- a comparison of two numbers, by its three outcomes
pub by_numbers_lem : (P : Ordering → Type 0) (x y : ℕ) (r : Ordering) → (x < y → P Less) → (x ≡ y → P r) → (y < x → P Greater) → P (by_numbers x y r)
unfolding by_numbers choose
by_numbers_lem P x y r below equal above = go (ltb x y) (ltb y x) (ltb→lt x y) (nltb→le x y) (ltb→lt y x) (nltb→le y x)
  where
    go : (l g : Bool) → (T l → x < y) → (T (not l) → y ≤ x) → (T g → y < x) → (T (not g) → x ≤ y) → P (choose l Less (choose g Greater r))
    go true g h1 h2 h3 h4 = below (h1 tt)
    go false true h1 h2 h3 h4 = above (h3 tt)
    go false false h1 h2 h3 h4 = let a = h2 tt in let b = h4 tt in equal (omega arith)

by_less : (x y : ℕ) (r : Ordering) → x < y → by_numbers x y r ≡ Less
by_less x y r l = by_numbers_lem (λ o. o ≡ Less) x y r (λ h. refl) (λ h. absurd (omega arith)) (λ h. absurd (omega arith))

by_more : (x y : ℕ) (r : Ordering) → y < x → by_numbers x y r ≡ Greater
by_more x y r g = by_numbers_lem (λ o. o ≡ Greater) x y r (λ h. absurd (omega arith)) (λ h. absurd (omega arith)) (λ h. refl)

by_same : (x y : ℕ) (r : Ordering) → x ≡ y → by_numbers x y r ≡ r
by_same x y r e = by_numbers_lem (λ o. o ≡ r) x y r (λ h. absurd (omega arith)) (λ h. refl) (λ h. absurd (omega arith))

-- ---- numbers

pub numbers_below : (x y : ℕ) → (compare_numbers x y ≡ Less) ↔ (x < y)
numbers_below x y =
    (by_numbers_lem (λ o. o ≡ Less → x < y) x y Equal (λ h e. h) (λ h e. absurd (below≢equal (sym e))) (λ h e. absurd (below≢above (sym e))), by_less x y Equal)

pub numbers_equal : (x y : ℕ) → (compare_numbers x y ≡ Equal) ↔ (x ≡ y)
numbers_equal x y =
    (by_numbers_lem (λ o. o ≡ Equal → x ≡ y) x y Equal (λ h e. absurd (below≢equal e)) (λ h e. h) (λ h e. absurd (equal≢above (sym e))), by_same x y Equal)

pub numbers_above : (x y : ℕ) → (compare_numbers x y ≡ Greater) ↔ (y < x)
numbers_above x y =
    (by_numbers_lem (λ o. o ≡ Greater → y < x) x y Equal (λ h e. absurd (below≢above e)) (λ h e. absurd (equal≢above e)) (λ h e. h), by_more x y Equal)

-- ---- texts

equal_one : (a b : List ℕ) → compare_texts a b ≡ Equal → a ≡ b
unfolding compare_texts
equal_one [] [] e = refl
equal_one [] (y ∷ ys) e = absurd (below≢equal e)
equal_one (x ∷ xs) [] e = absurd (equal≢above (sym e))
equal_one (x ∷ xs) (y ∷ ys) e =
    by_numbers_lem (λ o. o ≡ Equal → x ∷ xs ≡ y ∷ ys) x y (compare_texts xs ys)
    (λ h e. absurd (below≢equal e)) (λ h e. let r = equal_one xs ys e in cc) (λ h e. absurd (equal≢above (sym e))) e

one_equal : (a : List ℕ) → compare_texts a a ≡ Equal
unfolding compare_texts
one_equal [] = refl
one_equal (x ∷ xs) = by_same x x (compare_texts xs xs) refl ∙ one_equal xs

-- equal exactly if the lists are equal
pub texts_equal : (a b : List ℕ) → (compare_texts a b ≡ Equal) ↔ (a ≡ b)
texts_equal a b = (equal_one a b, λ e. rw e (one_equal b))

equal_order : (o : Ordering) → T (is_equal o) → o ≡ Equal
equal_order Less t = absurd t
equal_order Equal t = refl
equal_order Greater t = absurd t

-- as a test
pub texts_same : (a b : List ℕ) → T (is_equal (compare_texts a b)) ↔ (a ≡ b)
texts_same a b = (λ t. equal_one a b (equal_order (compare_texts a b) t), λ e. rw ((texts_equal a b).1 e) tt)

-- strict
pub text_strict : (a : List ℕ) → compare_texts a a ≡ Less → ⊥
text_strict a e = below≢equal (sym e ∙ one_equal a)

abbrev turned : Ordering → Ordering
turned Less = Greater
turned Equal = Equal
turned Greater = Less

turn_about : (a b : List ℕ) → compare_texts b a ≡ turned (compare_texts a b)
unfolding compare_texts
turn_about [] [] = refl
turn_about [] (y ∷ ys) = refl
turn_about (x ∷ xs) [] = refl
turn_about (x ∷ xs) (y ∷ ys) =
    by_numbers_lem (λ o. by_numbers y x (compare_texts ys xs) ≡ turned o) x y (compare_texts xs ys)
    (by_more y x (compare_texts ys xs)) (λ e. by_same y x (compare_texts ys xs) (sym e) ∙ turn_about xs ys) (by_less y x (compare_texts ys xs))

-- above is below the other way round
pub texts_above : (a b : List ℕ) → (compare_texts a b ≡ Greater) ↔ (compare_texts b a ≡ Less)
texts_above a b = (λ e. turn_about a b ∙ ap turned e, λ e. turn_about b a ∙ ap turned e)

-- total
total_by : (a b : List ℕ) (o : Ordering) → compare_texts a b ≡ o → (compare_texts a b ≡ Less) ⊎ ((a ≡ b) ⊎ (compare_texts b a ≡ Less))
total_by a b Less e = inl e
total_by a b Equal e = inr (inl (equal_one a b e))
total_by a b Greater e = inr (inr ((texts_above a b).0 e))

pub text_total : (a b : List ℕ) → (compare_texts a b ≡ Less) ⊎ ((a ≡ b) ⊎ (compare_texts b a ≡ Less))
text_total a b = total_by a b (compare_texts a b) refl

-- co-transitive
pub text_cotrans : (a b c : List ℕ) → compare_texts a b ≡ Less → (compare_texts a c ≡ Less) ⊎ (compare_texts c b ≡ Less)
unfolding compare_texts
text_cotrans [] [] c e = absurd (below≢equal (sym e))
text_cotrans [] (y ∷ ys) [] e = inr refl
text_cotrans [] (y ∷ ys) (z ∷ zs) e = inl refl
text_cotrans (x ∷ xs) [] c e = absurd (below≢above (sym e))
text_cotrans (x ∷ xs) (y ∷ ys) [] e = inr refl
text_cotrans (x ∷ xs) (y ∷ ys) (z ∷ zs) e =
    by_numbers_lem (λ o. o ≡ Less → Goal (by_numbers x z (compare_texts xs zs))) x y (compare_texts xs ys)
    (λ h e. by_numbers_lem Goal x z (compare_texts xs zs) (λ k. inl refl) (λ k. later (omega arith)) (λ k. later (omega arith)))
    (λ h e. by_numbers_lem Goal x z (compare_texts xs zs) (λ k. inl refl) (λ k. tail (omega arith) (text_cotrans xs ys zs e)) (λ k. later (omega arith)))
    (λ h e. absurd (below≢above (sym e))) e
  where
    Goal : Ordering → Type 0
    Goal o = (o ≡ Less) ⊎ (by_numbers z y (compare_texts zs ys) ≡ Less)

    later : {o : Ordering} → z < y → Goal o
    later l = inr (by_less z y (compare_texts zs ys) l)

    tail : z ≡ y → (compare_texts xs zs ≡ Less) ⊎ (compare_texts zs ys ≡ Less) → Goal (compare_texts xs zs)
    tail q (inl l) = inl l
    tail q (inr r) = inr (by_same z y (compare_texts zs ys) q ∙ r)

-- transitive, from the laws above
pub text_trans : (a b c : List ℕ) → compare_texts a b ≡ Less → compare_texts b c ≡ Less → compare_texts a c ≡ Less
text_trans a b c p q = go (text_cotrans a b c p)
  where
    go : (compare_texts a c ≡ Less) ⊎ (compare_texts c b ≡ Less) → compare_texts a c ≡ Less
    go (inl l) = l
    go (inr r) = absurd (below≢above (sym r ∙ (texts_above c b).1 q))
