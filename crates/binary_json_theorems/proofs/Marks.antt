-- The laws of the marks: what marking a body adds to the count of each word, when a body is clear, and what is left
-- after a walk.
use Prim.Native.Nat.{ℕ, zero, suc, ◌+◌, ◌*◌, ◌≤◌, ◌<◌}
use mathlib.Core.Bool.{Bool, true, false, not}
use mathlib.Core.List.{List, [], ◌∷◌}
use mathlib.Core.Path.{◌≡◌, refl, sym, ap, ◌∙◌, subst}
use native.Mathlib.Omega.{arith}
use native.Mathlib.Decide.{ℕ_discrete}
use borrow.Author.Tests.{eq-eqb, ne_eqb}
use lib.Dec.{T, ltb, leb, eqb, eqb→eq, ltb→lt, nltb→le, leb→le, nleb→lt}
use lib.ListN.{length, get_or, set, length-set}
use lib.Seq.{get_or-set_same, get_or-set_other}
use Rattle.json_model.specs.Choose.{choose}
use Rattle.json_model.proofs.Reading.{eq→eqb}
use Rattle.binary_json_rules.specs.Areas.{index}
use Rattle.binary_json_rules.specs.Marks.{words, word_place, word_at, clear, fill, unmarked}
use Rattle.binary_json_rules.specs.Meaning.{within}
use Rattle.binary_json_theorems.proofs.Nodes.{Aligned}

-- ---- the words of a body

-- the word k stands before the body, in it, or past it
pub data Where (o w k : ℕ) : Type 0 where
  before : word_place k < o → within o w k ≡ 0 → Where o w k
  in_it : o ≤ word_place k → word_place k < o + 4 * w → within o w k ≡ 1 → Where o w k
  past : o + 4 * w ≤ word_place k → within o w k ≡ 0 → Where o w k

pub where_is : (o w k : ℕ) → Where o w k
unfolding within choose
where_is o w k = by (word_place k) refl
  where
    go : (p : ℕ) → p ≡ word_place k → (a b : Bool) → leb o p ≡ a → ltb p (o + 4 * w) ≡ b → (T a → o ≤ p) → (T (not a) → p < o) → (T b → p < o + 4 * w) → (T (not b) → o + 4 * w ≤ p)
        → Where o w k
    go p q false b e f x x' y y' = before (rw (← q) (x' tt)) (rw (← q, e))
    go p q true true e f x x' y y' = in_it (rw (← q) (x tt)) (rw (← q) (y tt)) (rw (← q, e, f))
    go p q true false e f x x' y y' = past (rw (← q) (y' tt)) (rw (← q, e, f))

    by : (p : ℕ) → p ≡ word_place k → Where o w k
    by p q = go p q (leb o p) (ltb p (o + 4 * w)) refl refl (leb→le o p) (nleb→lt o p) (ltb→lt p (o + 4 * w)) (nltb→le p (o + 4 * w))

-- ---- marks set

pub fill_length : (ms : List ℕ) (j w v : ℕ) → length (fill ms j w v) ≡ length ms
unfolding fill
fill_length ms j zero v = refl
fill_length ms j (suc w) v = fill_length (set ms j v) (j + 1) w v ∙ length-set ms j v

-- before j, and from j + w on, nothing is set
pub fill_before : (ms : List ℕ) (j w v k : ℕ) → k < j → get_or (fill ms j w v) k 0 ≡ get_or ms k 0
unfolding fill
fill_before ms j zero v k h = refl
fill_before ms j (suc w) v k h = fill_before (set ms j v) (j + 1) w v k (omega arith) ∙ get_or-set_other ms j k v 0 (λ q. omega arith)

pub fill_past : (ms : List ℕ) (j w v k : ℕ) → j + w ≤ k → get_or (fill ms j w v) k 0 ≡ get_or ms k 0
unfolding fill
fill_past ms j zero v k h = refl
fill_past ms j (suc w) v k h = fill_past (set ms j v) (j + 1) w v k (omega arith) ∙ get_or-set_other ms j k v 0 (λ q. omega arith)

pub fill_in : (ms : List ℕ) (j w v k : ℕ) → j + w ≤ length ms → j ≤ k → k < j + w → get_or (fill ms j w v) k 0 ≡ v
unfolding fill
fill_in ms j zero v k i a b = absurd (omega arith)
fill_in ms j (suc w) v k i a b =
    let l = length-set ms j v in
    go (ℕ_discrete j k) (fill_before (set ms j v) (j + 1) w v j (omega arith) ∙ get_or-set_same ms j v 0 (omega arith))
    (λ c. fill_in (set ms j v) (j + 1) w v k (omega arith) (omega arith) (omega arith))
  where
    go : Dec (j ≡ k) → get_or (fill (set ms j v) (j + 1) w v) j 0 ≡ v → (j + 1 ≤ k → get_or (fill (set ms j v) (j + 1) w v) k 0 ≡ v) → get_or (fill (set ms j v) (j + 1) w v) k 0 ≡ v
    go (yes e) here later = rw (← e) here
    go (no n) here later = later (omega arith)

-- marks that are 0 or 1 stay so
pub fill_bits : (ms : List ℕ) (j w k : ℕ) → j + w ≤ length ms → get_or ms k 0 ≤ 1 → get_or (fill ms j w 1) k 0 ≤ 1
unfolding fill
fill_bits ms j zero k i h = h
fill_bits ms j (suc w) k i h = let l = length-set ms j 1 in fill_bits (set ms j 1) (j + 1) w k (omega arith) (go (ℕ_discrete j k))
  where
    go : Dec (j ≡ k) → get_or (set ms j 1) k 0 ≤ 1
    go (yes e) = let q : get_or (set ms j 1) j 0 ≡ 1 = get_or-set_same ms j 1 0 (omega arith) in let r : get_or (set ms j 1) k 0 ≡ 1 = rw (← e) q in omega arith
    go (no n) = let q = get_or-set_other ms j k 1 0 (λ e. n (sym e)) in omega arith

-- ---- marks that are 0

is_clear : (b c : Bool) → T (choose b c false) → T b × T c
unfolding choose
is_clear true c h = (tt, h)
is_clear false c h = absurd h

pub clear_zero : (ms : List ℕ) (j w k : ℕ) → T (clear ms j w) → j ≤ k → k < j + w → get_or ms k 0 ≡ 0
unfolding clear
clear_zero ms j zero k c a b = absurd (omega arith)
clear_zero ms j (suc w) k c a b =
    let p = is_clear (eqb (get_or ms j 0) 0) (clear ms (j + 1) w) c in
    go (ℕ_discrete k j) (eqb→eq (get_or ms j 0) 0 p.0) (λ l. clear_zero ms (j + 1) w k p.1 l (omega arith))
  where
    go : Dec (k ≡ j) → get_or ms j 0 ≡ 0 → (j + 1 ≤ k → get_or ms k 0 ≡ 0) → get_or ms k 0 ≡ 0
    go (yes e) z r = rw e z
    go (no n) z r = r (omega arith)

-- a body none of whose words is marked is clear
pub clear_is : (ms : List ℕ) (j w : ℕ) → ((k : ℕ) → j ≤ k → k < j + w → get_or ms k 0 ≡ 0) → T (clear ms j w)
unfolding clear choose
clear_is ms j zero h = tt
clear_is ms j (suc w) h =
    let z : get_or ms j 0 ≡ 0 = h j (omega arith) (omega arith) in
    rw z (clear_is ms (j + 1) w (λ k a b. h k (omega arith) (omega arith)))

-- ---- marking a clear body adds one to the count of each of its words, and nothing to any other's

-- what a walk leaves of the marks ms: ns, which count every word of the tree so many times more, and no word twice
pub record Left (doc ms ns : List ℕ) (add : ℕ → ℕ) : Type 0 where
  pub long : length ns ≡ length ms
  pub adds : (k : ℕ) → get_or ns k 0 ≡ get_or ms k 0 + add k
  pub once : (k : ℕ) → get_or ms k 0 ≤ 1 → get_or ns k 0 ≤ 1
  pub beyond : (k : ℕ) → words doc ≤ k → get_or ns k 0 ≡ get_or ms k 0

pub body_left : (doc ms : List ℕ) (o w : ℕ) → Aligned o → o + 4 * w ≤ index doc → words doc ≤ length ms → T (clear ms (word_at o) w)
    → Left doc ms (fill ms (word_at o) w 1) (within o w)
unfolding words
body_left doc ms o w z i e c = record { long = fill_length ms (word_at o) w 1; adds = λ k. adds k (where_is o w k); once = λ k b. once k b (where_is o w k); beyond = beyond }
  where
    aligned : o ≡ 4 + 4 * word_at o
    aligned = let l = z.least in let s = z.step in omega arith

    adds : (k : ℕ) → Where o w k → get_or (fill ms (word_at o) w 1) k 0 ≡ get_or ms k 0 + within o w k
    adds k (before a f) = let p = aligned in let q = fill_before ms (word_at o) w 1 k (omega arith) in omega arith
    adds k (in_it a b f) =
        let p = aligned in
        let q = fill_in ms (word_at o) w 1 k (omega arith) (omega arith) (omega arith) in
        let r = clear_zero ms (word_at o) w k c (omega arith) (omega arith) in
        omega arith
    adds k (past a f) = let p = aligned in let q = fill_past ms (word_at o) w 1 k (omega arith) in omega arith

    once : (k : ℕ) → get_or ms k 0 ≤ 1 → Where o w k → get_or (fill ms (word_at o) w 1) k 0 ≤ 1
    once k b (before a f) = let q = adds k (before a f) in omega arith
    once k b (in_it a d f) = let p = aligned in let q = fill_in ms (word_at o) w 1 k (omega arith) (omega arith) (omega arith) in omega arith
    once k b (past a f) = let q = adds k (past a f) in omega arith

    beyond : (k : ℕ) → words doc ≤ k → get_or (fill ms (word_at o) w 1) k 0 ≡ get_or ms k 0
    beyond k b = let p = aligned in fill_past ms (word_at o) w 1 k (omega arith)

pub nothing_left : {doc ms ns : List ℕ} → ms ≡ ns → Left doc ms ns (λ k. 0)
nothing_left {doc} {ms} {ns} e = record { long = ap length (sym e); adds = λ k. rw (← e) (omega arith); once = λ k q. rw (← e) q; beyond = λ k q. rw (← e) }

pub left_then : {doc ms ns os : List ℕ} {f g : ℕ → ℕ} → Left doc ms ns f → Left doc ns os g → Left doc ms os (λ k. f k + g k)
left_then x y = record {
  long = y.long ∙ x.long;
  adds = λ k. let a = x.adds k in let b = y.adds k in omega arith;
  once = λ k q. y.once k (x.once k q);
  beyond = λ k q. y.beyond k q ∙ x.beyond k q;
}

-- a body whose words would not be counted twice is clear
pub room : (doc ms : List ℕ) (o w : ℕ) (more : ℕ → ℕ) → Aligned o → o + 4 * w ≤ index doc → ((k : ℕ) → k < words doc → get_or ms k 0 + (within o w k + more k) ≤ 1)
    → T (clear ms (word_at o) w)
unfolding words
room doc ms o w more z i h = clear_is ms (word_at o) w (λ k a b. go k a b (where_is o w k))
  where
    go : (k : ℕ) → word_at o ≤ k → k < word_at o + w → Where o w k → get_or ms k 0 ≡ 0
    go k a b (before c e) = let l = z.least in let s = z.step in absurd (omega arith)
    go k a b (in_it c d e) = let l = z.least in let s = z.step in let q = h k (omega arith) in omega arith
    go k a b (past c e) = let l = z.least in let s = z.step in absurd (omega arith)

-- ---- the first word that is not marked

pub unmarked_none : (ms : List ℕ) (j n : ℕ) → ((k : ℕ) → j ≤ k → k < j + n → get_or ms k 0 ≡ 1) → unmarked ms j n ≡ j + n
unfolding unmarked choose
unmarked_none ms j zero h = omega arith
unmarked_none ms j (suc n) h =
    let z : get_or ms j 0 ≡ 1 = h j (omega arith) (omega arith) in
    let r = unmarked_none ms (j + 1) n (λ k a b. h k (omega arith) (omega arith)) in
    rw z (let q : unmarked ms (j + 1) n ≡ j + suc n = omega arith in q)

pub unmarked_within : (ms : List ℕ) (j n : ℕ) → unmarked ms j n ≤ j + n
unfolding unmarked choose
unmarked_within ms j zero = omega arith
unmarked_within ms j (suc n) = go (eqb (get_or ms j 0) 0) (unmarked_within ms (j + 1) n)
  where
    go : (b : Bool) → unmarked ms (j + 1) n ≤ j + 1 + n → choose b j (unmarked ms (j + 1) n) ≤ j + suc n
    go true h = omega arith
    go false h = omega arith

pub unmarked_first : (ms : List ℕ) (j n : ℕ) → unmarked ms j n < j + n
    → (get_or ms (unmarked ms j n) 0 ≡ 0) × ((k : ℕ) → j ≤ k → k < unmarked ms j n → get_or ms k 0 ≡ 0 → ⊥)
unfolding unmarked choose
unmarked_first ms j zero h = absurd (omega arith)
unmarked_first ms j (suc n) h = go (ℕ_discrete (get_or ms j 0) 0) h (unmarked_first ms (j + 1) n)
  where
    at_later : (later : ℕ) → (get_or ms j 0 ≡ 0 → ⊥) → ((k : ℕ) → j + 1 ≤ k → k < later → get_or ms k 0 ≡ 0 → ⊥) → (k : ℕ) → j ≤ k → k < later → get_or ms k 0 ≡ 0 → Dec (k ≡ j) → ⊥
    at_later later f t k a b z (yes q) = f (rw (← q) z)
    at_later later f t k a b z (no q) = t k (omega arith) b z

    go : Dec (get_or ms j 0 ≡ 0) → choose (eqb (get_or ms j 0) 0) j (unmarked ms (j + 1) n) < j + suc n
        → (unmarked ms (j + 1) n < j + 1 + n → (get_or ms (unmarked ms (j + 1) n) 0 ≡ 0) × ((k : ℕ) → j + 1 ≤ k → k < unmarked ms (j + 1) n → get_or ms k 0 ≡ 0 → ⊥))
        → (get_or ms (choose (eqb (get_or ms j 0) 0) j (unmarked ms (j + 1) n)) 0 ≡ 0)
        × ((k : ℕ) → j ≤ k → k < choose (eqb (get_or ms j 0) 0) j (unmarked ms (j + 1) n) → get_or ms k 0 ≡ 0 → ⊥)
    go (yes e) h r = rw (eq-eqb (get_or ms j 0) 0 e) (e, λ k a b z. omega arith)
    go (no f) h r =
        let g = rw (ne_eqb (get_or ms j 0) 0 f) at h in
        let s = r (omega arith) in
        rw (ne_eqb (get_or ms j 0) 0 f) (s.0, λ k a b z. at_later (unmarked ms (j + 1) n) f s.1 k a b z (ℕ_discrete k j))

pub marked_all : (ms : List ℕ) (j n : ℕ) → unmarked ms j n ≡ j + n → (k : ℕ) → j ≤ k → k < j + n → get_or ms k 0 ≡ 0 → ⊥
unfolding unmarked choose
marked_all ms j zero h k a b z = omega arith
marked_all ms j (suc n) h k a b z = go (eqb (get_or ms j 0) 0) refl h (ℕ_discrete k j) (λ e c. marked_all ms (j + 1) n e k c (omega arith) z)
  where
    go : (t : Bool) → eqb (get_or ms j 0) 0 ≡ t → choose t j (unmarked ms (j + 1) n) ≡ j + suc n → Dec (k ≡ j) → (unmarked ms (j + 1) n ≡ j + 1 + n → j + 1 ≤ k → ⊥) → ⊥
    go true e h d r = omega arith
    go false e h (yes q) r = let y : get_or ms j 0 ≡ 0 = rw (← q) z in subst (λ (t : Bool). T t) e (eq→eqb y)
    go false e h (no q) r = r (omega arith) (omega arith)

-- ---- marks are known by their length and each of them

pub same_marks : (xs ys : List ℕ) → length xs ≡ length ys → ((k : ℕ) → get_or xs k 0 ≡ get_or ys k 0) → xs ≡ ys
same_marks [] [] l h = refl
same_marks [] (y ∷ ys) l h = absurd (omega arith)
same_marks (x ∷ xs) [] l h = absurd (omega arith)
same_marks (x ∷ xs) (y ∷ ys) l h =
    let p : x ≡ y = h 0 in
    let q = same_marks xs ys (omega arith) (λ k. h (suc k)) in
    rw (p, q)
