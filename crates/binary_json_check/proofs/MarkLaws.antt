-- The loops over the marks: one law for each way through the functions of `marks`. A step takes n marks, read together
-- as one number.
use mathlib.Core.Path.{◌≡◌, refl, sym, ap, ◌∙◌}
use mathlib.Core.Bool.{Bool, true, false, not}
use mathlib.Core.Logic.{◌≢◌}
use Prim.Native.Nat.{ℕ, zero, suc, ◌+◌, ◌-◌, ◌*◌, ◌/◌, ◌≤◌, ◌<◌}
use native.Mathlib.Omega.{arith}
use borrow.Author.Rules.{rules}
use borrow.Author.Tests.{ne_eqb}
use native.Mathlib.Decide.{ℕ_discrete}
use lib.Dec.{T, ltb, eqb, ltb→lt, nltb→le}
use lib.ListN.{length, get_or, set, take, drop, length-set}
use mathlib.Core.List.{List, ◌++◌}
use borrow.Rule.Slice.PartMut.{put_mid}
use Rattle.std.specs.List.{position_or_len}
use mathlib.Core.Bool.{cond}
use mathlib.Core.List.{[], ◌∷◌}
use lib.Seq.{drop-cons}
use Rattle.std.proofs.lemmas.Float.{T_from_true}
use Rattle.std.proofs.lemmas.List.{set-append_left, set-append_right, length-drop, length-take-le, take-append-drop, take_all, drop_all, get_or-take, get_or-drop}
use mir.Syntax.{w8}
use mir.Val.{Fits}
use Rattle.json_model.specs.Bytes.{number}
use Rattle.json_model.specs.Choose.{choose}
use Rattle.binary_json_rules.specs.Marks.{clear, fill, unmarked}
use Rattle.binary_json_theorems.proofs.Marks.{fill_length, fill_before, fill_past, fill_in, clear_zero, clear_is, same_marks, unmarked_within}
use Rattle.binary_json_check.specs.Taken.{Taken, Found}
use Rattle.std.specs.Prelude.{Option, Some, None}

-- ---- marks that are 0

clear_past : (ms : List ℕ) (k n w : ℕ) → number ms k n ≡ 0 → clear ms k (n + w) ≡ clear ms (k + n) w
unfolding clear choose number
clear_past ms k zero w e = let z : k + 0 ≡ k = omega arith in let y : 0 + w ≡ w = omega arith in rw (z, y)
clear_past ms k (suc n) w e =
    let a : get_or ms k 0 ≡ 0 = omega arith in
    let b : number ms (k + 1) n ≡ 0 = omega arith in
    let c : k + suc n ≡ k + 1 + n = omega arith in
    let d : suc n + w ≡ suc (n + w) = omega arith in
    rw (d, a, c) (clear_past ms (k + 1) n w b)

clear_stops : (ms : List ℕ) (k n w : ℕ) → (number ms k n ≡ 0 → ⊥) → clear ms k (n + w) ≡ false
unfolding clear choose number
clear_stops ms k zero w f = absurd (f refl)
clear_stops ms k (suc n) w f =
    let d : suc n + w ≡ suc (n + w) = omega arith in
    rw d (go (ℕ_discrete (get_or ms k 0) 0) (λ e. clear_stops ms (k + 1) n w (λ z. f (omega arith))))
  where
    go : Dec (get_or ms k 0 ≡ 0) → (get_or ms k 0 ≡ 0 → clear ms (k + 1) (n + w) ≡ false) → choose (eqb (get_or ms k 0) 0) (clear ms (k + 1) (n + w)) false ≡ false
    go (yes e) h = rw e (h e)
    go (no g) h = rw (ne_eqb (get_or ms k 0) 0 g)

clear_later : (ms : List ℕ) (k a b : ℕ) → clear ms (k + a) b ≡ false → clear ms k (a + b) ≡ false
unfolding clear choose
clear_later ms k zero b e = let z : k + 0 ≡ k = omega arith in let y : 0 + b ≡ b = omega arith in rw y (rw z at e)
clear_later ms k (suc a) b e =
    let c : k + suc a ≡ k + 1 + a = omega arith in
    let d : suc a + b ≡ suc (a + b) = omega arith in
    rw d (go (eqb (get_or ms k 0) 0) (clear_later ms (k + 1) a b (rw c at e)))
  where
    go : (t : Bool) → clear ms (k + 1) (a + b) ≡ false → choose t (clear ms (k + 1) (a + b)) false ≡ false
    go true h = h
    go false h = refl

yes_is : (b : Bool) → T b → b ≡ true
yes_is true h = refl
yes_is false h = absurd h

-- the s marks from j on, read together, say what is left of a body whose last they are
tail_clear : (ms : List ℕ) (j s at left : ℕ) → number ms j s ≡ 0 → j ≤ at → at + left ≡ j + s → clear ms at left ≡ true
unfolding clear
tail_clear ms j s at left e a b =
    let z : s + 0 ≡ s = omega arith in
    let c : clear ms j s ≡ true = rw z at (clear_past ms j s 0 e) in
    yes_is _ (clear_is ms at left (λ i f g. clear_zero ms j s i (T_from_true _ c) (omega arith) (omega arith)))

tail_met : (ms : List ℕ) (j s n : ℕ) → (number ms j s ≡ 0 → ⊥) → j + s ≡ n → clear ms 0 n ≡ false
tail_met ms j s n f b =
    let p : 0 + j ≡ j = omega arith in
    let z : s + 0 ≡ s = omega arith in
    let c : clear ms j s ≡ false = rw z at (clear_stops ms j s 0 f) in
    rw b at (clear_later ms 0 j s (rw p c))

-- a test of a number for 0
tested : (b : Bool) (y : ℕ) → (y ≡ 0 → true ≡ b) → (y ≢ 0 → false ≡ b) → eqb y 0 ≡ b
tested b y f g = go (ℕ_discrete y 0)
  where
    go : Dec (y ≡ 0) → eqb y 0 ≡ b
    go (yes e) = rw e (f e)
    go (no n) = rw (ne_eqb y 0 n) (g n)

pub ends_are_clear : (ms : List ℕ) (k n s : ℕ) → s ≤ n → (x y : ℕ) → n ≤ 2 * s → x ≡ number ms k s → x ≡ 0 → y ≡ number ms (k + n - s) s → y ≡ 0 → true ≡ clear ms k n
ends_are_clear ms k n s a x y b e f g h =
    let q : s + (n - s) ≡ n = omega arith in
    sym (rw q at (clear_past ms k s (n - s) (sym e ∙ f)) ∙ tail_clear ms (k + n - s) s (k + s) (n - s) (sym g ∙ h) (omega arith) (omega arith))

module _ (ms : List ℕ) (s : ℕ) (a : s ≤ length ms) where
  whole : s + (length ms - s) ≡ length ms
  whole = omega arith

  pub front_met : (x : ℕ) → x ≡ number ms 0 s → x ≢ 0 → false ≡ clear ms 0 (length ms)
  front_met x e f = sym (rw whole at (clear_stops ms 0 s (length ms - s) (λ z. f (e ∙ z))))

  back_met : (y : ℕ) → y ≡ number ms (length ms - s) s → y ≢ 0 → false ≡ clear ms 0 (length ms)
  back_met y e f = sym (tail_met ms (length ms - s) s (length ms) (λ z. f (e ∙ z)) (omega arith))

  pub ends_tested : (x y : ℕ) → length ms ≤ 2 * s → x ≡ number ms 0 s → x ≡ 0 → y ≡ number ms (length ms - s) s → eqb y 0 ≡ clear ms 0 (length ms)
  ends_tested x y b e f g =
      let z : 0 + length ms - s ≡ length ms - s = omega arith in
      tested _ y (λ h. ends_are_clear ms 0 (length ms) s a x y b e f (rw z g) h) (back_met y g)

pub ruleset ends_laws = (front_met, ends_tested, rules)

-- eight at a step, and then the last eight
module _ (ms : List ℕ) (i : ℕ) (here : clear ms (8 * i) (length ms - 8 * i) ≡ clear ms 0 (length ms)) where
  module _ (b : i < length ms / 8) (x : ℕ) (e : x ≡ number ms (8 * i) 8) where
    more : 8 + (length ms - 8 * (i + 1)) ≡ length ms - 8 * i
    more = omega arith

    pub step_met : x ≢ 0 → false ≡ clear ms 0 (length ms)
    step_met f = sym (rw more at (clear_stops ms (8 * i) 8 (length ms - 8 * (i + 1)) (λ z. f (e ∙ z)))) ∙ here

    pub step_on : x ≡ 0 → clear ms (8 * (i + 1)) (length ms - 8 * (i + 1)) ≡ clear ms 0 (length ms)
    step_on z = let p : 8 * i + 8 ≡ 8 * (i + 1) = omega arith in sym (rw (more, p) at (clear_past ms (8 * i) 8 (length ms - 8 * (i + 1)) (sym e ∙ z))) ∙ here

  pub last_tested : length ms / 8 ≤ i → i ≤ length ms / 8 → 8 ≤ length ms → (y : ℕ) → y ≡ number ms (length ms - 8) 8 → eqb y 0 ≡ clear ms 0 (length ms)
  last_tested a b c y e =
      tested _ y (λ z. sym (tail_clear ms (length ms - 8) 8 (8 * i) (length ms - 8 * i) (sym e ∙ z) (omega arith) (omega arith)) ∙ here) (back_met ms 8 c y e)

pub ruleset many_laws = (step_met, step_on, last_tested, rules)

-- ---- marks set

fill_first : (ms : List ℕ) (k w v : ℕ) → 0 < w → fill (set ms k v) (k + 1) (w - 1) v ≡ fill ms k w v
unfolding fill
fill_first ms k zero v h = absurd (omega arith)
fill_first ms k (suc w) v h = let z : suc w - 1 ≡ w = omega arith in rw z

module _ (ms : List ℕ) (i n v : ℕ) (x : List ℕ) (here : fill ms i (n - i) v ≡ x) where
  pub fill_on : i < n → fill (set ms i v) (i + 1) (n - (i + 1)) v ≡ x
  fill_on h = let q : n - i - 1 ≡ n - (i + 1) = omega arith in rw q at (fill_first ms i (n - i) v (omega arith)) ∙ here

  pub fill_end : n ≤ i → ms ≡ x
  unfolding fill
  fill_end h = let q : n - i ≡ 0 = omega arith in rw q at here

-- a part of the marks, and what a call has made of it
fill_append : (xs ys : List ℕ) (n j w v : ℕ) → length xs ≡ n → fill (xs ++ ys) (n + j) w v ≡ xs ++ fill ys j w v
unfolding fill
fill_append xs ys n j zero v l = refl
fill_append xs ys n j (suc w) v l =
    let p : n + j + 1 ≡ n + (j + 1) = omega arith in
    let q : n + j - n ≡ j = omega arith in
    let e : set (xs ++ ys) (n + j) v ≡ xs ++ set ys j v = rw q at (set-append_right xs ys n (n + j) v l (omega arith)) in
    rw (e, p) (fill_append xs (set ys j v) n (j + 1) w v l)

fill_front : (xs ys : List ℕ) (j w v : ℕ) → j + w ≤ length xs → fill (xs ++ ys) j w v ≡ fill xs j w v ++ ys
unfolding fill
fill_front xs ys j zero v h = refl
fill_front xs ys j (suc w) v h =
    let e : set (xs ++ ys) j v ≡ set xs j v ++ ys = set-append_left xs ys j v (omega arith) in
    let l = length-set xs j v in
    rw e (fill_front (set xs j v) ys (j + 1) w v (omega arith))

-- a part of the marks filled, and the whole with it
pub put_fill : (ms : List ℕ) (a w v : ℕ) → a + w ≤ length ms → put_mid a w ms (fill (take w (drop a ms)) 0 w v) ≡ fill ms a w v
put_fill ms a w v h =
    let d = length-drop a ms in
    let z : a + 0 ≡ a = omega arith in
    let front = fill_front (take w (drop a ms)) (drop w (drop a ms)) 0 w v (let f = length-take-le w (drop a ms) (omega arith) in omega arith) in
    let whole = fill_append (take a ms) (drop a ms) a 0 w v (length-take-le a ms (omega arith)) in
    sym (rw (z, take-append-drop a ms) at whole ∙ ap (λ t. take a ms ++ t) (rw (take-append-drop w (drop a ms)) at front))

pub put_part : (ms : List ℕ) (a k w v : ℕ) (after : List ℕ) → k ≡ w → a + w ≤ length ms → after ≡ fill (take k (drop a ms)) 0 w v → put_mid a k ms after ≡ fill ms a w v
put_part ms a k w v after e h f = rw (f, e) (put_fill ms a w v h)

part_length : (ms : List ℕ) (a k w : ℕ) → k ≡ w → a + w ≤ length ms → length (take k (drop a ms)) ≡ w
part_length ms a k w e h = let d = length-drop a ms in length-take-le k (drop a ms) (omega arith) ∙ e

pub put_filled : (ms : List ℕ) (a k w v : ℕ) (after : List ℕ) → k ≡ w → a + w ≤ length ms → after ≡ fill (take k (drop a ms)) 0 (length (take k (drop a ms))) v → put_mid a k ms after ≡ fill ms a w v
put_filled ms a k w v after e h f = put_part ms a k w v after e h (f ∙ ap (λ n. fill (take k (drop a ms)) 0 n v) (part_length ms a k w e h))

-- a part put back as it was
pub put_same : (ms : List ℕ) (a k : ℕ) → put_mid a k ms (take k (drop a ms)) ≡ ms
put_same ms a k = ap (λ t. take a ms ++ t) (take-append-drop k (drop a ms)) ∙ take-append-drop a ms

clear_alike : (xs ys : List ℕ) (j k w : ℕ) → ((i : ℕ) → i < w → get_or xs (j + i) 0 ≡ get_or ys (k + i) 0) → clear xs j w ≡ clear ys k w
unfolding clear
clear_alike xs ys j k zero h = refl
clear_alike xs ys j k (suc w) h =
    let e : get_or xs j 0 ≡ get_or ys k 0 = let p : j + 0 ≡ j = omega arith in let q : k + 0 ≡ k = omega arith in rw (p, q) at (h 0 (omega arith)) in
    rw (e, clear_alike xs ys (j + 1) (k + 1) w (λ i b. let p : j + (i + 1) ≡ j + 1 + i = omega arith in let q : k + (i + 1) ≡ k + 1 + i = omega arith in rw (p, q) at (h (i + 1) (omega arith))))

pub clear_part : (ms : List ℕ) (a k w : ℕ) → k ≡ w → a + w ≤ length ms → clear (take k (drop a ms)) 0 (length (take k (drop a ms))) ≡ clear ms a w
clear_part ms a k w e h =
    ap (clear (take k (drop a ms)) 0) (part_length ms a k w e h) ∙ clear_alike _ ms 0 a w (λ i b. let z : 0 + i ≡ i = omega arith in rw z (get_or-take k (drop a ms) i 0 (omega arith) ∙ get_or-drop a ms i 0))

-- set from either end
fill_ends : (ms : List ℕ) (k n s : ℕ) → k + n ≤ length ms → s ≤ n → n ≤ 2 * s → fill (fill ms k s 1) (k + n - s) s 1 ≡ fill ms k n 1
fill_ends ms k n s l a b =
    let c = fill_length ms k s 1 in
    same_marks _ _ (fill_length _ (k + n - s) s 1 ∙ (c ∙ sym (fill_length ms k n 1))) (λ i. by i (ltb i k) (ltb i (k + n - s)) (ltb i (k + n)) (ltb→lt i k) (nltb→le i k) (ltb→lt i (k + n - s)) (nltb→le i (k + n - s)) (ltb→lt i (k + n)) (nltb→le i (k + n)))
  where
    by : (i : ℕ) (p q r : Bool) → (T p → i < k) → (T (not p) → k ≤ i) → (T q → i < k + n - s) → (T (not q) → k + n - s ≤ i) → (T r → i < k + n) → (T (not r) → k + n ≤ i)
        → get_or (fill (fill ms k s 1) (k + n - s) s 1) i 0 ≡ get_or (fill ms k n 1) i 0
    by i true q r x x' y y' z z' =
        let h = x tt in
        fill_before _ (k + n - s) s 1 i (omega arith) ∙ (fill_before ms k s 1 i h ∙ sym (fill_before ms k n 1 i h))
    by i false true r x x' y y' z z' =
        let h = x' tt in let g = y tt in
        fill_before _ (k + n - s) s 1 i g ∙ (fill_in ms k s 1 i (omega arith) h (omega arith) ∙ sym (fill_in ms k n 1 i l h (omega arith)))
    by i false false true x x' y y' z z' =
        let h = x' tt in let g = y' tt in let f = z tt in let c = fill_length ms k s 1 in
        fill_in _ (k + n - s) s 1 i (omega arith) g (omega arith) ∙ sym (fill_in ms k n 1 i l h f)
    by i false false false x x' y y' z z' =
        let h = z' tt in
        fill_past _ (k + n - s) s 1 i (omega arith) ∙ (fill_past ms k s 1 i (omega arith) ∙ sym (fill_past ms k n 1 i h))

-- ---- a body taken

module _ (ms : List ℕ) (free : Bool) (e : free ≡ clear ms 0 (length ms)) where
  pub taken_none : free ≡ false → Taken ms false ms
  taken_none f = (sym e ∙ f, refl)

  pub taken_whole : (after : List ℕ) → free ≡ true → after ≡ fill ms 0 (length ms) 1 → Taken ms true after
  taken_whole after f g = (sym e ∙ f, g)

  pub taken_ends : (s : ℕ) (half after : List ℕ) → free ≡ true → s ≤ length ms → length ms ≤ 2 * s → half ≡ fill ms 0 s 1
      → after ≡ fill (take (length half - (length half - s)) (drop (length half - s) half)) 0 s 1
      → Taken ms true (put_mid (length half - s) (length half - (length half - s)) half after)
  taken_ends s half after f a b h g =
      let l : length half ≡ length ms = ap length h ∙ fill_length ms 0 s 1 in
      let z : 0 + length ms - s ≡ length ms - s = omega arith in
      (sym e ∙ f, put_part half (length half - s) _ s 1 after (omega arith) (omega arith) g ∙ (ap (λ n. fill half (n - s) s 1) l ∙ (ap (λ x. fill x (length ms - s) s 1) h ∙ rw z at (fill_ends ms 0 (length ms) s (omega arith) a b))))

module _ (ms : List ℕ) where
  pub one_free : length ms ≡ 1 → get_or ms 0 0 ≡ 0 → Taken ms true (set ms 0 1)
  unfolding clear fill choose
  one_free l z = (rw (l, z), rw l)

  pub one_met : length ms ≡ 1 → get_or ms 0 0 ≢ 0 → Taken ms false ms
  unfolding clear choose
  one_met l f = (rw (l, ne_eqb (get_or ms 0 0) 0 f), refl)

pub ruleset take_laws = (taken_none, taken_whole, taken_ends, one_free, one_met, rules)

-- ---- marks that are 1

-- n marks that are 1 each, read together
abbrev ones : ℕ → ℕ
ones zero = 0
ones (suc n) = 1 + 256 * ones n

unmarked_past : (ms : List ℕ) (k n w : ℕ) → ((i : ℕ) → Fits w8 (get_or ms i 0)) → number ms k n ≡ ones n → unmarked ms k (n + w) ≡ unmarked ms (k + n) w
unfolding unmarked choose number
unmarked_past ms k zero w b e = let z : k + 0 ≡ k = omega arith in let y : 0 + w ≡ w = omega arith in rw (z, y)
unmarked_past ms k (suc n) w b e =
    let s = b k in
    let o : get_or ms k 0 ≡ 1 = omega arith in
    let r : number ms (k + 1) n ≡ ones n = omega arith in
    let c : k + suc n ≡ k + 1 + n = omega arith in
    let d : suc n + w ≡ suc (n + w) = omega arith in
    rw (d, o, c) (unmarked_past ms (k + 1) n w b r)

module _ (ms : List ℕ) (i : ℕ) (here : unmarked ms (8 * i) (length ms - 8 * i) ≡ unmarked ms 0 (length ms)) where
  pub eight_marked : ((j : ℕ) → Fits w8 (get_or ms j 0)) → i < length ms / 8 → (v : ℕ) → v ≡ number ms (8 * i) 8 → v ≡ 72_340_172_838_076_673
      → unmarked ms (8 * (i + 1)) (length ms - 8 * (i + 1)) ≡ unmarked ms 0 (length ms)
  eight_marked b h v e z =
      let p : 8 * i + 8 ≡ 8 * (i + 1) = omega arith in
      let q : 8 + (length ms - 8 * (i + 1)) ≡ length ms - 8 * i = omega arith in
      sym (rw (q, p) at (unmarked_past ms (8 * i) 8 (length ms - 8 * (i + 1)) b (sym e ∙ z))) ∙ here

  pub found_there : (r : Option ℕ) → Found ms (8 * i) r → Found ms 0 r
  found_there (Some x) f = let z : length ms - 0 ≡ length ms = omega arith in (f.0 ∙ (here ∙ ap (unmarked ms 0) (sym z)), f.1)
  found_there None f = let z : length ms - 0 ≡ length ms = omega arith in f ∙ (here ∙ ap (unmarked ms 0) (sym z))

  pub found_after : (r : Option ℕ) → length ms / 8 ≤ i → i ≤ length ms / 8 → Found ms (8 * (length ms / 8)) r → Found ms 0 r
  found_after r a b f = let p : length ms / 8 ≡ i = omega arith in found_there r (rw p at f)

unmarked_alike : (xs ys : List ℕ) (j w : ℕ) → ((i : ℕ) → i < j + w → get_or xs i 0 ≡ get_or ys i 0) → unmarked xs j w ≡ unmarked ys j w
unfolding unmarked
unmarked_alike xs ys j zero h = refl
unmarked_alike xs ys j (suc w) h = rw (h j (omega arith), unmarked_alike xs ys (j + 1) w (λ i b. h i (omega arith)))

-- the first of the first n words is that of the part that they are
pub unmarked_part : (ms : List ℕ) (n : ℕ) → n ≤ length ms → unmarked (take n ms) 0 (length (take n ms) - 0) ≡ unmarked ms 0 n
unmarked_part ms n h =
    let l = length-take-le n ms h in
    let e : length (take n ms) - 0 ≡ n = omega arith in
    ap (unmarked (take n ms) 0) e ∙ unmarked_alike (take n ms) ms 0 n (λ i b. get_or-take n ms i 0 (omega arith))

-- the first mark that is 0, as std's `position` finds it
unmarked_position : (ms : List ℕ) (k w : ℕ) → k + w ≡ length ms → unmarked ms k w ≡ k + position_or_len (λ m. eqb m 0) (drop k ms)
unfolding unmarked choose
unmarked_position ms k zero h =
    let e : drop k ms ≡ [] = drop_all k ms (omega arith) in
    rw e (omega arith)
unmarked_position ms k (suc w) h =
    let e : drop k ms ≡ get_or ms k 0 ∷ drop (suc k) ms = drop-cons ms k 0 (omega arith) in
    let q : k + 1 ≡ suc k = omega arith in
    let r = rw q at (unmarked_position ms (k + 1) w (omega arith)) in
    rw (e, q, r) (go (eqb (get_or ms k 0) 0))
  where
    go : (b : Bool) → choose b k (suc k + position_or_len (λ m. eqb m 0) (drop (suc k) ms)) ≡ k + cond (not b) (1 + position_or_len (λ m. eqb m 0) (drop (suc k) ms)) 0
    go true = omega arith
    go false = omega arith

some_tested : (p l x : ℕ) → cond (ltb p l) (Some p) None ≡ Some x → (p ≡ x) × (p < l)
some_tested p l x = go (ltb p l) (ltb→lt p l)
  where
    go : (b : Bool) → (T b → p < l) → cond b (Some p) None ≡ Some x → (p ≡ x) × (p < l)
    go true h e = (cc, h tt)
    go false h e = cc

none_tested : (p l : ℕ) → cond (ltb p l) (Some p) None ≡ None → l ≤ p
none_tested p l = go (ltb p l) (nltb→le p l)
  where
    go : (b : Bool) → (T (not b) → l ≤ p) → cond b (Some p) None ≡ None → l ≤ p
    go true h e = cc
    go false h e = h tt

module _ (ms : List ℕ) (k : ℕ) (b : k ≤ length ms) (r : Option ℕ)
    (e : r ≡ cond (ltb (position_or_len (λ m. eqb m 0) (take (length ms - k) (drop k ms))) (length (take (length ms - k) (drop k ms)))) (Some (position_or_len (λ m. eqb m 0) (take (length ms - k) (drop k ms)))) None) where
  rest : take (length ms - k) (drop k ms) ≡ drop k ms
  rest = let d = length-drop k ms in take_all _ _ (omega arith)

  tail : unmarked ms k (length ms - k) ≡ k + position_or_len (λ m. eqb m 0) (drop k ms)
  tail = unmarked_position ms k (length ms - k) (omega arith)

  pub position_found : (x : ℕ) → r ≡ Some x → Found ms k (Some (k + x))
  position_found x f =
      let h = some_tested _ _ x (rw rest at (sym e ∙ f)) in
      let d = length-drop k ms in
      let l = h.1 in
      (ap (λ m. k + m) (sym h.0) ∙ sym tail, omega arith)

  pub position_none : r ≡ None → Found ms k None
  position_none f =
      let h = none_tested _ _ (rw rest at (sym e ∙ f)) in
      let d = length-drop k ms in
      let t = tail in
      let u = unmarked_within ms k (length ms - k) in
      omega arith

pub ruleset loop_laws = (fill_on, fill_end, eight_marked, found_there, found_after, rules)
