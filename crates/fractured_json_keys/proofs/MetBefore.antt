-- The texts of the lent key table: one law for each way through `scan`.
use mathlib.Core.Path.{◌≡◌, refl, ap, ◌∙◌}
use mathlib.Core.Bool.{Bool, true, false}
use mathlib.Core.List.{List, [], ◌∷◌}
use Prim.Native.Nat.{ℕ, zero, suc, ◌+◌, ◌-◌, ◌*◌, ◌/◌, ◌≤◌, ◌<◌, min}
use native.Mathlib.Omega.{arith}
use borrow.Author.Rules.{rules}
use lib.ListN.{length, get_or, take}
use lib.Seq.{length-take-le}
use Rattle.std.specs.Simd.{first_chunks}
use Rattle.std.proofs.lemmas.List.{get_or-take}
use Rattle.json_model.specs.Bytes.{part}
use Rattle.json_model.specs.Choose.{choose}
use Rattle.json_model.specs.Texts.{compare_texts, is_equal}
use Rattle.fractured_json_rules.specs.KeyList.{met}
use Rattle.fractured_json_keys.specs.Passed.{keys_from, keys_in}

-- ---- the pairs of the words

pair_start : (k : ℕ) (words : List ℕ) (j : ℕ) → j < k → get_or (get_or (first_chunks 2 k words) j []) 0 0 ≡ get_or words (2 * j) 0
pair_start zero words j h = absurd (omega arith)
pair_start (suc k) [] zero h = refl
pair_start (suc k) (a ∷ words) zero h = refl
pair_start (suc k) [] (suc j) h = pair_start k [] j (omega arith)
pair_start (suc k) (a ∷ []) (suc j) h = let e : 2 * suc j ≡ suc (suc (2 * j)) = omega arith in rw e (pair_start k [] j (omega arith))
pair_start (suc k) (a ∷ b ∷ words) (suc j) h = let e : 2 * suc j ≡ suc (suc (2 * j)) = omega arith in rw e (pair_start k words j (omega arith))

pair_len : (k : ℕ) (words : List ℕ) (j : ℕ) → j < k → get_or (get_or (first_chunks 2 k words) j []) 1 0 ≡ get_or words (2 * j + 1) 0
pair_len zero words j h = absurd (omega arith)
pair_len (suc k) [] zero h = refl
pair_len (suc k) (a ∷ []) zero h = refl
pair_len (suc k) (a ∷ b ∷ words) zero h = refl
pair_len (suc k) [] (suc j) h = pair_len k [] j (omega arith)
pair_len (suc k) (a ∷ []) (suc j) h = let e : 2 * suc j + 1 ≡ suc (suc (2 * j + 1)) = omega arith in rw e (pair_len k [] j (omega arith))
pair_len (suc k) (a ∷ b ∷ words) (suc j) h = let e : 2 * suc j + 1 ≡ suc (suc (2 * j + 1)) = omega arith in rw e (pair_len k words j (omega arith))

-- ---- the keys of the table

-- what is found from key j on decides, where n pairs are looked at
module _ (doc t words : List ℕ) (count j : ℕ) (here : met doc t (keys_from words j (min count (length words / 2) - j)) ≡ met doc t (keys_in words count)) (pairs : List (List ℕ))
    (front : pairs ≡ first_chunks 2 (length words / 2) words) (long : length pairs ≡ length words / 2) (n : ℕ) (ns : n ≡ min count (length pairs)) where
  bound : n ≡ min count (length words / 2)
  bound = rw long at ns

  ended : length (take n pairs) ≡ n
  ended = length-take-le n pairs (omega arith)

  pub none_left : length (take n pairs) ≤ j → false ≡ met doc t (keys_in words count)
  unfolding keys_from met
  none_left h = let b = bound in let e = ended in let z : min count (length words / 2) - j ≡ 0 = omega arith in rw z at here

  module _ (h : j < length (take n pairs)) (x : List ℕ) (xs : x ≡ part doc (get_or (get_or (take n pairs) j []) 0 0) (get_or (get_or (take n pairs) j []) 1 0))
      (b : Bool) (bs : b ≡ is_equal (compare_texts x t)) where
    inside : j < n
    inside = let e = ended in omega arith

    held : j < length words / 2
    held = let e = bound in let i = inside in omega arith

    pair_is : get_or (take n pairs) j [] ≡ get_or (first_chunks 2 (length words / 2) words) j []
    pair_is = get_or-take n pairs j [] inside ∙ ap (λ ps. get_or ps j []) front

    text_is : x ≡ part doc (get_or words (2 * j) 0) (get_or words (2 * j + 1) 0)
    text_is = xs ∙ rw (pair_is, pair_start (length words / 2) words j held, pair_len (length words / 2) words j held)

    one_more : choose b true (met doc t (keys_from words (j + 1) (min count (length words / 2) - (j + 1)))) ≡ met doc t (keys_in words count)
    unfolding keys_from met
    one_more =
        let e = bound in
        let i = inside in
        let z : min count (length words / 2) - j ≡ suc (min count (length words / 2) - (j + 1)) = omega arith in
        rw (bs, text_is) (rw z at here)

    pub met_here : b ≡ true → true ≡ met doc t (keys_in words count)
    unfolding choose
    met_here e = rw e at one_more

    pub met_later : b ≡ false → met doc t (keys_from words (j + 1) (min count (length words / 2) - (j + 1))) ≡ met doc t (keys_in words count)
    unfolding choose
    met_later e = rw e at one_more

pub ruleset met_laws = (none_left, met_here, met_later, rules)
