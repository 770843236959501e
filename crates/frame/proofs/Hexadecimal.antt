-- Hexadecimal: the table of hex.rt against the rule, by one computed test over all 256 characters, and a law for each way
-- through a turn of the loop.
use mathlib.Core.Path.{◌≡◌, refl, sym, ◌∙◌, ap}
use mathlib.Core.Bool.{Bool, true, false}
use mathlib.Core.List.{List, [], ◌∷◌, ◌++◌, append-nil}
use mathlib.Core.Option.{Option, some, none}
use Prim.Native.Nat.{ℕ, suc, ◌+◌, ◌*◌, ◌/◌, ◌%◌, ◌<◌, ◌≤◌}
use native.Mathlib.Omega.{arith}
use borrow.Author.Rules.{rules}
use borrow.Author.Tests.{lt-ltb, eqb-true, eqb-false}
use lib.Dec.{T, ltb, eqb, ltb→lt, eqb→eq}
use lib.ListN.{length, get_or, take, drop, set, replicate, drop_of_length-le}
use lib.Seq.{append_snoc, drop-cons, take-suc-set}
use Rattle.json_model.specs.Choose.{choose}
use Rattle.json_model.proofs.Table.{both, split, every, at}
use Rattle.frame_rules.specs.Frame.{nibble, before, bytes_of}
use Rattle.frame.specs.Decoded.{Decoded}

-- ---- characters

abbrev pub nibbles : List ℕ
nibbles =
    replicate 48 16 ++ (0 ∷ 1 ∷ 2 ∷ 3 ∷ 4 ∷ 5 ∷ 6 ∷ 7 ∷ 8 ∷ 9
    ∷ (replicate 7 16 ++ (10 ∷ 11 ∷ 12 ∷ 13 ∷ 14 ∷ 15
    ∷ (replicate 26 16 ++ (10 ∷ 11 ∷ 12 ∷ 13 ∷ 14 ∷ 15
    ∷ replicate 153 16)))))

right : ℕ → ℕ → Bool
right c x = both (eqb x (nibble c)) (ltb x 17)

nibbles_right : T (every right 0 nibbles)
unfolding right nibble choose
nibbles_right = tt

module _ (c : ℕ) (h : c < 256) where
  checked : T (eqb (get_or nibbles c 0) (nibble c)) × T (ltb (get_or nibbles c 0) 17)
  unfolding right
  checked = split (eqb (get_or nibbles c 0) (nibble c)) (ltb (get_or nibbles c 0) 17) (at right nibbles nibbles_right c h)

  pub no_digit : 15 < get_or nibbles c 0 → nibble c ≡ 16
  no_digit h =
      let e : get_or nibbles c 0 ≡ nibble c = eqb→eq (get_or nibbles c 0) (nibble c) checked.0 in
      let s : get_or nibbles c 0 < 17 = ltb→lt (get_or nibbles c 0) 17 checked.1 in
      let l : get_or nibbles c 0 ≡ 16 = omega arith in
      sym e ∙ l

  pub a_digit : nibble c ≡ get_or nibbles c 0
  a_digit = sym (eqb→eq (get_or nibbles c 0) (nibble c) checked.0)

pub ruleset nibble_laws = (no_digit, a_digit, rules)

-- ---- two characters

module _ (c d : ℕ) where
  pub no_high : nibble c ≡ 16 → (line : List ℕ) → bytes_of (c ∷ d ∷ line) ≡ none
  unfolding bytes_of choose
  no_high n line = rw n

  module _ (high : ℕ) (ch : nibble c ≡ high) (good : high < 16) where
    pub no_low : nibble d ≡ 16 → (line : List ℕ) → bytes_of (c ∷ d ∷ line) ≡ none
    unfolding bytes_of choose
    no_low n line = rw (n, ch, lt-ltb high 16 good)

    pub a_byte : (low : ℕ) → nibble d ≡ low → low < 16 → (line : List ℕ) → bytes_of (c ∷ d ∷ line) ≡ before ((16 * high + low) ∷ []) (bytes_of line)
    unfolding bytes_of choose
    a_byte low dl fine line = rw (ch, dl, lt-ltb high 16 good, lt-ltb low 16 fine)

pub ruleset byte_laws = (no_high, no_low, a_byte, rules)

-- ---- the loop

before_before : (xs : List ℕ) (x : ℕ) (m : Option (List ℕ)) → before xs (before (x ∷ []) m) ≡ before (xs ++ (x ∷ [])) m
before_before xs x none = refl
before_before xs x (some ys) = ap some (sym (append_snoc xs x ys))

nothing_before : (m : Option (List ℕ)) → before [] m ≡ m
nothing_before none = refl
nothing_before (some ys) = refl

-- nothing is read yet
pub none_read : (line out : List ℕ) → bytes_of line ≡ before (take 0 out) (bytes_of (drop (2 * 0) line))
none_read line out = rw (nothing_before (bytes_of line))

module _ (line out : List ℕ) (i : ℕ) (in-line : i < length line / 2) where
  pair : drop (2 * i) line ≡ get_or line (2 * i) 0 ∷ get_or line (2 * i + 1) 0 ∷ drop (2 * (i + 1)) line
  pair =
      let e : suc (2 * i) ≡ 2 * i + 1 = omega arith in
      let f : suc (2 * i + 1) ≡ 2 * (i + 1) = omega arith in
      drop-cons line (2 * i) 0 (omega arith) ∙ rw e (ap (λ l. get_or line (2 * i) 0 ∷ l) (drop-cons line (2 * i + 1) 0 (omega arith) ∙ rw f))

  module _ (so_far : bytes_of line ≡ before (take i out) (bytes_of (drop (2 * i) line))) where
    pub no_byte : ((rest : List ℕ) → bytes_of (get_or line (2 * i) 0 ∷ get_or line (2 * i + 1) 0 ∷ rest) ≡ none) → bytes_of line ≡ none
    no_byte n = so_far ∙ rw (pair, n (drop (2 * (i + 1)) line))

    pub one_byte_more : (b : ℕ) → ((rest : List ℕ) → bytes_of (get_or line (2 * i) 0 ∷ get_or line (2 * i + 1) 0 ∷ rest) ≡ before (b ∷ []) (bytes_of rest)) → (out₀ : List ℕ)
        → length line ≤ 2 * length out₀ → length out ≡ length out₀ → bytes_of line ≡ before (take (i + 1) (set out i b)) (bytes_of (drop (2 * (i + 1)) line))
    one_byte_more b n out₀ room same =
        let o : i < length out = omega arith in
        let e : i + 1 ≡ suc i = omega arith in
        so_far ∙ rw (pair, n (drop (2 * (i + 1)) line)) (before_before (take i out) b (bytes_of (drop (2 * (i + 1)) line)) ∙ rw (e, take-suc-set out i b o))

module _ (line out : List ℕ) (so_far : bytes_of line ≡ before (take (length line / 2) out) (bytes_of (drop (2 * (length line / 2)) line))) where
  pub even : length line % 2 ≡ 0 → bytes_of line ≡ some (take (length line / 2) out)
  unfolding bytes_of
  even z =
      let l : length line ≤ 2 * (length line / 2) = omega arith in
      let d : drop (2 * (length line / 2)) line ≡ [] = drop_of_length-le line l in
      so_far ∙ rw d (ap some (append-nil (take (length line / 2) out)))

  pub odd : (length line % 2 ≡ 0 → ⊥) → bytes_of line ≡ none
  unfolding bytes_of
  odd z =
      let n : length line % 2 ≡ 1 = omega arith in
      let l : length line ≤ suc (2 * (length line / 2)) = omega arith in
      let d : drop (suc (2 * (length line / 2))) line ≡ [] = drop_of_length-le line l in
      so_far ∙ rw (drop-cons line (2 * (length line / 2)) 0 (omega arith), d)

  pub read : Decoded line out (eqb (length line % 2) 0)
  read = go (eqb (length line % 2) 0) refl
    where
      go : (b : Bool) → eqb (length line % 2) 0 ≡ b → Decoded line out b
      go true e = even (eqb-true (length line % 2) 0 e)
      go false e = odd (eqb-false (length line % 2) 0 e)

pub ruleset decode_laws = (none_read, no_byte, one_byte_more, read, rules)
