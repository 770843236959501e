-- Laws of integers out of bytes, over the byte count, and of a word's fields, over the field width.
use mathlib.Core.Path.{◌≡◌, refl, sym, ◌∙◌}
use mathlib.Core.List.{List, [], ◌∷◌}
use Prim.Native.Nat.{ℕ, zero, suc, ◌+◌, ◌-◌, ◌*◌, ◌%◌, ◌^◌, ◌≤◌, ◌<◌}
use native.Mathlib.Nat.{mul_left_comm, mul-le-mul_right, mod-eq_of_lt, one-le-pow, pow-le-pow_right, pow-succ', le_refl, add-zero}
use native.Mathlib.Omega.{arith}
use borrow.Author.Rules.{rules}
use lib.Pow.{pow-add}
use lib.Bits.{bit_and, and_mask}
use mir.Syntax.{w8, w16, w32, w64}
use mir.Val.{Fits}
use lib.ListN.{length, get_or, take, drop, length-drop}
use lib.Seq.{get_or-take, get_or-drop, length-take-le, take_all}
use Rattle.std.specs.Int.{from_le_bytes}
use Rattle.json_model.specs.Bytes.{Bytes, number, low_field}
use Rattle.json_model.proofs.Bytes.{number_small}

-- ---- integers

-- no byte, and one byte more at the end
pub number_none : (s : List ℕ) (at : ℕ) → 0 ≡ number s at 0
unfolding number
number_none s at = refl

number_last : (s : List ℕ) (at k : ℕ) → number s at (suc k) ≡ number s at k + get_or s (at + k) 0 * 256 ^ k
unfolding number
number_last s at zero = let e : at + 0 ≡ at = add-zero at in rw e (omega arith)
number_last s at (suc k) =
    let e : at + 1 + k ≡ at + suc k = omega arith in
    let p : 256 ^ suc k ≡ 256 * 256 ^ k = pow-succ' 256 k in
    let x = get_or s (at + suc k) 0 in
    let r : number s (at + 1) (suc k) ≡ number s (at + 1) k + x * 256 ^ k = rw e at (number_last s (at + 1) k) in
    let m : x * (256 * 256 ^ k) ≡ 256 * (x * 256 ^ k) = mul_left_comm x 256 (256 ^ k) in
    rw (r, p, m) (omega arith)

-- at most m bytes make a number below 256 ^ m
pub number_below : (m : ℕ) (s : List ℕ) (at n : ℕ) → n ≤ m → Bytes s → number s at n < 256 ^ m
number_below m s at n h b =
    let l : 256 ^ n ≤ 256 ^ m = pow-le-pow_right (omega arith) h in
    let r = number_small s b at n in
    omega arith

-- shifting by k bytes
bytes_shift : (k : ℕ) → 2 ^ (8 * k) ≡ 256 ^ k
bytes_shift zero = refl
bytes_shift (suc k) =
    let e : 8 * suc k ≡ 8 + 8 * k = omega arith in
    rw (e, pow-add 2 8 (8 * k), bytes_shift k) (sym (pow-succ' 256 k))

module _ (x k r : ℕ) (b : x < 256) (h : k < 8) (e : r ≡ x) where
  above_small : suc x * 256 ^ k ≤ 256 ^ suc k
  above_small = rw (pow-succ' 256 k) (mul-le-mul_right (256 ^ k) b)

  pub byte_above : r * 2 ^ (8 * k) % 18_446_744_073_709_551_616 ≡ x * 256 ^ k
  byte_above =
      let l : 256 ^ suc k ≤ 256 ^ 8 = pow-le-pow_right (omega arith) h in
      let o : 1 ≤ 256 ^ k = one-le-pow k 256 (omega arith) in
      let m = above_small in
      rw (e, bytes_shift k) (mod-eq_of_lt (omega arith))

  pub byte_above_fits : (value : ℕ) → value < 256 ^ k → Fits w64 (value + r * 2 ^ (8 * k) % 18_446_744_073_709_551_616)
  byte_above_fits value v =
      let l : 256 ^ suc k ≤ 256 ^ 8 = pow-le-pow_right (omega arith) h in
      let m = above_small in
      record { fits = rw byte_above (omega arith) }

pub ruleset byte_laws = (byte_above, byte_above_fits, rules)

module _ (s : List ℕ) (at n k value : ℕ) (e : value ≡ number s at k) where
  pub so_far_small : ((i : ℕ) → Fits w8 (get_or s i 0)) → value < 256 ^ k
  so_far_small g = rw e (number_below k s at k (omega arith) (λ i. (g i).fits))

  module _ (inside : at + n ≤ length s) where
    part_length : length (take (at + n - at) (drop at s)) ≡ n
    part_length =
        let d = length-drop at s in
        length-take-le (at + n - at) (drop at s) (omega arith) ∙ omega arith

    module _ (l : k < length (take (at + n - at) (drop at s))) where
      pub below_eight : n ≤ 8 → k < 8
      below_eight h = let m = part_length in omega arith

      pub next_read : (r : ℕ) → r ≡ value + get_or (take (at + n - at) (drop at s)) k 0 * 256 ^ k → r ≡ number s at (k + 1)
      next_read r f =
          let m = part_length in
          let o : k + 1 ≡ suc k = omega arith in
          rw (get_or-take (at + n - at) (drop at s) k 0 (omega arith), get_or-drop at s k 0, e) at f ∙ rw o (sym (number_last s at k))

    pub all_read : k ≤ length (take (at + n - at) (drop at s)) → length (take (at + n - at) (drop at s)) ≤ k → value ≡ number s at n
    all_read l m = let h = part_length in let o : n ≡ k = omega arith in rw o e

pub ruleset integer_laws = (number_none, so_far_small, below_eight, next_read, all_read, rules)

-- read from the part that begins at a place
number_dropped : (s : List ℕ) (at o n : ℕ) → number (drop at s) o n ≡ number s (at + o) n
unfolding number
number_dropped s at o zero = refl
number_dropped s at o (suc n) =
    let e : at + (o + 1) ≡ at + o + 1 = omega arith in
    rw (get_or-drop at s o 0, number_dropped s at (o + 1) n, e)

pub number_part : (s : List ℕ) (at n : ℕ) → number (take (length s - at) (drop at s)) 0 n ≡ number s at n
number_part s at n = rw (take_all (length s - at) (drop at s) (rw (length-drop at s) (le_refl (length s - at)))) (number_dropped s at 0 n ∙ rw add-zero)

-- ---- fields

-- one shifted by k, less one, is the mask of the lowest k bits
pub one_shifted : (k : ℕ) → k < 32 → 1 * 2 ^ k % 4_294_967_296 ≡ 2 ^ k
one_shifted k h =
    let e : 1 * 2 ^ k ≡ 2 ^ k = omega arith in
    let l : 2 ^ suc k ≤ 2 ^ 32 = pow-le-pow_right (omega arith) h in
    let d : 2 ^ suc k ≡ 2 * 2 ^ k = pow-succ' 2 k in
    let p : 1 ≤ 2 ^ k = one-le-pow k 2 (omega arith) in
    rw e (mod-eq_of_lt (omega arith))

pub masked : (w k : ℕ) → k < 32 → bit_and w (1 * 2 ^ k % 4_294_967_296 - 1) ≡ low_field k w
masked w k h = rw (one_shifted k h) (and_mask w k)

-- ---- by std's words

module _ (s : List ℕ) (at : ℕ) where
  pub one_byte : get_or s at 0 ≡ number s at 1
  unfolding number
  one_byte = omega arith

  pub two_bytes : from_le_bytes w16 (get_or s at 0 ∷ get_or s (at + 1) 0 ∷ []) ≡ number s at 2
  two_bytes = omega (arith, one_byte, number_last s at 1)

  pub four_bytes : from_le_bytes w32 (get_or s at 0 ∷ get_or s (at + 1) 0 ∷ get_or s (at + 2) 0 ∷ get_or s (at + 3) 0 ∷ []) ≡ number s at 4
  four_bytes = omega (arith, one_byte, number_last s at 1, number_last s at 2, number_last s at 3)

pub eight_bytes : (s : List ℕ)
    → from_le_bytes w64 (get_or s 0 0 ∷ get_or s 1 0 ∷ get_or s 2 0 ∷ get_or s 3 0 ∷ get_or s 4 0 ∷ get_or s 5 0 ∷ get_or s 6 0 ∷ get_or s 7 0 ∷ []) ≡ number s 0 8
eight_bytes s =
    omega (arith, one_byte s 0, number_last s 0 1, number_last s 0 2, number_last s 0 3, number_last s 0 4, number_last s 0 5, number_last s 0 6, number_last s 0 7)

pub eight_at : (s : List ℕ) (at : ℕ) → number (take (length s - at) (drop at s)) 0 8 ≡ number s at 8
eight_at s at = number_part s at 8

pub ruleset width_laws = (one_byte, two_bytes, four_bytes, eight_bytes, eight_at, rules)
