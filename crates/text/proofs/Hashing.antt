-- One law for each way through hash.rt, and what a hash is good for: it is small, and a function of the text.
use mathlib.Core.Path.{◌≡◌, refl, sym}
use mathlib.Core.List.{List}
use Prim.Native.Nat.{ℕ, zero, suc, ◌+◌, ◌-◌, ◌*◌, ◌/◌, ◌%◌, ◌^◌, ◌<◌}
use native.Mathlib.Nat.{mod-lt}
use native.Mathlib.Omega.{arith}
use borrow.Author.Rules.{rules}
use lib.ListN.{length}
use Rattle.json_model.specs.Bytes.{number}
use Rattle.text.specs.Hash.{folded, scrambled, mixed, hash_from, hash_of}

pub scrambles : (x : ℕ) → x % 4_294_967_296 * 2_654_435_761 / 4_294_967_296 + x % 4_294_967_296 * 2_654_435_761 % 4_294_967_296 ≡ scrambled x
unfolding scrambled folded
scrambles x = refl

pub mixes : (h w a b : ℕ) → a ≡ scrambled (h + w % 4_294_967_296) → b ≡ scrambled (a + w / 4_294_967_296) → b ≡ mixed h w
unfolding mixed
mixes h w a b e f = rw e at f

pub ruleset mix_laws = (scrambles, mixes, rules)

-- ---- the loop: the hash from here on is the hash of the text

module _ (t : List ℕ) (h n k x : ℕ) (here : hash_from t h (8 * k) (n - k) ≡ x) where
  pub hash_goes_on : k < n → (w r : ℕ) → w ≡ number t (8 * k) 8 → r ≡ mixed h w → hash_from t r (8 * (k + 1)) (n - (k + 1)) ≡ x
  unfolding hash_from
  hash_goes_on l w r e f =
      let z : n - k ≡ suc (n - (k + 1)) = omega arith in
      let p : 8 * k + 8 ≡ 8 * (k + 1) = omega arith in
      rw (f, e, sym p) (rw z at here)

module _ (t : List ℕ) (h n x : ℕ) (here : hash_from t h (8 * n) (n - n) ≡ x) where
  pub hash_ends : (w r : ℕ) → w ≡ number t (8 * n) (length t - 8 * n) → r ≡ mixed h w → r % 4_294_967_296 ≡ x
  unfolding hash_from
  hash_ends w r e f = let z : n - n ≡ 0 = omega arith in rw (f, e) (rw z at here)

pub hash_begins : (t : List ℕ) → hash_from t 0 0 (length t / 8 - 0) ≡ hash_of t
unfolding hash_of
hash_begins t = let z : length t / 8 - 0 ≡ length t / 8 = omega arith in rw z

pub ruleset hash_laws = (hash_goes_on, hash_ends, hash_begins, rules)

-- ---- how large a hash is

hash_small_from : (t : List ℕ) (h i n : ℕ) → hash_from t h i n < 2 ^ 32
unfolding hash_from
hash_small_from t h i zero = mod-lt (mixed h (number t i (length t - i))) (omega arith)
hash_small_from t h i (suc n) = hash_small_from t (mixed h (number t i 8)) (i + 8) n

pub hash_small : (t : List ℕ) → hash_of t < 2 ^ 32
unfolding hash_of
hash_small t = hash_small_from t 0 0 (length t / 8)
