-- Numbers with their bytes swapped stand in the order of the texts that they were read from, and are swapped by halves.
use mathlib.Core.Path.{◌≡◌, refl, sym}
use mathlib.Core.List.{List}
use Prim.Native.Nat.{ℕ, zero, suc, ◌+◌, ◌*◌, ◌/◌, ◌%◌, ◌^◌, ◌≤◌, ◌<◌}
use native.Mathlib.Nat.{mul-le-mul_right, pow-succ'}
use native.Mathlib.Omega.{arith}
use lib.ListN.{length, get_or}
use lib.Seq.{drop-cons}
use Rattle.json_model.specs.Bytes.{Bytes, number, part}
use Rattle.json_model.specs.Texts.{by_numbers, compare_numbers, compare_texts}
use Rattle.std.specs.declared.cmp.Ordering.{Ordering}
use Rattle.std.specs.declared.cmp.Ordering.TheVariants.{Equal}
use Rattle.json_model.proofs.Texts.{by_numbers_lem, numbers_below, numbers_equal, numbers_above}
use mir.Syntax.{w64}
use Rattle.std.specs.Int.{swap_bytes}
use Rattle.text.specs.Swapped.{swapped}

pub swapped_small : (n x : ℕ) → swapped n x < 256 ^ n
unfolding swapped
swapped_small zero x = omega arith
swapped_small (suc n) x =
    let p : 256 ^ suc n ≡ 256 * 256 ^ n = pow-succ' 256 n in
    let r = swapped_small n (x / 256) in
    let l : x % 256 < 256 = omega arith in
    let m : suc (x % 256) * 256 ^ n ≤ 256 * 256 ^ n = mul-le-mul_right (256 ^ n) l in
    omega arith

-- the higher digit decides
digit_decides : (p x y r s : ℕ) → r < p → x < y → x * p + r < y * p + s
digit_decides p x y r s h l = let m : suc x * p ≤ y * p = mul-le-mul_right p l in omega arith

-- no two numbers become one
pub swapped_one : (n x y : ℕ) → x < 256 ^ n → y < 256 ^ n → swapped n x ≡ swapped n y → x ≡ y
unfolding swapped
swapped_one zero x y hx hy e = omega arith
swapped_one (suc n) x y hx hy e =
    let p : 256 ^ suc n ≡ 256 * 256 ^ n = pow-succ' 256 n in
    let r = swapped_small n (x / 256) in
    let s = swapped_small n (y / 256) in
    by_numbers_lem (λ _. x ≡ y) (x % 256) (y % 256) Equal
    (λ l. let d = digit_decides (256 ^ n) (x % 256) (y % 256) (swapped n (x / 256)) (swapped n (y / 256)) r l in absurd (omega arith))
    (λ q. let m : x % 256 * 256 ^ n ≡ y % 256 * 256 ^ n = rw q in
    let h : x / 256 ≡ y / 256 = swapped_one n (x / 256) (y / 256) (omega arith) (omega arith) (omega arith) in
    omega arith)
    (λ g. let d = digit_decides (256 ^ n) (y % 256) (x % 256) (swapped n (y / 256)) (swapped n (x / 256)) s g in absurd (omega arith))

digits_compare : (p x y r s : ℕ) → r < p → s < p → by_numbers x y (compare_numbers r s) ≡ compare_numbers (x * p + r) (y * p + s)
digits_compare p x y r s hr hs =
    by_numbers_lem Is x y (compare_numbers r s)
    (λ l. sym ((numbers_below (x * p + r) (y * p + s)).1 (digit_decides p x y r s hr l)))
    (λ q. let m : x * p ≡ y * p = rw q in
    by_numbers_lem Is r s Equal (λ l. sym ((numbers_below (x * p + r) (y * p + s)).1 (omega arith))) (λ e. sym ((numbers_equal (x * p + r) (y * p + s)).1 (omega arith)))
    (λ g. sym ((numbers_above (x * p + r) (y * p + s)).1 (omega arith))))
    (λ g. sym ((numbers_above (x * p + r) (y * p + s)).1 (digit_decides p y x s r hs g)))
  where
    Is : Ordering → Type 0
    Is o = o ≡ compare_numbers (x * p + r) (y * p + s)

-- numbers read from two texts, with their bytes swapped, stand in the order of those bytes
pub swapped_order : (a b : List ℕ) → Bytes a → Bytes b → (n i : ℕ) → i + n ≤ length a → i + n ≤ length b
    → compare_texts (part a i n) (part b i n) ≡ compare_numbers (swapped n (number a i n)) (swapped n (number b i n))
unfolding swapped number compare_texts
swapped_order a b ga gb zero i ha hb = sym ((numbers_equal 0 0).1 refl)
swapped_order a b ga gb (suc n) i ha hb =
    let x = get_or a i 0 in
    let y = get_or b i 0 in
    let bx = ga i in
    let by = gb i in
    let u = number a (i + 1) n in
    let v = number b (i + 1) n in
    let lx : (x + 256 * u) % 256 ≡ x = omega arith in
    let ly : (y + 256 * v) % 256 ≡ y = omega arith in
    let hx : (x + 256 * u) / 256 ≡ u = omega arith in
    let hy : (y + 256 * v) / 256 ≡ v = omega arith in
    let o : suc i ≡ i + 1 = omega arith in
    rw (drop-cons a i 0 (omega arith), drop-cons b i 0 (omega arith), lx, ly, hx, hy, o, swapped_order a b ga gb n (i + 1) (omega arith) (omega arith))
    (digits_compare (256 ^ n) x y (swapped n u) (swapped n v) (swapped_small n u) (swapped_small n v))

-- ---- by std's words

pub swapped_bytes : (x : ℕ) → swap_bytes w64 x ≡ swapped 8 x
unfolding swapped
swapped_bytes x = omega arith
