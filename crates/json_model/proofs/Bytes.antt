-- Numbers out of bytes are as small as their byte count says.
use Prim.Native.Nat.{ℕ, zero, suc, ◌+◌, ◌*◌, ◌^◌, ◌<◌}
use mathlib.Core.List.{List}
use mathlib.Core.Path.{◌≡◌}
use native.Mathlib.Nat.{pow-succ'}
use native.Mathlib.Omega.{arith}
use Rattle.json_model.specs.Bytes.{Bytes, number}

pub number_small : (doc : List ℕ) → Bytes doc → (o n : ℕ) → number doc o n < 256 ^ n
unfolding number
number_small doc b o zero = omega arith
number_small doc b o (suc n) =
    let h = b o in
    let r = number_small doc b (o + 1) n in
    let e : 256 ^ suc n ≡ 256 * 256 ^ n = pow-succ' 256 n in
    omega arith
