-- Exact values: of a binary32 and a binary64 by the three fields of its bits, and of an integer.
-- docs/format/BINARY_JSON.md, section 6.2: a number is a sign and the whole number that 2 ^ 1074 times its absolute
-- value makes.
use Rattle.std.specs.Prelude.{ℕ, zero, suc, ◌+◌, ◌-◌, ◌*◌, ◌/◌, ◌%◌, ◌^◌, Bool, true, false, not, leb, ltb, eqb}
use Rattle.json_model.specs.Choose.{choose}
use Rattle.json_model.specs.Tree.{Tree, num}

-- the whole number that 2 ^ 1074 times the whole number n makes
abbrev pub scaled : ℕ → ℕ
scaled n = n * 2 ^ 1074

-- ---- floating point

-- A format has p digits after the leading one and w bits of exponent; its smallest positive value, times 2 ^ 1074, is
-- 2 ^ low.
pub record Float : Type 0 where
  pub p : ℕ
  pub w : ℕ
  pub low : ℕ

abbrev pub binary32 : Float
binary32 = record { p = 23; w = 8; low = 925 }

abbrev pub binary64 : Float
binary64 = record { p = 52; w = 11; low = 0 }

-- the three fields of a bit pattern, lowest first
abbrev pub fraction : Float → ℕ → ℕ
fraction f bits = bits % 2 ^ f.p

abbrev pub exponent : Float → ℕ → ℕ
exponent f bits = bits / 2 ^ f.p % 2 ^ f.w

abbrev pub negative : Float → ℕ → Bool
negative f bits = leb (2 ^ (f.p + f.w)) bits

-- an exponent of all ones stands for no number
unfoldable pub finite : Float → ℕ → Bool
finite f bits = not (eqb (exponent f bits) (2 ^ f.w - 1))

-- an exponent of 0 has no leading digit, and counts as 1
abbrev pub significand : Float → ℕ → ℕ → ℕ
significand f zero digits = digits
significand f (suc x) digits = (2 ^ f.p + digits) * 2 ^ x

unfoldable pub magnitude : Float → ℕ → ℕ
magnitude f bits = significand f (exponent f bits) (fraction f bits) * 2 ^ f.low

unfoldable pub float_tree : Float → ℕ → Tree
float_tree f bits = num (negative f bits) (magnitude f bits)

-- ---- integers

unfoldable pub whole_tree : ℕ → Tree
whole_tree n = num false (scaled n)

-- the two's complement of k bits
unfoldable pub signed_tree : ℕ → ℕ → Tree
signed_tree k n = choose (ltb n (2 ^ (k - 1))) (whole_tree n) (num true (scaled (2 ^ k - n)))
