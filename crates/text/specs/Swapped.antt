-- The n lowest bytes of a number in the other order: the lowest becomes the highest.
use Rattle.std.specs.Prelude.{ℕ, zero, suc, ◌+◌, ◌*◌, ◌/◌, ◌%◌, ◌^◌}

unfoldable pub swapped : ℕ → ℕ → ℕ
swapped zero x = 0
swapped (suc n) x = x % 256 * 256 ^ n + swapped n (x / 256)
