-- What the limits leave room for: an offset or a length of a document in the 27 bits above a field of five, and in a 32-bit word of a
-- key table.
use mathlib.Core.Path.{◌≡◌}
use Prim.Native.Nat.{ℕ, ◌+◌, ◌*◌, ◌^◌, ◌≤◌, ◌<◌}
use native.Mathlib.Omega.{arith}
use Rattle.json_model.specs.Bytes.{low_field, high_field}
use Rattle.json_model.specs.Limits.{longest}

pub field_holds : (t n : ℕ) → t < 32 → n ≤ longest → (t + 32 * n < 2 ^ 32) × (low_field 5 (t + 32 * n) ≡ t) × (high_field 5 (t + 32 * n) ≡ n)
field_holds t n s h = (omega arith, omega arith, omega arith)

pub word_holds : (n : ℕ) → n ≤ longest → n < 2 ^ 32
word_holds n h = omega arith
