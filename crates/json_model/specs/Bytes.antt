-- Numbers and texts out of bytes: docs/format/BINARY_JSON.md, section 1. Little endian, and a word with two fields
-- keeps the lower field in its lowest bits.
use Rattle.std.specs.Prelude.{ℕ, zero, suc, ◌+◌, ◌*◌, ◌^◌, ◌/◌, ◌%◌, ◌<◌, List, [], ◌∷◌, get_or, take, drop}

-- a document: each item is a byte
abbrev pub Bytes : List ℕ → Type 0
Bytes doc = (i : ℕ) → get_or doc i 0 < 256

-- the number that the n bytes from o make, lowest byte first
unfoldable pub number : List ℕ → ℕ → ℕ → ℕ
number doc o zero = 0
number doc o (suc n) = get_or doc o 0 + 256 * number doc (o + 1) n

-- the field in the lowest k bits of a word, and the field above it
abbrev pub low_field : ℕ → ℕ → ℕ
low_field k w = w % 2 ^ k

abbrev pub high_field : ℕ → ℕ → ℕ
high_field k w = w / 2 ^ k

-- the n bytes from o
abbrev pub part : List ℕ → ℕ → ℕ → List ℕ
part doc o n = take n (drop o doc)

-- the n bytes of the number x, highest first: `hex 3 0x464A01` is 0x46, 0x4A, 0x01. Examples are written so
abbrev pub hex : ℕ → ℕ → List ℕ
hex zero x = []
hex (suc n) x = x / 256 ^ n % 256 ∷ hex n x
