-- What two characters are decoded to, and what decoding a line leaves in the bytes lent.
use Rattle.std.specs.Prelude.{ℕ, ◌/◌, ◌<◌, Bool, true, false, Option, Some, None, List, [], ◌∷◌, ◌≡◌, length, take}
use Rattle.std.proofs.Math.Option.{some, none}
use Rattle.frame_rules.specs.Frame.{nibble, before, bytes_of}

-- one character, if it is hexadecimal
abbrev pub Nibble : ℕ → Option ℕ → Type 0
Nibble c (Some x) = (nibble c ≡ x) × (x < 16)
Nibble c None = nibble c ≡ 16

-- two characters before the rest of a line
abbrev pub Byte : ℕ → ℕ → Option ℕ → Type 0
Byte c d (Some b) = (b < 256) × ((line : List ℕ) → bytes_of (c ∷ d ∷ line) ≡ before (b ∷ []) (bytes_of line))
Byte c d None = (line : List ℕ) → bytes_of (c ∷ d ∷ line) ≡ none

abbrev pub Decoded : List ℕ → List ℕ → Bool → Type 0
Decoded line out true = bytes_of line ≡ some (take (length line / 2) out)
Decoded line out false = bytes_of line ≡ none
