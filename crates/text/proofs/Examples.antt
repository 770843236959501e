-- Examples that hold the steps to what docs/format/BINARY_JSON.md, section 12, says of them, and the hash and the
-- swapped numbers to what the definitions say in words, computed from the definitions; and of what the functions of a
-- comparing say to one another, what holds and what does not.
use Prim.Native.Nat.{ℕ}
use mathlib.Core.List.{List, [], ◌∷◌, map}
use mathlib.Core.Path.{◌≡◌, refl}
use native.Mathlib.Omega.{arith}
use Rattle.json_model.specs.Bytes.{number, hex}
use Rattle.json_model.specs.Choose.{choose}
use Rattle.json_model.specs.Texts.{by_numbers, compare_texts}
use Rattle.text.specs.Comparing.{ComparesFrom, Passed}
use Rattle.text.specs.Hash.{folded, scrambled, mixed, hash_from, hash_of}
use Rattle.text.specs.Steps.{left, alike, step, steps_within, compare_steps}
use Rattle.text.specs.Swapped.{swapped}

-- no step where one text is empty; one byte at a step up to seven, then eight at a step
pub equal_steps :
    (compare_steps [] [] ≡ 0) × (compare_steps [] (hex 1 0x61) ≡ 0) × (compare_steps (hex 7 0x61626364656667) (hex 7 0x61626364656667) ≡ 7)
    × (compare_steps (hex 8 0x6162636465666768) (hex 8 0x6162636465666768) ≡ 1) × (compare_steps (hex 9 0x616263646566676869) (hex 9 0x616263646566676869) ≡ 2)
    × (compare_steps (hex 18 0x616263646566676861626364656667686162) (hex 18 0x616263646566676861626364656667686162) ≡ 4)
unfolding left alike step steps_within compare_steps choose compare_texts by_numbers
equal_steps = (refl, refl, refl, refl, refl, refl)

-- through the first step that differs: its byte may be the first or the last of eight, and is counted by itself among the bytes left over
pub unlike_steps :
    (compare_steps (hex 8 0x6162636465666768) (hex 8 0x7162636465666768) ≡ 1) × (compare_steps (hex 8 0x6162636465666768) (hex 8 0x6162636465666778) ≡ 1)
    × (compare_steps (hex 9 0x616263646566676869) (hex 9 0x616263646566676879) ≡ 2) × (compare_steps (hex 3 0x616263) (hex 3 0x617263) ≡ 2)
    × (compare_steps (hex 10 0x61626364656667686162) (hex 10 0x61626364656667786162) ≡ 1) × (compare_steps (hex 10 0x61006364656667686100) (hex 10 0x61006364656667686162) ≡ 3)
unfolding left alike step steps_within compare_steps choose compare_texts by_numbers
unlike_steps = (refl, refl, refl, refl, refl, refl)

-- eight must be left in both
pub prefix_steps :
    (compare_steps (hex 7 0x61626364656667) (hex 16 0x61626364656667686162636465666768) ≡ 7) × (compare_steps (hex 9 0x616263646566676861) (hex 7 0x61626364656667) ≡ 7)
    × (compare_steps (hex 8 0x6162636465666768) (hex 9 0x616263646566676861) ≡ 1) × (compare_steps (hex 15 0x616263646566676861626364656667) (hex 16 0x61626364656667686162636465666768) ≡ 8)
unfolding left alike step steps_within compare_steps choose compare_texts by_numbers
prefix_steps = (refl, refl, refl, refl)

-- ---- the hash

-- the halves of 32 bits; the product with 2,654,435,761; four bytes and then four more
pub halves_added : map folded (0 ∷ 1 ∷ 0xFFFFFFFF ∷ 0x100000000 ∷ 0x200000005 ∷ 0xFFFFFFFF00000007 ∷ 0xFFFFFFFFFFFFFFFF ∷ []) ≡ 0 ∷ 1 ∷ 4_294_967_295 ∷ 1 ∷ 7 ∷ 4_294_967_302 ∷ 8_589_934_590 ∷ []
unfolding folded
halves_added = refl

pub scrambled_are : map scrambled (0 ∷ 1 ∷ 2 ∷ 0xFFFFFFFF ∷ 0x100000000 ∷ 0x100000001 ∷ []) ≡ 0 ∷ 2_654_435_761 ∷ 1_013_904_227 ∷ 4_294_967_295 ∷ 0 ∷ 2_654_435_761 ∷ []
unfolding scrambled folded
scrambled_are = refl

pub mixed_are :
    mixed 0 0 ∷ mixed 1 0 ∷ mixed 0 1 ∷ mixed 0 0x100000000 ∷ mixed 7 0x0000000500000003 ∷ mixed 3 0xFFFFFFFF00000000 ∷ mixed 0x1FFFFFFFE 0xFFFFFFFFFFFFFFFF ∷ []
    ≡ 0 ∷ 5_933_847_196 ∷ 5_933_847_196 ∷ 2_654_435_761 ∷ 3_891_174_045 ∷ 6_557_171_237 ∷ 2_657_739_027 ∷ []
unfolding mixed scrambled folded
mixed_are = refl

-- of the empty text, a zero byte, "a", "b", "abc", "abcdefg", "abcdefgh", "abcdefghi", "abcdefghabcdefghab" and sixteen bytes FF
pub hashes_are :
    map hash_of ([] ∷ hex 1 0x00 ∷ hex 1 0x61 ∷ hex 1 0x62 ∷ hex 3 0x616263 ∷ hex 7 0x61626364656667 ∷ hex 8 0x6162636465666768 ∷ hex 9 0x616263646566676869
    ∷ hex 18 0x616263646566676861626364656667686162 ∷ hex 16 0xFFFFFFFFFFFFFFFFFFFFFFFFFFFFFFFF ∷ [])
    ≡ 0 ∷ 0 ∷ 57_560_481 ∷ 1_696_440_383 ∷ 334_189_523 ∷ 183_124_104 ∷ 2_596_732_357 ∷ 2_880_430_162 ∷ 155_279_459 ∷ 1_566_258_700 ∷ []
unfolding hash_of hash_from mixed scrambled folded number
hashes_are = refl

-- ---- swapped numbers

pub swapped_are :
    swapped 0 0x12 ∷ swapped 1 0x12 ∷ swapped 2 0x1234 ∷ swapped 4 0x12345678 ∷ swapped 8 0x0102030405060708 ∷ swapped 8 0xFF00000000000080 ∷ swapped 2 0x123456 ∷ []
    ≡ 0 ∷ 0x12 ∷ 0x3412 ∷ 0x78563412 ∷ 0x0807060504030201 ∷ 0x80000000000000FF ∷ 0x5634 ∷ []
unfolding swapped
swapped_are = refl

-- ---- what the functions of a comparing say

-- "abcdefgh" and "abcdefghi"; "bbbbbbbba" and "aaaaaaaab", whose last bytes stand the other way round
abbrev eight : List ℕ
eight = hex 8 0x6162636465666768

abbrev nine : List ℕ
nine = hex 9 0x616263646566676869

abbrev falling : List ℕ
falling = hex 9 0x626262626262626261

abbrev rising : List ℕ
rising = hex 9 0x616161616161616162

-- place 8 of two equal texts of nine is reached after one step, and not after none or two; the rest of two texts may stand the other way round
pub reached :
    ComparesFrom nine nine 8 1 × ComparesFrom nine nine 0 0 × (ComparesFrom nine nine 8 0 → ⊥) × (ComparesFrom nine nine 8 2 → ⊥) × (ComparesFrom falling rising 8 0 → ⊥)
unfolding ComparesFrom left alike step steps_within compare_steps choose compare_texts by_numbers
reached = (
  (refl, refl),
  (refl, refl),
  (λ h. let e = h.1 in omega arith),
  (λ h. let e = h.1 in omega arith),
  (λ h. let o = h.0 in let e : ◌≡◌ {A = ℕ} 0 1 = cc in omega arith),
)

-- steps of eight stop where fewer than eight bytes are left in one text, or where the next eight differ, though only in the last of them
pub passed_by :
    Passed nine nine 8 × Passed (hex 7 0x61626364656667) (hex 7 0x61626364656667) 0 × Passed eight (hex 8 0x6162636465666769) 0 × Passed (hex 8 0x6162636465666769) eight 0 × Passed eight eight 7
    × (Passed eight eight 0 → ⊥) × (Passed nine nine 0 → ⊥) × (Passed falling rising 8 → ⊥)
unfolding Passed ComparesFrom number left alike step steps_within compare_steps choose compare_texts by_numbers
passed_by = (
  ((λ h e. omega arith), (refl, refl)),
  ((λ h e. omega arith), (refl, refl)),
  ((λ h e. omega arith), (refl, refl)),
  ((λ h e. omega arith), (refl, refl)),
  ((λ h e. omega arith), (refl, refl)),
  (λ p. p.0 (omega arith) refl),
  (λ p. p.0 (omega arith) refl),
  (λ p. let o = p.1.0 in let e : ◌≡◌ {A = ℕ} 0 1 = cc in omega arith),
)
