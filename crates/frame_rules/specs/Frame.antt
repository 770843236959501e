-- One line of the bench and its answer: docs/format/BENCH.md, section 1.
use Rattle.std.specs.Prelude.{ℕ, ◌+◌, ◌-◌, ◌*◌, Bool, false, List, [], ◌∷◌, ◌++◌, ltb, eqb, length, get_or, replicate}
use Rattle.std.proofs.Math.Option.{Option, some, none}
use Rattle.json_model.specs.Choose.{choose}
use Rattle.json_model.specs.Limits.{longest_line, bench_marks, bench_keys}
use Rattle.json_model.specs.Reading.{Asked, verdict_of}
use Rattle.binary_json_rules.specs.Verdict as Binary
use Rattle.fractured_json_rules.specs.KeyList.{no_names}
use Rattle.fractured_json_rules.specs.Verdict as Fractured

-- ---- hexadecimal of either case, two characters a byte

-- what a character stands for: 0 to 9, A to F and a to f; 16 says that it is no hexadecimal character
unfoldable pub nibble : ℕ → ℕ
nibble c =
    choose (ltb c 0x30) 16
    (choose (ltb c 0x3A) (c - 0x30)
    (choose (ltb c 0x41) 16
    (choose (ltb c 0x47) (c - 0x37)
    (choose (ltb c 0x61) 16
    (choose (ltb c 0x67) (c - 0x57)
    16)))))

-- bytes in front of what a line stands for, if it stands for anything
abbrev pub before : List ℕ → Option (List ℕ) → Option (List ℕ)
before xs none = none
before xs (some ys) = some (xs ++ ys)

-- the bytes of a line; none for an odd count or any other character
unfoldable pub bytes_of : List ℕ → Option (List ℕ)
bytes_of [] = some []
bytes_of (c ∷ []) = none
bytes_of (c ∷ d ∷ line) =
    choose (ltb (nibble c) 16)
    (choose (ltb (nibble d) 16) (before ((16 * nibble c + nibble d) ∷ []) (bytes_of line)) none)
    none

-- ---- the answer of a line

pub data Answer : Type 0 where
  long : Answer
  hex : Answer
  binary : Asked (Unit {0}) → Answer
  fractured : Asked (Unit {0}) → Answer

-- a frame that starts with 46 4A is Fractured JSON, any other BinaryJson
unfoldable pub is_fractured : List ℕ → Bool
is_fractured doc = choose (eqb (get_or doc 0 0) 0x46) (eqb (get_or doc 1 0) 0x4A) false

-- BinaryJson gets a mark for each word that the tree of a frame can have; Fractured JSON gets a table of 4,096 keys,
-- and a key list without a name. What is kept of a check is its verdict.
unfoldable pub frame_of : List ℕ → Answer
frame_of doc = choose (is_fractured doc) (fractured (verdict_of (Fractured.verdict bench_keys doc no_names))) (binary (verdict_of (Binary.verdict doc (replicate bench_marks 0))))

abbrev pub answer_if : Option (List ℕ) → Answer
answer_if none = hex
answer_if (some doc) = frame_of doc

-- over 32,768 characters it is `long`, which is tested first
unfoldable pub answer_of : List ℕ → Answer
answer_of line = choose (ltb longest_line (length line)) long (answer_if (bytes_of line))
