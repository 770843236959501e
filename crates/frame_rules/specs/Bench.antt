-- The bench's whole output: docs/format/BENCH.md, section 3. The program `frames` reads and writes by the block, and no
-- contract can say what a program writes; this is what its output is held to.
use Rattle.std.specs.Prelude.{ℕ, ◌+◌, List, [], ◌∷◌, ◌++◌, eqb}
use Rattle.json_model.specs.Choose.{choose}
use Rattle.json_model.specs.Reading.{Asked, halt, done}
use Rattle.frame_rules.specs.Frame.{Answer, long, hex, binary, fractured, answer_of}
use Rattle.frame_rules.specs.Texts.{ascii, answer_text, total_text}

-- a last line without LF counts if it has a character
abbrev pub last_line : List ℕ → List (List ℕ)
last_line [] = []
last_line (c ∷ line) = (c ∷ line) ∷ []

-- The lines of the input, without their LF: docs/format/BENCH.md, section 1. An empty line counts, and nothing follows
-- a final LF. `line` is what stands of the first line so far.
unfoldable pub lines_from : List ℕ → List ℕ → List (List ℕ)
lines_from line [] = last_line line
lines_from line (c ∷ input) = choose (eqb c 0x0A) (line ∷ lines_from [] input) (lines_from (line ++ (c ∷ [])) input)

abbrev pub accepted : Asked (Unit {0}) → ℕ
accepted (done u s) = 1
accepted (halt number place s) = 0

abbrev pub ok_in : Answer → ℕ
ok_in long = 0
ok_in hex = 0
ok_in (binary v) = accepted v
ok_in (fractured v) = accepted v

-- the answers of the lines, and the total; n lines stand before them, of which so many were accepted
unfoldable pub answers_from : ℕ → ℕ → List (List ℕ) → List ℕ
answers_from n ok [] = total_text n ok
answers_from n ok (line ∷ lines) = answer_text (n + 1) (answer_of line) ++ answers_from (n + 1) (ok + ok_in (answer_of line)) lines

unfoldable pub bench_text : List ℕ → List ℕ
bench_text input = ascii "frames\n" ++ answers_from 0 0 (lines_from [] input)
