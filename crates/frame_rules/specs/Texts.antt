-- The bench's output: one line for each answer, and the total. docs/format/BENCH.md, section 2.
use Rattle.std.specs.Prelude.{ℕ, zero, suc, ◌+◌, ◌/◌, ◌%◌, List, [], ◌∷◌, ◌++◌, ltb}
use Prim.Native.Char.{code}
use Prim.Native.String.{String, [] as endOfText, ◌∷◌ as ◌before◌}
use Rattle.json_model.specs.Choose.{choose}
use Rattle.json_model.specs.Reading.{Asked, halt, done}
use Rattle.frame_rules.specs.Frame.{Answer, long, hex, binary, fractured}

-- the codes of a text's characters
abbrev pub ascii : String → List ℕ
ascii endOfText = []
ascii (c before s) = code c ∷ ascii s

-- the decimal digits of a number of at most k digits
unfoldable pub digits : ℕ → ℕ → List ℕ
digits zero n = []
digits (suc k) n = choose (ltb n 10) ((0x30 + n) ∷ []) (digits k (n / 10) ++ ((0x30 + n % 10) ∷ []))

-- a number below 2 ^ 64 has at most 20
unfoldable pub decimal : ℕ → List ℕ
decimal n = digits 20 n

unfoldable pub verdict_text : Asked (Unit {0}) → List ℕ
verdict_text (done u s) = ascii " ok\n"
verdict_text (halt number place s) = (ascii " no " ++ decimal number) ++ (ascii " " ++ decimal place) ++ ascii "\n"

unfoldable pub said : Answer → List ℕ
said long = ascii " long\n"
said hex = ascii " hex\n"
said (binary v) = ascii " B" ++ verdict_text v
said (fractured v) = ascii " F" ++ verdict_text v

-- the line of the n-th answer
unfoldable pub answer_text : ℕ → Answer → List ℕ
answer_text n a = decimal n ++ said a

unfoldable pub total_text : ℕ → ℕ → List ℕ
total_text frames ok = (ascii "total " ++ decimal frames) ++ (ascii " ok " ++ decimal ok) ++ ascii "\n"
