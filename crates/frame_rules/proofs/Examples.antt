-- The bench's output by the definitions: the example of docs/format/BENCH.md, section 3, and what section 1 says of
-- lines. Then each definition by itself: characters, bytes, which format, lines, digits and texts.
use Prim.Native.Nat.{ℕ, zero, suc, ◌+◌, ◌*◌, ◌≤◌}
use mathlib.Core.Bool.{true, false}
use mathlib.Core.List.{List, [], ◌∷◌, ◌++◌, map, append-nil, append_assoc}
use mathlib.Core.Option.{some, none}
use mathlib.Core.Path.{◌≡◌, refl, ap, ◌∙◌}
use native.Mathlib.Omega.{arith}
use lib.ListN.{length, replicate}
use Rattle.json_model.specs.Bytes.{number}
use Rattle.json_model.specs.Choose.{choose}
use Rattle.json_model.specs.Limits.{longest_line, bench_marks}
use Rattle.json_model.specs.Number.{finite}
use Rattle.json_model.specs.Reading.{follow, ◌>>=◌, need, answers, refuses}
use Rattle.json_model.specs.Texts.{by_numbers, compare_texts}
use Rattle.binary_json_rules.specs.Areas as B
use Rattle.binary_json_rules.specs.Marks as BM
use Rattle.binary_json_rules.specs.Verdict as BV
use Rattle.fractured_json_rules.specs.ByteTables as F
use Rattle.fractured_json_rules.specs.KeyList as FL
use Rattle.fractured_json_rules.specs.Verdict as FV
use Rattle.json_model.specs.Bytes as Bytes
use Rattle.frame_rules.specs.Frame.{nibble, bytes_of, long, hex, binary, fractured, is_fractured, frame_of, answer_of}
use Rattle.frame_rules.specs.Texts.{ascii, digits, decimal, verdict_text, said, answer_text, total_text}
use Rattle.frame_rules.specs.Bench.{lines_from, ok_in, answers_from, bench_text}

pub bench_says :
    map (λ input. bench_text (ascii input))
    ("010100000000000000000000\n464A016F046102\n020100000000000000000000\n0Z\n" ∷ "" ∷ "\n" ∷ "\n\n" ∷ "00\r\n" ∷ "\r\n464a0100" ∷ "46\n464A\n464A01\n4a46" ∷ [])
    ≡ map ascii
    ("frames\n1 B ok\n2 F ok\n3 B no 3 0\n4 hex\ntotal 4 ok 2\n"
    ∷ "frames\ntotal 0 ok 0\n"
    ∷ "frames\n1 B no 1 0\ntotal 1 ok 0\n"
    ∷ "frames\n1 B no 1 0\n2 B no 1 0\ntotal 2 ok 0\n"
    ∷ "frames\n1 hex\ntotal 1 ok 0\n"
    ∷ "frames\n1 hex\n2 F ok\ntotal 2 ok 1\n"
    ∷ "frames\n1 B no 1 1\n2 F no 31 2\n3 F no 31 3\n4 B no 1 2\ntotal 4 ok 0\n"
    ∷ [])
unfolding follow ◌>>=◌ need choose number finite by_numbers compare_texts B.index B.count B.slot B.text B.content B.numbers B.kind_of B.type_of BV.header BV.ascends BV.slot_rules BV.slots BV.slot_named BV.number_named BV.key_entries BV.entry_by BV.entry BV.entries BV.mark_body BV.container_by BV.container BV.scalar BV.root_by BV.lent BV.all_marked BV.check BM.words BM.clear BM.fill BM.unmarked F.form_of F.key_form_of FV.header FV.byte_at FV.payload FV.length_at FV.text_at FV.after_second FV.after_first FV.key_number_at FV.in_turn FV.member FV.value_by FV.value FV.key_by FL.met FL.names_from FL.key_list FV.new_key FV.old_key FV.listed_key FV.check_key FV.document FV.check nibble bytes_of is_fractured frame_of answer_of digits decimal verdict_text said answer_text total_text lines_from answers_from bench_text
bench_says = refl

-- ---- characters and bytes

-- n numbers from a on
abbrev up_from : ℕ → ℕ → List ℕ
up_from a zero = []
up_from a (suc n) = a ∷ up_from (suc a) n

-- each of the 256 characters: 0 to 9 from 0x30 on, 10 to 15 from 0x41 and from 0x61 on, and no other stands for anything
pub characters_are :
    map nibble (up_from 0 256)
    ≡ replicate 48 16 ++ (up_from 0 10 ++ (replicate 7 16 ++ (up_from 10 6 ++ (replicate 26 16 ++ (up_from 10 6 ++ replicate 153 16)))))
unfolding nibble choose
characters_are = refl

-- two characters a byte, the higher four bits first, of either case; an odd count, a bad first and a bad second character of a pair
pub lines_read :
    map (λ line. bytes_of (ascii line)) ("" ∷ "00" ∷ "F0" ∷ "0F" ∷ "ff" ∷ "9aA9" ∷ "464A01" ∷ "0" ∷ "00F" ∷ "G0" ∷ "0G" ∷ "/0" ∷ "0/" ∷ "00g0" ∷ "000g" ∷ " 00" ∷ "00 " ∷ "0x" ∷ [])
    ≡ some [] ∷ some (0x00 ∷ []) ∷ some (0xF0 ∷ []) ∷ some (0x0F ∷ []) ∷ some (0xFF ∷ []) ∷ some (0x9A ∷ 0xA9 ∷ []) ∷ some (0x46 ∷ 0x4A ∷ 0x01 ∷ []) ∷ none ∷ none ∷ none ∷ none ∷ none ∷ none ∷ none
    ∷ none ∷ none ∷ none ∷ none ∷ []
unfolding bytes_of nibble choose
lines_read = refl

-- 46 and then 4A, at the very start
pub formats_are :
    map is_fractured
    (Bytes.hex 2 0x464A ∷ Bytes.hex 3 0x464A01 ∷ [] ∷ Bytes.hex 1 0x46 ∷ Bytes.hex 1 0x4A ∷ Bytes.hex 2 0x454A ∷ Bytes.hex 2 0x474A ∷ Bytes.hex 2 0x4649 ∷ Bytes.hex 2 0x464B
    ∷ Bytes.hex 2 0x4A46 ∷ Bytes.hex 2 0x4646 ∷ Bytes.hex 2 0x4A4A ∷ Bytes.hex 3 0x46004A ∷ Bytes.hex 3 0x00464A ∷ Bytes.hex 2 0x0101 ∷ [])
    ≡ true ∷ true ∷ false ∷ false ∷ false ∷ false ∷ false ∷ false ∷ false ∷ false ∷ false ∷ false ∷ false ∷ false ∷ false ∷ []
unfolding is_fractured choose
formats_are = refl

-- 32,768 characters are not too many, and one more is; too long is said before a bad character
pub long_lines : (answer_of (replicate 32_768 0x5A) ≡ hex) × (answer_of (replicate 32_769 0x5A) ≡ long) × (answer_of (replicate 32_769 0x30) ≡ long)
unfolding answer_of bytes_of nibble choose
long_lines = (refl, refl, refl)

-- ---- lines

-- LF alone ends a line, and no other character, below or above it; a last line without it counts if it has a character
pub lines_are :
    map (lines_from [])
    ([] ∷ (0x0A ∷ []) ∷ (0x30 ∷ []) ∷ (0x30 ∷ 0x0A ∷ []) ∷ (0x30 ∷ 0x0A ∷ 0x31 ∷ []) ∷ (0x0A ∷ 0x0A ∷ []) ∷ (0x00 ∷ 0x09 ∷ 0x0B ∷ 0x0D ∷ 0xFF ∷ 0x0A ∷ 0x09 ∷ []) ∷ [])
    ≡ [] ∷ ([] ∷ []) ∷ ((0x30 ∷ []) ∷ []) ∷ ((0x30 ∷ []) ∷ []) ∷ ((0x30 ∷ []) ∷ (0x31 ∷ []) ∷ []) ∷ ([] ∷ [] ∷ []) ∷ ((0x00 ∷ 0x09 ∷ 0x0B ∷ 0x0D ∷ 0xFF ∷ []) ∷ (0x09 ∷ []) ∷ []) ∷ []
unfolding lines_from choose
lines_are = refl

-- what is accepted counts, and nothing else
pub accepted_count : map ok_in (long ∷ hex ∷ binary (answers tt) ∷ binary (refuses 1 0) ∷ fractured (answers tt) ∷ fractured (refuses 31 0) ∷ []) ≡ 0 ∷ 0 ∷ 1 ∷ 0 ∷ 1 ∷ 0 ∷ []
accepted_count = refl

-- ---- texts

pub ascii_is : ascii "A z0\n" ≡ 0x41 ∷ 0x20 ∷ 0x7A ∷ 0x30 ∷ 0x0A ∷ []
ascii_is = refl

-- decimal digits without a zero in front: every digit, each count of digits, the greatest number of 64 bits; of a number with more than 20 the
-- lowest 20
pub decimals_are :
    map decimal
    (0 ∷ 1 ∷ 2 ∷ 3 ∷ 4 ∷ 5 ∷ 6 ∷ 7 ∷ 8 ∷ 9 ∷ 10 ∷ 11 ∷ 19 ∷ 20 ∷ 90 ∷ 99 ∷ 100 ∷ 101 ∷ 109 ∷ 110 ∷ 999 ∷ 1_000 ∷ 10_987 ∷ 654_321 ∷ 1_234_567 ∷ 12_345_678 ∷ 123_456_789 ∷ 1_234_567_890
    ∷ 12_345_678_901 ∷ 123_456_789_012 ∷ 1_234_567_890_123 ∷ 12_345_678_901_234 ∷ 123_456_789_012_345 ∷ 1_234_567_890_123_456 ∷ 12_345_678_901_234_567 ∷ 123_456_789_012_345_678
    ∷ 9_999_999_999_999_999_999 ∷ 10_000_000_000_000_000_000 ∷ 18_446_744_073_709_551_615 ∷ 123_456_789_012_345_678_901 ∷ [])
    ≡ map ascii
    ("0" ∷ "1" ∷ "2" ∷ "3" ∷ "4" ∷ "5" ∷ "6" ∷ "7" ∷ "8" ∷ "9" ∷ "10" ∷ "11" ∷ "19" ∷ "20" ∷ "90" ∷ "99" ∷ "100" ∷ "101" ∷ "109" ∷ "110" ∷ "999" ∷ "1000" ∷ "10987" ∷ "654321" ∷ "1234567" ∷ "12345678"
    ∷ "123456789" ∷ "1234567890" ∷ "12345678901" ∷ "123456789012" ∷ "1234567890123" ∷ "12345678901234" ∷ "123456789012345" ∷ "1234567890123456" ∷ "12345678901234567" ∷ "123456789012345678"
    ∷ "9999999999999999999" ∷ "10000000000000000000" ∷ "18446744073709551615" ∷ "23456789012345678901" ∷ [])
unfolding decimal digits choose
decimals_are = refl

-- each answer's line, and the total
pub texts_are :
    answer_text 1 long ∷ answer_text 20 hex ∷ answer_text 3 (binary (answers tt)) ∷ answer_text 4 (binary (refuses 15 12)) ∷ answer_text 5 (fractured (answers tt)) ∷ answer_text 6 (fractured (refuses 31 2)) ∷ total_text 7 5 ∷ []
    ≡ map ascii ("1 long\n" ∷ "20 hex\n" ∷ "3 B ok\n" ∷ "4 B no 15 12\n" ∷ "5 F ok\n" ∷ "6 F no 31 2\n" ∷ "total 7 ok 5\n" ∷ [])
unfolding answer_text total_text said verdict_text decimal digits choose
texts_are = refl

-- ---- a long line in the whole output

-- n characters 0 and LF are a line
line_of : (n : ℕ) (line rest : List ℕ) → lines_from line (replicate n 0x30 ++ (0x0A ∷ rest)) ≡ (line ++ replicate n 0x30) ∷ lines_from [] rest
unfolding lines_from choose
line_of zero line rest = rw append-nil
line_of (suc n) line rest = line_of n (line ++ (0x30 ∷ [])) rest ∙ rw append_assoc

bench_of : (n : ℕ) → bench_text (replicate n 0x30 ++ ascii "\n464A0100\n") ≡ ascii "frames\n" ++ answers_from 0 0 (replicate n 0x30 ∷ ascii "464A0100" ∷ [])
unfolding bench_text lines_from choose
bench_of n = ap (λ lines. ascii "frames\n" ++ answers_from 0 0 lines) (line_of n [] (ascii "464A0100\n"))

pub answers_say_long : answers_from 0 0 (replicate 32_769 0x30 ∷ ascii "464A0100" ∷ []) ≡ ascii "1 long\n2 F ok\ntotal 2 ok 1\n"
unfolding follow ◌>>=◌ need choose number finite by_numbers compare_texts B.index B.count B.slot B.text B.content B.numbers B.kind_of B.type_of BV.header BV.ascends BV.slot_rules BV.slots BV.slot_named BV.number_named BV.key_entries BV.entry_by BV.entry BV.entries BV.mark_body BV.container_by BV.container BV.scalar BV.root_by BV.lent BV.all_marked BV.check BM.words BM.clear BM.fill BM.unmarked F.form_of F.key_form_of FV.header FV.byte_at FV.payload FV.length_at FV.text_at FV.after_second FV.after_first FV.key_number_at FV.in_turn FV.member FV.value_by FV.value FV.key_by FL.met FL.names_from FL.key_list FV.new_key FV.old_key FV.listed_key FV.check_key FV.document FV.check nibble bytes_of is_fractured frame_of answer_of digits decimal verdict_text said answer_text total_text lines_from answers_from bench_text
answers_say_long = refl

pub bench_says_long : bench_text (replicate 32_769 0x30 ++ ascii "\n464A0100\n") ≡ ascii "frames\n1 long\n2 F ok\ntotal 2 ok 1\n"
bench_says_long = bench_of 32_769 ∙ ap (λ text. ascii "frames\n" ++ text) answers_say_long

-- the marks that the bench lends are enough for every frame that a line can hold, so that 15 never comes there
pub marks_enough : (doc : List ℕ) → 2 * length doc ≤ longest_line → B.index doc + 4 ≤ length doc → BM.words doc ≤ bench_marks
unfolding BM.words
marks_enough doc h i = omega arith
