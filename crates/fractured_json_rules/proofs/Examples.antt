-- Small key lists and documents with what the checks and the questions say of them: each number of refusal with its
-- place and the pairs of the keys passed until then, and good answers of each question; and their trees with places. 32
-- is shown for every document that is too long. What a document means and what its root leads to are relations: of these
-- the last part proves what holds of small documents, and what does not.
use Prim.Native.Nat.{ℕ, zero, suc, ◌+◌, ◌-◌, ◌*◌, ◌/◌, ◌^◌, ◌≤◌, ◌<◌}
use mathlib.Core.Bool.{true, false}
use mathlib.Core.List.{List, [], ◌∷◌, ◌++◌, map, reverse}
use mathlib.Core.Logic.{◌≢◌}
use mathlib.Core.Path.{◌≡◌, refl, sym, ◌∙◌}
use native.Mathlib.Omega.{arith}
use lib.Dec.{T, ltb, leb, eqb, leb→le, le→leb, ltb→lt}
use lib.ListN.{length, get_or, replicate}
use Rattle.json_model.specs.Bytes.{number, part, hex}
use Rattle.json_model.specs.Choose.{choose}
use Rattle.json_model.specs.Limits.{least_fractured, longest, deepest}
use Rattle.json_model.specs.Node.{Scalar, s_null, s_bool, s_num, s_str, Node, leaf, dict, nil, cons, last, field}
use Rattle.json_model.specs.Number.{binary32, scaled, finite, magnitude, float_tree, whole_tree, signed_tree}
use Rattle.json_model.specs.Reading.{Reading, halt, done, follow, ◌>>=◌, need, Asked, ask, answers, refuses}
use Rattle.json_model.specs.Tree as Tree
use Rattle.json_model.specs.Tree.{Tree, null, bool, num, str, arr, obj, none, more, Members, end, sizem, depth}
use Rattle.json_model.specs.Texts.{by_numbers, compare_texts}
use Rattle.json_model.proofs.Reading.{then, stops, pass, fail}
use Rattle.fractured_json_rules.specs.ByteTables.{one, two, four, Len, tiny, after, Form, f_object, form_of, in_byte, spelled, KeyForm, key_form_of}
use Rattle.fractured_json_rules.specs.Meaning.{Starts, KeyStarts, LengthIs, after_length, TextIs, Names, Distinct, Lists, tiny_tree, NumberIs, as_tiny, as_int, as_float, Spelled, one_byte}
use Rattle.fractured_json_rules.specs.Meaning.{two_bytes, three_bytes, Keys, Fresh, KeyIs, as_text, as_back, as_global, ValueIs, MembersAre, Headed, Means}
use Rattle.fractured_json_rules.specs.KeyList.{met, names_from, key_list, no_names, steps, name_of}
use Rattle.fractured_json_rules.specs.Verdict.{Numeral, numeral, header, byte_at, payload, length_at, text_at, after_second, after_first, key_number_at, in_turn, member, value_by, value}
use Rattle.fractured_json_rules.specs.Verdict.{key_by, new_key, old_key, listed_key, check_key, document, check, verdict}
use Rattle.fractured_json_rules.specs.KeyTable.{room_of, stored, Checked, checked}
use Rattle.fractured_json_rules.specs.TreeOf.{spelled_in, key_number_in, key_end, end_by, key_text_at, value_trees, member_trees, tree_by, tree_at, tree_of}
use Rattle.fractured_json_rules.specs.TreeOf as TreeOf
use Rattle.fractured_json_rules.specs.Leads.{element_place, key_place, Leads, root, element, FirstOf, StandsFor}
use Rattle.fractured_json_rules.specs.Answers as Answers
use Rattle.fractured_json_rules.specs.Answers.{kind_of, value_of}
use Rattle.fractured_json_rules.specs.Places.{contents_by, value_node, fractured_node, Stands}
use Rattle.fractured_json_rules.specs.Questions.{opening, the_document, the_list, KeyRead, text_key, back_key, name_key, read_key, pass_key, end_of, Kind, is_null, is_false, is_true, is_number}
use Rattle.fractured_json_rules.specs.Questions.{is_string, is_object, is_array, kind_by, kind_here, kind, number_by, number_here, wanted_by, wanted_here, string_here, string_bytes}
use Rattle.fractured_json_rules.specs.Questions.{element_from, element_here, member_from, member_here, Found, value_at, find_from, find_in, first_here, first_member, key_bytes}
use Rattle.fractured_json_rules.specs.Questions as Questions

-- a value in n arrays of one element each
abbrev nested : ℕ → List ℕ → List ℕ
nested n rest = hex 3 0x464A01 ++ replicate n 0x9F ++ rest

-- a value in n + 1 objects of one member each: all keys are "", the first an immediate one, the others back references
abbrev in_objects : ℕ → List ℕ → List ℕ
in_objects zero rest = rest
in_objects (suc n) rest = 0x6F ∷ 0x57 ∷ in_objects n rest

abbrev nested_objects : ℕ → List ℕ → List ℕ
nested_objects n rest = hex 5 0x464A016F03 ++ in_objects n rest

-- ---- key lists

-- "a", "b"
abbrev two_names : List ℕ
two_names = hex 9 0x000200010061010062

record ListExample : Type 0 where
  list : List ℕ
  says : Asked (Unit {0})

abbrev of : List ℕ → Asked (Unit {0}) → ListExample
of list says = record { list = list; says = says }

abbrev lists : List ListExample
lists =
    of no_names (answers tt) ∷
    of two_names (answers tt) ∷
    of (hex 5 0x0001000000) (answers tt) ∷
    -- a name of 256 bytes, after one of none
    of (hex 7 0x00020000000001 ++ replicate 256 0x61) (answers tt) ∷
    -- 51
    of (hex 3 0x010000) (refuses 51 0) ∷
    of (hex 1 0x80) (refuses 51 0) ∷
    -- 52: config, count, length, text
    of [] (refuses 52 0) ∷
    of (hex 1 0x00) (refuses 52 1) ∷
    of (hex 2 0x0000) (refuses 52 1) ∷
    of (hex 3 0x000100) (refuses 52 3) ∷
    of (hex 4 0x00010000) (refuses 52 3) ∷
    of (hex 5 0x0001000100) (refuses 52 5) ∷
    of (hex 6 0x000100020061) (refuses 52 5) ∷
    of (hex 7 0x00020001006101) (refuses 52 6) ∷
    of (hex 5 0x0000010000) (refuses 52 5) ∷
    of (hex 5 0x0001000001 ++ replicate 255 0x61) (refuses 52 5) ∷
    -- a text that is cut off is 52, even if what is left of it is a name before it
    of (hex 9 0x000200010061020061) (refuses 52 8) ∷
    -- 53
    of (hex 4 0x00000000) (refuses 53 3) ∷
    of (hex 10 0x00020001006101006200) (refuses 53 9) ∷
    -- 54: before the next name, and before the end
    of (hex 9 0x000200010061010061) (refuses 54 6) ∷
    of (hex 9 0x000300010061010061) (refuses 54 6) ∷
    of (hex 10 0x00020001006101006100) (refuses 54 6) ∷
    of (hex 7 0x00020000000000) (refuses 54 5) ∷
    of (hex 12 0x000300010061010062010061) (refuses 54 9) ∷
    []

pub lists_say : map (λ e. ask (key_list e.list)) lists ≡ map (λ e. e.says) lists
unfolding follow ◌>>=◌ need choose number by_numbers compare_texts met names_from key_list
lists_say = refl

-- ---- the check

-- a document, a key list, the words lent, and what the check says and leaves in them
record Example : Type 0 where
  doc : List ℕ
  list : List ℕ
  lent : List ℕ
  says : Checked

-- so many words lent, each 9; the pairs of the keys passed stand in the first of them, and the others still hold 9
abbrev listed : List ℕ → List ℕ → ℕ → Asked (Unit {0}) → List ℕ → Example
listed list doc lent verdict passed = record {
  doc = doc;
  list = list;
  lent = replicate lent 9;
  says = record { verdict = verdict; count = length passed / 2; words = passed ++ replicate (lent - length passed) 9 };
}

-- with the list without a name
abbrev example : List ℕ → ℕ → Asked (Unit {0}) → List ℕ → Example
example = listed no_names

abbrev accepted : Asked (Unit {0})
accepted = answers tt

abbrev examples : List Example
examples =
    -- 31: under 4 bytes
    example (hex 3 0x464A01) 4 (refuses 31 3) [] ∷
    example [] 4 (refuses 31 0) [] ∷
    -- 33 and 34, in this order, and before the value
    example (hex 4 0x464B0200) 4 (refuses 33 0) [] ∷
    example (hex 4 0x46490100) 4 (refuses 33 0) [] ∷
    example (hex 4 0x474A0200) 4 (refuses 33 0) [] ∷
    example (hex 4 0x474A0100) 4 (refuses 33 0) [] ∷
    example (hex 4 0x454A0100) 4 (refuses 33 0) [] ∷
    example (hex 4 0x464A1100) 4 (refuses 34 2) [] ∷
    example (hex 4 0x464A0000) 4 (refuses 34 2) [] ∷
    example (hex 4 0x464A02FE) 4 (refuses 34 2) [] ∷
    -- 35: type byte, length, payload, text; key byte, each byte of a v_uint16, key text
    example (hex 4 0x464A019F) 4 (refuses 35 4) [] ∷
    example (hex 6 0x464A016F0461) 4 (refuses 35 6) (5 ∷ 1 ∷ []) ∷
    example (hex 5 0x464A010E00) 4 (refuses 35 3) [] ∷
    example (hex 6 0x464A019F0C00) 4 (refuses 35 4) [] ∷
    example (hex 5 0x464A011861) 4 (refuses 35 3) [] ∷
    example (hex 9 0x464A0115FFFFFFFF00) 4 (refuses 35 9) [] ∷
    example (hex 4 0x464A016F) 4 (refuses 35 4) [] ∷
    example (hex 5 0x464A016F00) 4 (refuses 35 4) [] ∷
    example (hex 6 0x464A016F0080) 4 (refuses 35 4) [] ∷
    example (hex 7 0x464A016F008080) 4 (refuses 35 4) [] ∷
    example (hex 6 0x464A016F0561) 4 (refuses 35 4) [] ∷
    example (nested deepest []) 4 (refuses 35 (3 + deepest)) [] ∷
    -- 35 before 39 and 40: what is left of the text was met before, and there is no room
    example (hex 9 0x464A01700461000561) 4 (refuses 35 7) (5 ∷ 1 ∷ []) ∷
    example (hex 9 0x464A01700461000562) 3 (refuses 35 7) (5 ∷ 1 ∷ []) ∷
    -- 36: type byte, key byte
    example (hex 4 0x464A01FE) 4 (refuses 36 3) [] ∷
    example (hex 7 0x464A01700461FE) 4 (refuses 36 6) (5 ∷ 1 ∷ []) ∷
    example (hex 5 0x464A016FFF) 4 (refuses 36 4) [] ∷
    -- 37
    example (hex 8 0x464A016F00808004) 4 (refuses 37 7) [] ∷
    example (hex 8 0x464A016F00FFFF80) 4 (refuses 37 7) [] ∷
    -- 38: back reference, global index
    example (hex 6 0x464A016F5700) 4 (refuses 38 4) [] ∷
    example (hex 9 0x464A016F04616F5800) 4 (refuses 38 7) (5 ∷ 1 ∷ []) ∷
    example (hex 9 0x464A016F01FFFF0300) 4 (refuses 38 4) [] ∷
    example (hex 6 0x464A016FAB00) 4 (refuses 38 4) [] ∷
    example (hex 8 0x464A016F02808000) 4 (refuses 38 4) [] ∷
    -- 39 and 40
    example (hex 10 0x464A0170046100046100) 3 (refuses 39 7) (5 ∷ 1 ∷ []) ∷
    example (hex 12 0x464A01A06F0461006F046100) 4 (refuses 39 9) (6 ∷ 1 ∷ []) ∷
    example (hex 7 0x464A016F046100) 1 (refuses 40 4) [] ∷
    example (hex 10 0x464A0170046100046200) 3 (refuses 40 7) (5 ∷ 1 ∷ []) ∷
    -- 41: after the length, before the contents
    example (nested deepest (hex 1 0x9E)) 4 (refuses 41 (3 + deepest)) [] ∷
    example (nested deepest (hex 5 0x15FFFFFFFF)) 4 (refuses 41 (3 + deepest)) [] ∷
    example (nested deepest (hex 1 0x13)) 4 (refuses 35 (3 + deepest)) [] ∷
    example (nested_objects (deepest - 1) (hex 1 0x6E)) 4 (refuses 41 (3 + 2 * deepest)) (5 ∷ 0 ∷ []) ∷
    example (nested_objects (deepest - 1) (hex 5 0x12FFFFFFFF)) 4 (refuses 41 (3 + 2 * deepest)) (5 ∷ 0 ∷ []) ∷
    example (nested_objects (deepest - 1) (hex 1 0x10)) 4 (refuses 35 (3 + 2 * deepest)) (5 ∷ 0 ∷ []) ∷
    -- 42
    example (hex 5 0x464A0100FF) 4 (refuses 42 4) [] ∷
    example (hex 8 0x464A016F04610000) 4 (refuses 42 7) (5 ∷ 1 ∷ []) ∷
    -- 43
    example (hex 12 0x464A010C000000000000F07F) 4 (refuses 43 3) [] ∷
    example (hex 8 0x464A010B0000807F) 4 (refuses 43 3) [] ∷
    example (nested deepest (hex 9 0x0C000000000000F07F)) 4 (refuses 43 (3 + deepest)) [] ∷
    -- accepted
    example (hex 4 0x464A016E) 0 accepted [] ∷
    example (hex 7 0x464A016F046100) 3 accepted (5 ∷ 1 ∷ []) ∷
    example (hex 9 0x464A016F04616F5700) 4 accepted (5 ∷ 1 ∷ []) ∷
    example (hex 9 0x464A01700461005701) 4 accepted (5 ∷ 1 ∷ []) ∷
    example (hex 11 0x464A017004610005610000) 4 accepted (5 ∷ 1 ∷ 8 ∷ 2 ∷ []) ∷
    example (hex 9 0x464A016F0080800000) 4 accepted (8 ∷ 0 ∷ []) ∷
    example (hex 10 0x464A016F008180006100) 4 accepted (8 ∷ 1 ∷ []) ∷
    example (nested (deepest - 1) (hex 1 0x9E)) 4 accepted [] ∷
    example (nested deepest (hex 1 0x00)) 4 accepted [] ∷
    example (nested_objects (deepest - 2) (hex 1 0x6E)) 4 accepted (5 ∷ 0 ∷ []) ∷
    example (nested_objects (deepest - 1) (hex 1 0x00)) 4 accepted (5 ∷ 0 ∷ []) ∷
    -- each type byte with a payload or a length after it: whole, and one byte short
    example (hex 5 0x464A010380) 4 accepted [] ∷
    example (hex 4 0x464A0103) 4 (refuses 35 3) [] ∷
    example (hex 5 0x464A010480) 4 accepted [] ∷
    example (hex 4 0x464A0104) 4 (refuses 35 3) [] ∷
    example (hex 6 0x464A01050180) 4 accepted [] ∷
    example (hex 5 0x464A010501) 4 (refuses 35 3) [] ∷
    example (hex 6 0x464A01060180) 4 accepted [] ∷
    example (hex 5 0x464A010601) 4 (refuses 35 3) [] ∷
    example (hex 8 0x464A010701000080) 4 accepted [] ∷
    example (hex 7 0x464A0107010000) 4 (refuses 35 3) [] ∷
    example (hex 8 0x464A010801000080) 4 accepted [] ∷
    example (hex 7 0x464A0108010000) 4 (refuses 35 3) [] ∷
    example (hex 12 0x464A01090100000000000080) 4 accepted [] ∷
    example (hex 11 0x464A010901000000000000) 4 (refuses 35 3) [] ∷
    example (hex 12 0x464A010A0100000000000080) 4 accepted [] ∷
    example (hex 11 0x464A010A01000000000000) 4 (refuses 35 3) [] ∷
    example (hex 8 0x464A010B0000C0BF) 4 accepted [] ∷
    example (hex 7 0x464A010B0000C0) 4 (refuses 35 3) [] ∷
    example (hex 12 0x464A010C000000000000F8BF) 4 accepted [] ∷
    example (hex 11 0x464A010C000000000000F8) 4 (refuses 35 3) [] ∷
    example (hex 6 0x464A010D0161) 4 accepted [] ∷
    example (hex 5 0x464A010D01) 4 (refuses 35 3) [] ∷
    example (hex 7 0x464A010E010061) 4 accepted [] ∷
    example (hex 6 0x464A010E0100) 4 (refuses 35 3) [] ∷
    example (hex 9 0x464A010F0100000061) 4 accepted [] ∷
    example (hex 8 0x464A010F01000000) 4 (refuses 35 3) [] ∷
    example (hex 7 0x464A0110010300) 4 accepted (6 ∷ 0 ∷ []) ∷
    example (hex 4 0x464A0110) 4 (refuses 35 3) [] ∷
    example (hex 8 0x464A011101000300) 4 accepted (7 ∷ 0 ∷ []) ∷
    example (hex 5 0x464A011101) 4 (refuses 35 3) [] ∷
    example (hex 10 0x464A0112010000000300) 4 accepted (9 ∷ 0 ∷ []) ∷
    example (hex 7 0x464A0112010000) 4 (refuses 35 3) [] ∷
    example (hex 6 0x464A01130100) 4 accepted [] ∷
    example (hex 4 0x464A0113) 4 (refuses 35 3) [] ∷
    example (hex 7 0x464A0114010000) 4 accepted [] ∷
    example (hex 5 0x464A011401) 4 (refuses 35 3) [] ∷
    example (hex 9 0x464A01150100000000) 4 accepted [] ∷
    example (hex 7 0x464A0115010000) 4 (refuses 35 3) [] ∷
    -- and each that is a whole value
    example (hex 4 0x464A0100) 4 accepted [] ∷
    example (hex 4 0x464A0101) 4 accepted [] ∷
    example (hex 4 0x464A0102) 4 accepted [] ∷
    example (hex 4 0x464A01BE) 4 accepted [] ∷
    example (hex 5 0x464A011761) 4 accepted [] ∷
    example (hex 7 0x464A01A1000102) 4 accepted [] ∷
    -- a bad list before 31; the words stay as they were
    listed [] [] 4 (refuses 52 0) [] ∷
    listed (hex 4 0x00000000) (hex 7 0x464A016F046100) 4 (refuses 53 3) [] ∷
    -- 38: a global index is found under the count, in all three spellings
    listed two_names (hex 6 0x464A016FAC00) 4 accepted [] ∷
    listed two_names (hex 7 0x464A016F020100) 4 accepted [] ∷
    listed two_names (hex 8 0x464A016F02810000) 4 accepted [] ∷
    listed two_names (hex 8 0x464A016F02818000) 4 (refuses 35 8) [] ∷
    listed two_names (hex 9 0x464A016F0281800000) 4 accepted [] ∷
    listed two_names (hex 6 0x464A016FAD00) 4 (refuses 38 4) [] ∷
    listed two_names (hex 7 0x464A016F020200) 4 (refuses 38 4) [] ∷
    listed two_names (hex 8 0x464A016F02820000) 4 (refuses 38 4) [] ∷
    listed two_names (hex 9 0x464A016F0282800000) 4 (refuses 38 4) [] ∷
    -- 39: immediate texts alone; a global index takes no number and no pair
    listed two_names (hex 7 0x464A016F046100) 4 accepted (5 ∷ 1 ∷ []) ∷
    listed two_names (hex 11 0x464A0171AB000461005700) 4 accepted (7 ∷ 1 ∷ []) ∷
    listed two_names (hex 8 0x464A0170AB005700) 4 (refuses 38 6) [] ∷
    []

pub check_says : map (λ e. checked e.doc e.list e.lent) examples ≡ map (λ e. e.says) examples
unfolding follow ◌>>=◌ need choose number finite by_numbers compare_texts form_of key_form_of header byte_at payload length_at text_at after_second after_first key_number_at
    in_turn member value_by value key_by met names_from key_list new_key old_key listed_key check_key document check room_of stored
check_says = refl

-- the room of a table of so many words: half of them, at most 4,096
pub rooms_are : map (λ n. room_of (replicate n 9)) (0 ∷ 1 ∷ 2 ∷ 3 ∷ 8_191 ∷ 8_192 ∷ 8_194 ∷ []) ≡ 0 ∷ 0 ∷ 1 ∷ 1 ∷ 4_095 ∷ 4_096 ∷ 4_096 ∷ []
unfolding room_of
rooms_are = refl

-- ---- a v_uint16 after the key byte at 1

record Spelling : Type 0 where
  doc : List ℕ
  says : Asked Numeral

abbrev spells : List ℕ → ℕ → ℕ → Spelling
spells doc n e = record { doc = doc; says = answers (numeral n e) }

abbrev badly : List ℕ → ℕ → ℕ → Spelling
badly doc number place = record { doc = doc; says = refuses number place }

abbrev good_spellings : List Spelling
good_spellings =
    spells (hex 3 0xFF0000) 0 3 ∷
    spells (hex 3 0xFF007F) 127 3 ∷
    -- bytes after it are not read
    spells (hex 4 0xFF0005FF) 5 3 ∷
    spells (hex 4 0xFF008000) 0 4 ∷
    spells (hex 4 0xFF008001) 128 4 ∷
    spells (hex 4 0xFF00FF7F) 16_383 4 ∷
    spells (hex 5 0xFF00810204) 257 4 ∷
    spells (hex 5 0xFF00808000) 0 5 ∷
    spells (hex 5 0xFF00818101) 16_513 5 ∷
    spells (hex 5 0xFF00FFFF03) 65_535 5 ∷
    spells (hex 6 0xFF00838203FF) 49_411 5 ∷
    []

abbrev bad_spellings : List Spelling
bad_spellings =
    -- 35: the first, the second, the third byte
    badly (hex 2 0xFF00) 35 1 ∷
    badly (hex 3 0xFF0080) 35 1 ∷
    badly (hex 4 0xFF0080FF) 35 1 ∷
    -- 37
    badly (hex 5 0xFF00808004) 37 4 ∷
    badly (hex 5 0xFF008080FF) 37 4 ∷
    []

pub spellings_say : map (λ e. ask (key_number_at e.doc 1 spelled)) (good_spellings ++ bad_spellings) ≡ map (λ e. e.says) (good_spellings ++ bad_spellings)
unfolding follow ◌>>=◌ need byte_at after_second after_first key_number_at
spellings_say = refl

-- the same number, read off a document that is good
pub spellings_are : map (λ e. answers (key_number_in e.doc 1 spelled)) good_spellings ≡ map (λ e. e.says) good_spellings
unfolding choose spelled_in
spellings_are = refl

-- ---- the limits of length

-- a document of the greatest length is good: a string, with its length in four bytes
abbrev long_string : List ℕ → List ℕ
long_string rest = hex 4 0x464A010F ++ reverse (hex 4 (longest - 8)) ++ rest

no_names_lem : key_list {S = Keys} no_names [] ≡ done tt []
unfolding need ◌>>=◌ follow number names_from key_list
no_names_lem = refl

module _ (rest : List ℕ) (h : length rest ≡ longest - 8) where
  headed : header {S = Keys} (long_string rest) [] ≡ done tt []
  unfolding need ◌>>=◌ follow header
  headed = rw h

  walked : (key : ℕ → Reading Keys ℕ) (levels : ℕ) → value key (suc levels) (long_string rest) 3 [] ≡ done longest []
  unfolding need ◌>>=◌ follow choose number form_of byte_at payload length_at text_at value_by value
  walked key levels = rw (h, h, h)

  at_its_end : need {S = Keys} (eqb longest (length (long_string rest))) 42 longest [] ≡ done tt []
  unfolding need
  at_its_end = rw h

  pub longest_good : (room : ℕ) → verdict room (long_string rest) no_names ≡ done tt []
  unfolding document check
  longest_good room = then _ _ [] no_names_lem ∙ (then _ _ [] headed ∙ (then _ _ [] (walked _ (deepest - 1)) ∙ at_its_end))

-- 32, of any document over the limit, with a key list that is good
pub too_long : (room : ℕ) (doc list : List ℕ) → key_list {S = Keys} list [] ≡ done tt [] → longest < length doc → verdict room doc list ≡ halt 32 (length doc) []
unfolding check document header
too_long room doc list good h =
    let long : least_fractured ≤ length doc = omega arith in
    then _ _ [] good ∙ stops _ _ [] (pass _ _ _ _ [] (le→leb _ _ long) ∙ fail _ _ _ _ [] (λ t. let s = leb→le (length doc) longest t in omega arith))

-- ---- the questions

-- a question with its cursor
pub data Question : Type 0 where
  end_at kind_at number_at string_at string_bytes_at key_at key_bytes_at : ℕ → Question
  element_at member_at : ℕ → ℕ → Question
  first_member_of : ℕ → List ℕ → Question

pub data Answer : Type 0 where
  refused : (number place : ℕ) → Answer
  place_is : ℕ → Answer
  places_are : (key value : ℕ) → Answer
  absent : Answer
  kind_is_lem : Kind → Answer
  bits_are : (type bits : ℕ) → Answer
  span_is : (place len : ℕ) → Answer
  bytes_are : List ℕ → Answer
  key_is : KeyRead → Answer

abbrev reply : {A : Type 0} → (A → Answer) → Asked A → Answer
reply f (halt number place u) = refused number place
reply f (done a u) = f a

abbrev found_at : Found → Answer
found_at (value_at p) = place_is p
found_at Questions.absent = absent

-- the question, put to a document with a key list, a key table and its count
abbrev put : List ℕ → List ℕ → List ℕ → ℕ → Question → Answer
put doc list table count (end_at c) = reply place_is (ask (end_of doc list table count c))
put doc list table count (kind_at c) = reply kind_is_lem (ask (kind doc list c))
put doc list table count (number_at c) = reply (λ b. bits_are b.type b.bits) (ask (Questions.number_at doc list c))
put doc list table count (string_at c) = reply (λ s. span_is s.place s.len) (ask (Questions.string_at doc list c))
put doc list table count (string_bytes_at c) = bytes_are (string_bytes doc list c)
put doc list table count (element_at c i) = reply place_is (ask (Questions.element_at doc list table count c i))
put doc list table count (member_at c j) = reply (λ p. places_are p.key p.value) (ask (Questions.member_at doc list table count c j))
put doc list table count (first_member_of c x) = reply found_at (ask (first_member doc list table count c x))
put doc list table count (key_at c) = reply key_is (ask (Questions.key_at doc list table count c))
put doc list table count (key_bytes_at c) = bytes_are (key_bytes doc list table count c)

record Line : Type 0 where
  doc : List ℕ
  list : List ℕ
  table : List ℕ
  count : ℕ
  question : Question
  says : Answer

abbrev line_with : List ℕ → List ℕ → List ℕ → ℕ → Question → Answer → Line
line_with list doc table count question says = record { doc = doc; list = list; table = table; count = count; question = question; says = says }

-- the questions are answered as the lines say
abbrev Say : List Line → Type 0
Say ls = map (λ l. put l.doc l.list l.table l.count l.question) ls ≡ map (λ l. l.says) ls

-- with the list without a name
abbrev line : List ℕ → List ℕ → ℕ → Question → Answer → Line
line = line_with no_names

-- a key: its text's place and length in the document or in the key list, and where it ends
abbrev in_document : ℕ → ℕ → ℕ → Answer
in_document place len past = key_is (record { lender = the_document; place = place; len = len; past = past })

abbrev in_list : ℕ → ℕ → ℕ → Answer
in_list place len past = key_is (record { lender = the_list; place = place; len = len; past = past })

-- ---- before every question: 51 to 54, 31 to 34, 20

-- {"a":[1,"b"]}, with a list without a name: each question is answered, and at a cursor under 3 it is 20; with a bad
-- list it is 51; and a document that is too short is 31, whatever the cursor
abbrev asked : Question → Answer → Line
asked = line (hex 10 0x464A016F0461A0DF1762) [] 0

abbrev bad_list : Question → Answer → Line
bad_list = line_with (hex 3 0x010000) (hex 10 0x464A016F0461A0DF1762) [] 0

abbrev too_short : Question → Line
too_short q = line (hex 3 0x464A01) [] 0 q (refused 31 3)

abbrev openings : List Line
openings =
    asked (end_at 3) (place_is 10) ∷ bad_list (end_at 3) (refused 51 0) ∷ asked (end_at 2) (refused 20 2) ∷
    asked (kind_at 3) (kind_is_lem (is_object 1)) ∷ bad_list (kind_at 3) (refused 51 0) ∷ asked (kind_at 2) (refused 20 2) ∷
    asked (number_at 7) (bits_are 223 1) ∷ bad_list (number_at 7) (refused 51 0) ∷ asked (number_at 2) (refused 20 2) ∷
    asked (string_at 8) (span_is 9 1) ∷ bad_list (string_at 8) (refused 51 0) ∷ asked (string_at 2) (refused 20 2) ∷
    asked (string_bytes_at 8) (bytes_are (98 ∷ [])) ∷ bad_list (string_bytes_at 8) (bytes_are []) ∷
    asked (element_at 6 1) (place_is 8) ∷ bad_list (element_at 6 1) (refused 51 0) ∷ asked (element_at 2 1) (refused 20 2) ∷
    asked (member_at 3 0) (places_are 4 6) ∷ bad_list (member_at 3 0) (refused 51 0) ∷ asked (member_at 2 0) (refused 20 2) ∷
    asked (first_member_of 3 (97 ∷ [])) (place_is 6) ∷ bad_list (first_member_of 3 (97 ∷ [])) (refused 51 0) ∷ asked (first_member_of 2 (97 ∷ [])) (refused 20 2) ∷
    asked (key_at 4) (in_document 5 1 6) ∷ bad_list (key_at 4) (refused 51 0) ∷ asked (key_at 2) (refused 20 2) ∷
    asked (key_bytes_at 4) (bytes_are (97 ∷ [])) ∷ bad_list (key_bytes_at 4) (bytes_are []) ∷
    -- the key list before the header, and the header before the cursor
    line_with [] [] [] 0 (end_at 0) (refused 52 0) ∷
    too_short (end_at 2) ∷ too_short (kind_at 2) ∷ too_short (number_at 2) ∷ too_short (string_at 2) ∷ too_short (element_at 2 0) ∷ too_short (member_at 2 0) ∷ too_short (first_member_of 2 []) ∷
    too_short (key_at 2) ∷
    []

pub openings_say : Say openings
unfolding follow ◌>>=◌ need choose number by_numbers compare_texts form_of key_form_of header byte_at length_at text_at key_number_at in_turn member value_by value key_by names_from key_list
    opening text_key read_key pass_key end_of kind_by kind_here kind number_by number_here Questions.number_at wanted_by wanted_here string_here Questions.string_at element_from element_here Questions.element_at
    member_from member_here Questions.member_at find_from find_in first_here first_member Questions.key_at
openings_say = refl

-- ---- what each asks after that

abbrev lines : List Line
lines =
    -- 35: a cursor past the end, to every question
    line (hex 4 0x464A0100) [] 0 (end_at 4) (refused 35 4) ∷
    line (hex 4 0x464A0100) [] 0 (kind_at 4) (refused 35 4) ∷
    line (hex 4 0x464A0100) [] 0 (number_at 4) (refused 35 4) ∷
    line (hex 4 0x464A0100) [] 0 (string_at 4) (refused 35 4) ∷
    line (hex 4 0x464A0100) [] 0 (element_at 4 0) (refused 35 4) ∷
    line (hex 4 0x464A0100) [] 0 (member_at 4 0) (refused 35 4) ∷
    line (hex 4 0x464A0100) [] 0 (first_member_of 4 []) (refused 35 4) ∷
    -- 21: every other kind, before its length or payload is read
    line (hex 4 0x464A0101) [] 0 (number_at 3) (refused 21 3) ∷
    line (hex 4 0x464A010D) [] 0 (number_at 3) (refused 21 3) ∷
    line (hex 4 0x464A0110) [] 0 (number_at 3) (refused 21 3) ∷
    line (hex 4 0x464A0113) [] 0 (number_at 3) (refused 21 3) ∷
    line (hex 4 0x464A0102) [] 0 (string_at 3) (refused 21 3) ∷
    line (hex 4 0x464A0103) [] 0 (string_at 3) (refused 21 3) ∷
    line (hex 4 0x464A010B) [] 0 (string_at 3) (refused 21 3) ∷
    line (hex 4 0x464A01BE) [] 0 (string_at 3) (refused 21 3) ∷
    line (hex 4 0x464A0110) [] 0 (string_at 3) (refused 21 3) ∷
    line (hex 4 0x464A0113) [] 0 (string_at 3) (refused 21 3) ∷
    line (hex 4 0x464A0100) [] 0 (element_at 3 0) (refused 21 3) ∷
    line (hex 4 0x464A0101) [] 0 (element_at 3 0) (refused 21 3) ∷
    line (hex 4 0x464A0104) [] 0 (element_at 3 0) (refused 21 3) ∷
    line (hex 4 0x464A010C) [] 0 (element_at 3 0) (refused 21 3) ∷
    line (hex 4 0x464A01FD) [] 0 (element_at 3 0) (refused 21 3) ∷
    line (hex 4 0x464A0111) [] 0 (element_at 3 0) (refused 21 3) ∷
    line (hex 4 0x464A0100) [] 0 (member_at 3 0) (refused 21 3) ∷
    line (hex 4 0x464A0102) [] 0 (member_at 3 0) (refused 21 3) ∷
    line (hex 4 0x464A010A) [] 0 (member_at 3 0) (refused 21 3) ∷
    line (hex 4 0x464A010B) [] 0 (member_at 3 0) (refused 21 3) ∷
    line (hex 4 0x464A01DE) [] 0 (member_at 3 0) (refused 21 3) ∷
    line (hex 4 0x464A010F) [] 0 (member_at 3 0) (refused 21 3) ∷
    line (hex 4 0x464A0115) [] 0 (member_at 3 0) (refused 21 3) ∷
    line (hex 4 0x464A010D) [] 0 (first_member_of 3 []) (refused 21 3) ∷
    -- 21 and 22, each in its place
    line (hex 5 0x464A010E00) [] 0 (element_at 3 0) (refused 21 3) ∷
    line (hex 4 0x464A01FE) [] 0 (element_at 3 0) (refused 36 3) ∷
    line (hex 5 0x464A011400) [] 0 (element_at 3 9) (refused 35 3) ∷
    line (hex 5 0x464A01A0FE) [] 0 (element_at 3 2) (refused 22 3) ∷
    line (hex 5 0x464A01A0FE) [] 0 (element_at 3 1) (refused 36 4) ∷
    line (hex 7 0x464A016F046102) [] 0 (member_at 3 1) (refused 22 3) ∷
    line (hex 4 0x464A019E) [] 0 (element_at 3 0) (refused 22 3) ∷
    line (hex 4 0x464A016E) [] 0 (member_at 3 0) (refused 22 3) ∷
    -- 35 for the length before 22, and 22 before a key and a value that are bad
    line (hex 5 0x464A011100) [] 0 (member_at 3 9) (refused 35 3) ∷
    line (hex 5 0x464A016FFF) [] 0 (member_at 3 1) (refused 22 3) ∷
    line (hex 7 0x464A016F0461FE) [] 0 (member_at 3 1) (refused 22 3) ∷
    line (hex 6 0x464A01120000) [] 0 (first_member_of 3 []) (refused 35 3) ∷
    line (hex 4 0x464A019E) [] 0 (member_at 3 0) (refused 21 3) ∷
    line (hex 4 0x464A019E) [] 0 (first_member_of 3 []) (refused 21 3) ∷
    line (hex 4 0x464A0100) [] 0 (number_at 3) (refused 21 3) ∷
    line (hex 4 0x464A0100) [] 0 (string_at 3) (refused 21 3) ∷
    -- a reserved type byte is 36 to every question
    line (hex 4 0x464A01FE) [] 0 (end_at 3) (refused 36 3) ∷
    line (hex 4 0x464A01FF) [] 0 (first_member_of 3 []) (refused 36 3) ∷
    line (hex 4 0x464A01FE) [] 0 (number_at 3) (refused 36 3) ∷
    line (hex 4 0x464A01FF) [] 0 (string_at 3) (refused 36 3) ∷
    line (hex 4 0x464A01FE) [] 0 (member_at 3 0) (refused 36 3) ∷
    -- the end
    line (hex 7 0x464A016F046102) [] 0 (end_at 3) (place_is 7) ∷
    line (hex 12 0x464A010C000000000000F07F) [] 0 (end_at 3) (refused 43 3) ∷
    line (hex 9 0x464A01700461005701) (5 ∷ 1 ∷ []) 1 (end_at 3) (place_is 9) ∷
    line (hex 9 0x464A01700461005701) [] 0 (end_at 3) (refused 38 7) ∷
    line (hex 7 0x464A016F046100) (4 ∷ 1 ∷ 9 ∷ []) 2 (end_at 3) (place_is 7) ∷
    line (nested deepest (hex 1 0x9E)) [] 0 (end_at 3) (refused 41 (3 + deepest)) ∷
    line (nested deepest (hex 1 0x9E)) [] 0 (end_at 4) (place_is (4 + deepest)) ∷
    line (nested_objects (deepest - 1) (hex 1 0x6E)) (5 ∷ 0 ∷ []) 1 (end_at 3) (refused 41 (3 + 2 * deepest)) ∷
    line (nested_objects (deepest - 1) (hex 1 0x6E)) (5 ∷ 0 ∷ []) 1 (end_at 5) (place_is (4 + 2 * deepest)) ∷
    -- 38: index at the count, count over the room, pair outside the document
    line (hex 6 0x464A016F5700) (4 ∷ 1 ∷ []) 0 (end_at 3) (refused 38 4) ∷
    line (hex 6 0x464A016F5700) (4 ∷ 1 ∷ 9 ∷ []) 2 (end_at 3) (refused 38 4) ∷
    line (hex 6 0x464A016F5700) (5 ∷ 2 ∷ []) 1 (end_at 3) (refused 38 4) ∷
    line (hex 6 0x464A016F5700) (4 ∷ 1 ∷ 9 ∷ []) 1 (end_at 3) (place_is 6) ∷
    line (hex 6 0x464A016F5700) (6 ∷ 0 ∷ []) 1 (end_at 3) (place_is 6) ∷
    line (hex 6 0x464A016F5700) (4294967295 ∷ 2 ∷ []) 1 (member_at 3 0) (refused 38 4) ∷
    -- the second pair, in a table that has it
    line (hex 13 0x464A0171046100056263015802) (5 ∷ 1 ∷ 8 ∷ 2 ∷ []) 2 (key_at 11) (in_document 8 2 12) ∷
    line (hex 13 0x464A0171046100056263015802) (5 ∷ 1 ∷ 8 ∷ 2 ∷ []) 1 (key_at 11) (refused 38 11) ∷
    line (hex 13 0x464A0171046100056263015802) (5 ∷ 1 ∷ 8 ∷ 6 ∷ []) 2 (key_at 11) (refused 38 11) ∷
    -- the kind
    line (hex 4 0x464A0100) [] 0 (kind_at 3) (kind_is_lem is_null) ∷
    line (hex 4 0x464A0101) [] 0 (kind_at 3) (kind_is_lem is_false) ∷
    line (hex 4 0x464A0102) [] 0 (kind_at 3) (kind_is_lem is_true) ∷
    line (hex 4 0x464A010C) [] 0 (kind_at 3) (kind_is_lem is_number) ∷
    line (hex 4 0x464A01BE) [] 0 (kind_at 3) (kind_is_lem is_number) ∷
    line (hex 5 0x464A010DFF) [] 0 (kind_at 3) (kind_is_lem (is_string 255)) ∷
    line (hex 4 0x464A016D) [] 0 (kind_at 3) (kind_is_lem (is_string 87)) ∷
    line (hex 5 0x464A010E00) [] 0 (kind_at 3) (refused 35 3) ∷
    line (hex 6 0x464A010EFFFF) [] 0 (kind_at 3) (kind_is_lem (is_string 65_535)) ∷
    line (hex 8 0x464A0112FFFFFFFF) [] 0 (kind_at 3) (kind_is_lem (is_object 4_294_967_295)) ∷
    line (hex 4 0x464A01BD) [] 0 (kind_at 3) (kind_is_lem (is_array 31)) ∷
    line (hex 4 0x464A0103) [] 0 (kind_at 3) (kind_is_lem is_number) ∷
    line (hex 4 0x464A0110) [] 0 (kind_at 3) (refused 35 3) ∷
    line (hex 6 0x464A01140001) [] 0 (kind_at 3) (kind_is_lem (is_array 256)) ∷
    line (hex 7 0x464A0115000000) [] 0 (kind_at 3) (refused 35 3) ∷
    line (hex 4 0x464A01FF) [] 0 (kind_at 3) (refused 36 3) ∷
    -- the number
    line (hex 4 0x464A01BE) [] 0 (number_at 3) (bits_are 190 18_446_744_073_709_551_584) ∷
    line (hex 4 0x464A01DE) [] 0 (number_at 3) (bits_are 222 0) ∷
    line (hex 4 0x464A01FD) [] 0 (number_at 3) (bits_are 253 31) ∷
    line (hex 5 0x464A01037F) [] 0 (number_at 3) (bits_are 3 127) ∷
    line (hex 5 0x464A010380) [] 0 (number_at 3) (bits_are 3 18_446_744_073_709_551_488) ∷
    line (hex 5 0x464A010480) [] 0 (number_at 3) (bits_are 4 128) ∷
    line (hex 6 0x464A0105FF7F) [] 0 (number_at 3) (bits_are 5 32_767) ∷
    line (hex 6 0x464A01050080) [] 0 (number_at 3) (bits_are 5 0xFFFF_FFFF_FFFF_8000) ∷
    line (hex 6 0x464A01060180) [] 0 (number_at 3) (bits_are 6 0x8001) ∷
    line (hex 8 0x464A0107FFFFFF7F) [] 0 (number_at 3) (bits_are 7 0x7FFF_FFFF) ∷
    line (hex 8 0x464A010700000080) [] 0 (number_at 3) (bits_are 7 0xFFFF_FFFF_8000_0000) ∷
    line (hex 8 0x464A010801000080) [] 0 (number_at 3) (bits_are 8 0x8000_0001) ∷
    line (hex 12 0x464A0109FFFFFFFFFFFFFF7F) [] 0 (number_at 3) (bits_are 9 0x7FFF_FFFF_FFFF_FFFF) ∷
    line (hex 12 0x464A01090000000000000080) [] 0 (number_at 3) (bits_are 9 0x8000_0000_0000_0000) ∷
    line (hex 12 0x464A010C000000000000F8BF) [] 0 (number_at 3) (bits_are 12 0xBFF8_0000_0000_0000) ∷
    line (hex 8 0x464A010B000080BF) [] 0 (number_at 3) (bits_are 11 3_212_836_864) ∷
    line (hex 12 0x464A010AFFFFFFFFFFFFFFFF) [] 0 (number_at 3) (bits_are 10 18_446_744_073_709_551_615) ∷
    line (hex 8 0x464A010B0000807F) [] 0 (number_at 3) (refused 43 3) ∷
    line (hex 5 0x464A010B00) [] 0 (number_at 3) (refused 35 3) ∷
    line (hex 4 0x464A0103) [] 0 (number_at 3) (refused 35 3) ∷
    -- the string
    line (hex 4 0x464A0116) [] 0 (string_at 3) (span_is 4 0) ∷
    line (hex 5 0x464A011761) [] 0 (string_at 3) (span_is 4 1) ∷
    line (hex 4 0x464A0118) [] 0 (string_at 3) (refused 35 3) ∷
    line (hex 5 0x464A010E00) [] 0 (string_at 3) (refused 35 3) ∷
    line (hex 8 0x464A010E02006162) [] 0 (string_at 3) (span_is 6 2) ∷
    line (hex 7 0x464A010E020061) [] 0 (string_at 3) (refused 35 3) ∷
    line (hex 5 0x464A011761) [] 0 (string_bytes_at 3) (bytes_are (97 ∷ [])) ∷
    line (hex 4 0x464A0118) [] 0 (string_bytes_at 3) (bytes_are []) ∷
    -- element i: the value sought is not read, those before it are walked
    line (hex 5 0x464A019FFE) [] 0 (element_at 3 0) (place_is 4) ∷
    line (hex 8 0x464A0115FFFFFFFF) [] 0 (element_at 3 0) (place_is 8) ∷
    line (hex 14 0x464A01A00C000000000000F07F00) [] 0 (element_at 3 0) (place_is 4) ∷
    line (hex 14 0x464A01A00C000000000000F07F00) [] 0 (element_at 3 1) (refused 43 4) ∷
    line (hex 8 0x464A01A06F570001) (5 ∷ 99 ∷ []) 1 (element_at 3 1) (refused 38 5) ∷
    line (hex 8 0x464A01A06F570001) (5 ∷ 1 ∷ []) 1 (element_at 3 1) (place_is 7) ∷
    line (hex 8 0x464A01A06F570001) (5 ∷ 1 ∷ []) 0 (element_at 3 1) (refused 38 5) ∷
    line (hex 4 0x464A01A0 ++ replicate (deepest - 1) 0x9F ++ hex 2 0x9E00) [] 0 (element_at 3 1) (refused 41 (4 + (deepest - 1))) ∷
    line (hex 4 0x464A01A0 ++ replicate (deepest - 2) 0x9F ++ hex 2 0x9E00) [] 0 (element_at 3 1) (place_is (4 + (deepest - 1))) ∷
    -- member j: its own key is read
    line (hex 4 0x464A016F) [] 0 (member_at 3 0) (refused 35 4) ∷
    line (hex 7 0x464A016F046102) [] 0 (member_at 3 0) (places_are 4 6) ∷
    line (hex 9 0x464A01700461005701) (5 ∷ 1 ∷ []) 1 (member_at 3 1) (places_are 7 8) ∷
    line (hex 9 0x464A0170046100AB00) [] 0 (member_at 3 0) (places_are 4 6) ∷
    line (hex 9 0x464A0170046100AB00) [] 0 (member_at 3 1) (refused 38 7) ∷
    line (hex 5 0x464A016FFF) [] 0 (member_at 3 0) (refused 36 4) ∷
    line (hex 6 0x464A016F0561) [] 0 (member_at 3 0) (refused 35 4) ∷
    -- 38 of its own key, of a key before it, and in a value before it
    line (hex 6 0x464A016F5700) (4 ∷ 1 ∷ []) 0 (member_at 3 0) (refused 38 4) ∷
    line (hex 9 0x464A01705700046100) (4 ∷ 1 ∷ []) 0 (member_at 3 1) (refused 38 4) ∷
    line (hex 12 0x464A017004616F5700046200) (4 ∷ 1 ∷ []) 0 (member_at 3 1) (refused 38 7) ∷
    line (hex 12 0x464A017004616F5700046200) (4 ∷ 1 ∷ []) 1 (member_at 3 1) (places_are 9 11) ∷
    line (hex 10 0x464A01100203000461FE) [] 0 (member_at 3 1) (places_are 7 9) ∷
    -- the levels left are those below the object asked
    line (hex 6 0x464A01700461 ++ replicate (deepest - 1) 0x9F ++ hex 4 0x9E046200) [] 0 (member_at 3 1) (refused 41 (6 + (deepest - 1))) ∷
    line (hex 6 0x464A01700461 ++ replicate (deepest - 2) 0x9F ++ hex 4 0x9E046200) [] 0 (member_at 3 1) (places_are (6 + (deepest - 1)) (8 + (deepest - 1))) ∷
    line (hex 6 0x464A01700461 ++ replicate (deepest - 1) 0x9F ++ hex 4 0x9E046200) [] 0 (first_member_of 3 (98 ∷ [])) (refused 41 (6 + (deepest - 1))) ∷
    line (hex 6 0x464A01700461 ++ replicate (deepest - 2) 0x9F ++ hex 4 0x9E046200) [] 0 (first_member_of 3 (98 ∷ [])) (place_is (8 + (deepest - 1))) ∷
    -- the first member by key: after the last key nothing is read
    line (hex 6 0x464A016F0461) [] 0 (first_member_of 3 (97 ∷ [])) (place_is 6) ∷
    line (hex 6 0x464A016F0461) [] 0 (first_member_of 3 (98 ∷ [])) absent ∷
    line (hex 7 0x464A016F0461FE) [] 0 (first_member_of 3 (98 ∷ [])) absent ∷
    line (hex 10 0x464A01700461FE046200) [] 0 (first_member_of 3 (99 ∷ [])) (refused 36 6) ∷
    line (hex 8 0x464A0170046100FE) [] 0 (first_member_of 3 (99 ∷ [])) (refused 38 7) ∷
    line (hex 10 0x464A0170046100046101) [] 0 (first_member_of 3 (97 ∷ [])) (place_is 6) ∷
    line (hex 9 0x464A0170AB00046100) [] 0 (first_member_of 3 (97 ∷ [])) (refused 38 4) ∷
    line (hex 8 0x464A0170046100FF) [] 0 (first_member_of 3 (97 ∷ [])) (place_is 6) ∷
    line (hex 8 0x464A0170046100FF) [] 0 (first_member_of 3 (98 ∷ [])) (refused 36 7) ∷
    line (hex 4 0x464A016E) [] 0 (first_member_of 3 []) absent ∷
    line (hex 9 0x464A01700461005701) (0 ∷ 2 ∷ []) 1 (first_member_of 3 (70 ∷ 74 ∷ [])) (place_is 8) ∷
    line (hex 6 0x464A016F5700) (6 ∷ 0 ∷ []) 1 (first_member_of 3 []) (place_is 5) ∷
    -- 38 of the last key, of one before it, in a value, and of a later key
    line (hex 6 0x464A016F5700) (4 ∷ 1 ∷ []) 0 (first_member_of 3 (98 ∷ [])) (refused 38 4) ∷
    line (hex 9 0x464A01705700046200) (4 ∷ 1 ∷ []) 0 (first_member_of 3 (98 ∷ [])) (refused 38 4) ∷
    line (hex 12 0x464A017004616F5700046200) (4 ∷ 1 ∷ []) 0 (first_member_of 3 (98 ∷ [])) (refused 38 7) ∷
    line (hex 9 0x464A01700461005700) (5 ∷ 1 ∷ []) 0 (first_member_of 3 (98 ∷ [])) (refused 38 7) ∷
    line (hex 12 0x464A01710461000462000463) [] 0 (first_member_of 3 (99 ∷ [])) (place_is 12) ∷
    line (hex 8 0x464A011101000461) [] 0 (first_member_of 3 (97 ∷ [])) (place_is 8) ∷
    -- a global key's text is the name
    line_with two_names (hex 9 0x464A0170AB00046101) [] 0 (end_at 3) (place_is 9) ∷
    line_with two_names (hex 9 0x464A0170AB00AC0100) [] 0 (member_at 3 1) (places_are 6 7) ∷
    line_with two_names (hex 9 0x464A0170AB00046101) [] 0 (first_member_of 3 (97 ∷ [])) (place_is 5) ∷
    line_with two_names (hex 8 0x464A0170AB00AC01) [] 0 (first_member_of 3 (98 ∷ [])) (place_is 7) ∷
    line_with two_names (hex 8 0x464A0170AB00AC01) [] 0 (first_member_of 3 (99 ∷ [])) absent ∷
    line_with two_names (hex 8 0x464A0170AB00AD01) [] 0 (first_member_of 3 (99 ∷ [])) (refused 38 6) ∷
    -- a key at its key byte
    line (hex 7 0x464A016F046100) [] 0 (key_at 7) (refused 35 7) ∷
    line (hex 7 0x464A016FFF6100) [] 0 (key_at 4) (refused 36 4) ∷
    line (hex 8 0x464A016F00FFFF04) [] 0 (key_at 4) (refused 37 7) ∷
    line (hex 6 0x464A016F0561) [] 0 (key_at 4) (refused 35 4) ∷
    line (hex 7 0x464A016F046100) [] 0 (key_at 4) (in_document 5 1 6) ∷
    line (hex 7 0x464A016F046100) [] 0 (key_bytes_at 4) (bytes_are (97 ∷ [])) ∷
    line (hex 9 0x464A01700461005701) (5 ∷ 1 ∷ []) 1 (key_at 7) (in_document 5 1 8) ∷
    line (hex 9 0x464A01700461005701) (5 ∷ 1 ∷ []) 1 (key_bytes_at 7) (bytes_are (97 ∷ [])) ∷
    line (hex 9 0x464A01700461005701) (5 ∷ 1 ∷ []) 0 (key_at 7) (refused 38 7) ∷
    line (hex 9 0x464A01700461005701) (5 ∷ 1 ∷ []) 0 (key_bytes_at 7) (bytes_are []) ∷
    -- without 39 and 40
    line (hex 10 0x464A0170046100046101) [] 0 (key_at 7) (in_document 8 1 9) ∷
    line_with two_names (hex 6 0x464A016FAB00) [] 0 (key_at 4) (in_list 5 1 5) ∷
    line_with two_names (hex 6 0x464A016FAC00) [] 0 (key_at 4) (in_list 8 1 5) ∷
    line_with two_names (hex 9 0x464A016F0281800000) [] 0 (key_at 4) (in_list 8 1 8) ∷
    line_with two_names (hex 6 0x464A016FAC00) [] 0 (key_bytes_at 4) (bytes_are (98 ∷ [])) ∷
    line_with two_names (hex 6 0x464A016FAD00) [] 0 (key_at 4) (refused 38 4) ∷
    line_with two_names (hex 6 0x464A016FAD00) [] 0 (key_bytes_at 4) (bytes_are []) ∷
    []

pub questions_say : Say lines
unfolding follow ◌>>=◌ need choose number finite by_numbers compare_texts form_of key_form_of header byte_at payload length_at text_at after_second after_first key_number_at
    in_turn member value_by value key_by met names_from key_list steps name_of room_of opening text_key back_key name_key read_key pass_key end_of kind_by kind_here kind number_by number_here
    Questions.number_at wanted_by wanted_here string_here Questions.string_at element_from element_here Questions.element_at member_from member_here Questions.member_at find_from find_in first_here first_member Questions.key_at
questions_say = refl

-- ---- the tree with places

record Placed : Type 0 where
  doc : List ℕ
  list : List ℕ
  says : Node

abbrev placed : List ℕ → Node → Placed
placed doc says = record { doc = doc; list = no_names; says = says }

abbrev whole : ℕ → Scalar
whole n = s_num false (scaled n)

-- an array of a value, which stands at 4, and null
abbrev beside : List ℕ → Node → Placed
beside value says = placed (hex 4 0x464A01A0 ++ value ++ hex 1 0x00) (Node.list 3 (cons says (cons (leaf (4 + length value) s_null) nil)))

-- a node in arrays of one element each, the first of them at a place
abbrev in_arrays : ℕ → ℕ → Node → Node
in_arrays at zero n = n
in_arrays at (suc levels) n = Node.list at (cons (in_arrays (at + 1) levels n) nil)

abbrev trees : List Placed
trees =
    -- a scalar root: null, false, -32, 1.5, "a"
    placed (hex 4 0x464A0100) (leaf 3 s_null) ∷
    placed (hex 4 0x464A0101) (leaf 3 (s_bool false)) ∷
    placed (hex 4 0x464A01BE) (leaf 3 (s_num true (scaled 32))) ∷
    placed (hex 8 0x464A010B0000C03F) (leaf 3 (s_num false (3 * 2 ^ 1073))) ∷
    placed (hex 5 0x464A011761) (leaf 3 (s_str (97 ∷ []))) ∷
    -- [], {}, [-32,31], {"a":true}
    placed (hex 4 0x464A019E) (Node.list 3 nil) ∷
    placed (hex 4 0x464A016E) (dict 3 last) ∷
    placed (hex 6 0x464A01A0BEFD) (Node.list 3 (cons (leaf 4 (s_num true (scaled 32))) (cons (leaf 5 (whole 31)) nil))) ∷
    placed (hex 7 0x464A016F046102) (dict 3 (field 4 (97 ∷ []) (leaf 6 (s_bool true)) last)) ∷
    -- [{"a":null},{"a":1}]: the second key is a back reference
    placed (hex 11 0x464A01A06F0461006F57DF)
    (Node.list 3 (cons (dict 4 (field 5 (97 ∷ []) (leaf 7 s_null) last)) (cons (dict 8 (field 9 (97 ∷ []) (leaf 10 (whole 1)) last)) nil))) ∷
    -- {"ab":1,"c":{"d":null},"e":2}
    placed (hex 17 0x464A0171056162DF04636F0464000465E0)
    (dict 3 (field 4 (97 ∷ 98 ∷ []) (leaf 7 (whole 1)) (field 8 (99 ∷ []) (dict 10 (field 11 (100 ∷ []) (leaf 13 s_null) last)) (field 14 (101 ∷ []) (leaf 16 (whole 2)) last)))) ∷
    -- ["ab",{"a":true}], with each length in 8 bits
    placed (hex 14 0x464A0113020D0261621001046102)
    (Node.list 3 (cons (leaf 5 (s_str (97 ∷ 98 ∷ []))) (cons (dict 9 (field 11 (97 ∷ []) (leaf 13 (s_bool true)) last)) nil))) ∷
    -- [{"":1},2], with lengths in 16 and 32 bits and the key's length in three bytes
    placed (hex 17 0x464A01140200120100000000808000DFE0) (Node.list 3 (cons (dict 6 (field 11 [] (leaf 15 (whole 1)) last)) (cons (leaf 16 (whole 2)) nil))) ∷
    -- every type byte below 16, and one of each range after it; the numbers with their top bit set
    beside (hex 1 0x00) (leaf 4 s_null) ∷
    beside (hex 1 0x01) (leaf 4 (s_bool false)) ∷
    beside (hex 1 0x02) (leaf 4 (s_bool true)) ∷
    beside (hex 2 0x0381) (leaf 4 (s_num true (scaled 127))) ∷
    beside (hex 2 0x0481) (leaf 4 (whole 129)) ∷
    beside (hex 3 0x050180) (leaf 4 (s_num true (scaled 32_767))) ∷
    beside (hex 3 0x060180) (leaf 4 (whole 32_769)) ∷
    beside (hex 5 0x0701000080) (leaf 4 (s_num true (scaled 2_147_483_647))) ∷
    beside (hex 5 0x0801000080) (leaf 4 (whole 2_147_483_649)) ∷
    beside (hex 9 0x090100000000000080) (leaf 4 (s_num true (scaled 9_223_372_036_854_775_807))) ∷
    beside (hex 9 0x0A0100000000000080) (leaf 4 (whole 9_223_372_036_854_775_809)) ∷
    beside (hex 5 0x0B0000C0BF) (leaf 4 (s_num true (3 * 2 ^ 1073))) ∷
    beside (hex 9 0x0C000000000000F8BF) (leaf 4 (s_num true (3 * 2 ^ 1073))) ∷
    beside (hex 3 0x0D0161) (leaf 4 (s_str (97 ∷ []))) ∷
    beside (hex 5 0x0E02006162) (leaf 4 (s_str (97 ∷ 98 ∷ []))) ∷
    beside (hex 8 0x0F03000000616263) (leaf 4 (s_str (97 ∷ 98 ∷ 99 ∷ []))) ∷
    beside (hex 5 0x1001000000) (dict 4 (field 6 [] (leaf 8 s_null) last)) ∷
    beside (hex 6 0x110100000000) (dict 4 (field 7 [] (leaf 9 s_null) last)) ∷
    beside (hex 8 0x1201000000000000) (dict 4 (field 9 [] (leaf 11 s_null) last)) ∷
    beside (hex 3 0x130100) (Node.list 4 (cons (leaf 6 s_null) nil)) ∷
    beside (hex 4 0x14010000) (Node.list 4 (cons (leaf 7 s_null) nil)) ∷
    beside (hex 6 0x150100000000) (Node.list 4 (cons (leaf 9 s_null) nil)) ∷
    beside (hex 3 0x186162) (leaf 4 (s_str (97 ∷ 98 ∷ []))) ∷
    beside (hex 3 0x6F0300) (dict 4 (field 5 [] (leaf 6 s_null) last)) ∷
    beside (hex 2 0x9F00) (Node.list 4 (cons (leaf 5 s_null) nil)) ∷
    beside (hex 1 0xDD) (leaf 4 (s_num true (scaled 1))) ∷
    -- at the last level
    placed (nested (deepest - 1) (hex 3 0xA0DFE0))
    (in_arrays 3 (deepest - 1) (Node.list (2 + deepest) (cons (leaf (3 + deepest) (whole 1)) (cons (leaf (4 + deepest) (whole 2)) nil)))) ∷
    -- {"a":null,"bc":false,"bc":true}, and {"a":null,"a":false,"a":true} with an index in two bytes
    placed (hex 13 0x464A0171046100056263015802)
    (dict 3 (field 4 (97 ∷ []) (leaf 6 s_null) (field 7 (98 ∷ 99 ∷ []) (leaf 10 (s_bool false)) (field 11 (98 ∷ 99 ∷ []) (leaf 12 (s_bool true)) last)))) ∷
    placed (hex 13 0x464A0171046100570101800002)
    (dict 3 (field 4 (97 ∷ []) (leaf 6 s_null) (field 7 (97 ∷ []) (leaf 8 (s_bool false)) (field 9 (97 ∷ []) (leaf 12 (s_bool true)) last)))) ∷
    -- {"a":true}, with the key's length in one byte and in two
    placed (hex 8 0x464A016F00016102) (dict 3 (field 4 (97 ∷ []) (leaf 7 (s_bool true)) last)) ∷
    placed (hex 9 0x464A016F0081006102) (dict 3 (field 4 (97 ∷ []) (leaf 8 (s_bool true)) last)) ∷
    -- {"b":true}, whose key is a name, and {"b":null,"a":false}, with an index in two bytes
    record { doc = hex 6 0x464A016FAC02; list = two_names; says = dict 3 (field 4 (98 ∷ []) (leaf 5 (s_bool true)) last) } ∷
    record { doc = hex 10 0x464A017002810000AB01; list = two_names; says = dict 3 (field 4 (98 ∷ []) (leaf 7 s_null) (field 8 (97 ∷ []) (leaf 9 (s_bool false)) last)) } ∷
    []

pub places_say : map (λ p. fractured_node 4 p.doc p.list) trees ≡ map (λ p. p.says) trees
unfolding follow ◌>>=◌ need choose number by_numbers compare_texts finite magnitude float_tree whole_tree signed_tree tiny_tree form_of key_form_of header byte_at payload length_at text_at after_second after_first key_number_at in_turn member value_by value key_by met names_from key_list
    new_key old_key listed_key check_key document check steps name_of spelled_in key_end end_by TreeOf.end_at key_text_at value_trees member_trees tree_by tree_at tree_of contents_by value_node fractured_node
places_say = refl

-- ---- where the elements of an array and the keys of an object stand: ["ab",{"a":true},1] and {"ab":1,"c":{"d":null},"e":2}

pub element_places : map (element_place (hex 12 0x464A01A11861626F046102DF) 3 (tiny 3)) (0 ∷ 1 ∷ 2 ∷ []) ≡ 4 ∷ 7 ∷ 11 ∷ []
unfolding choose number form_of key_form_of steps spelled_in key_end end_by TreeOf.end_at
element_places = refl

pub key_places : map (key_place (hex 18 0x464A011003056162DF04636F0464000465E0) 3 (after one)) (0 ∷ 1 ∷ 2 ∷ []) ≡ 5 ∷ 9 ∷ 15 ∷ []
unfolding choose number form_of key_form_of steps spelled_in key_end end_by TreeOf.end_at
key_places = refl

-- ---- what a tree says to the questions

abbrev as_trees : List Tree
as_trees =
    null ∷ bool false ∷ bool true ∷ num true 5 ∷ str (97 ∷ 98 ∷ []) ∷ arr (more null (more null (more null none))) ∷
    obj (Tree.member [] null (Tree.member (97 ∷ []) null end)) ∷ []

pub kinds_are : map kind_of as_trees ≡ is_null ∷ is_false ∷ is_true ∷ is_number ∷ is_string 2 ∷ is_array 3 ∷ is_object 2 ∷ []
unfolding kind_of
kinds_are = refl

record Valued : Type 0 where
  type : ℕ
  bits : ℕ
  says : Tree

abbrev means : ℕ → ℕ → Tree → Valued
means type bits says = record { type = type; bits = bits; says = says }

-- by its type byte and 64 bits
abbrev values : List Valued
values =
    means 0x03 0x7F (num false (scaled 127)) ∷
    means 0x03 0xFFFF_FFFF_FFFF_FF80 (num true (scaled 128)) ∷
    means 0x04 0x80 (num false (scaled 128)) ∷
    means 0x05 0xFFFF_FFFF_FFFF_8000 (num true (scaled 32_768)) ∷
    means 0x06 0x8000 (num false (scaled 32_768)) ∷
    means 0x07 0xFFFF_FFFF_8000_0000 (num true (scaled 2_147_483_648)) ∷
    means 0x08 0x8000_0000 (num false (scaled 2_147_483_648)) ∷
    means 0x09 0x7FFF_FFFF_FFFF_FFFF (num false (scaled 9_223_372_036_854_775_807)) ∷
    means 0x09 0x8000_0000_0000_0000 (num true (scaled 9_223_372_036_854_775_808)) ∷
    means 0x0A 0xFFFF_FFFF_FFFF_FFFF (num false (scaled 18_446_744_073_709_551_615)) ∷
    means 0x0B 0xBFC0_0000 (num true (3 * 2 ^ 1073)) ∷
    means 0x0C 0xBFF8_0000_0000_0000 (num true (3 * 2 ^ 1073)) ∷
    means 0xBE 0xFFFF_FFFF_FFFF_FFE0 (num true (scaled 32)) ∷
    means 0xFD 0x1F (num false (scaled 31)) ∷
    []

pub values_are : map (λ v. value_of (record { type = v.type; bits = v.bits })) values ≡ map (λ v. v.says) values
unfolding choose form_of magnitude float_tree whole_tree signed_tree Answers.value_by
values_are = refl

-- ---- what documents and key lists mean: proved, since these are relations. Each says that something has a meaning, or has none

-- "a", and the immediate key "a" of a document that begins with it
abbrev a : List ℕ
a = 97 ∷ []

abbrev key_a : Keys
key_a = record { start = 5; len = 1 } ∷ []

-- the names of two_names
abbrev ab : Names
ab = a ∷ (98 ∷ []) ∷ []

starts : {doc : List ℕ} {o : ℕ} {form : Form} → T (ltb o (length doc)) → form_of (get_or doc o 0) ≡ form → Starts doc o form
starts i f = record { inside = ltb→lt _ _ i; form_is = f }

key_starts : {doc : List ℕ} {o : ℕ} {form : KeyForm} → T (ltb o (length doc)) → key_form_of (get_or doc o 0) ≡ form → KeyStarts doc o form
key_starts i f = record { inside = ltb→lt _ _ i; form_is = f }

text_is : {doc : List ℕ} {o n : ℕ} {t : List ℕ} → T (leb (o + n) (length doc)) → t ≡ part doc o n → TextIs doc o n t
text_is i s = record { inside = leb→le _ _ i; same = s }

no_names_listed : Lists no_names []
unfolding number Distinct
no_names_listed = record { counted = leb→le _ _ tt; config = refl; count = refl; laid_out = refl; distinct = λ i j h k e. omega arith }

two_apart : (i j : ℕ) → i < j → j < 2 → get_or ab i [] ≢ get_or ab j []
two_apart zero zero h k e = omega arith
two_apart zero (suc zero) h k e = let w : ◌≡◌ {A = ℕ} 97 98 = cc in omega arith
two_apart zero (suc (suc j)) h k e = omega arith
two_apart (suc i) zero h k e = omega arith
two_apart (suc i) (suc zero) h k e = omega arith
two_apart (suc i) (suc (suc j)) h k e = omega arith

pub two_names_listed : Lists two_names ab
unfolding number Distinct
two_names_listed = record {
  counted = leb→le _ _ tt;
  config = refl;
  count = refl;
  laid_out = (leb→le _ _ tt, text_is tt refl, (leb→le _ _ tt, text_is tt refl, refl));
  distinct = two_apart;
}

headed_by : (doc : List ℕ) → T (leb least_fractured (length doc)) → T (leb (length doc) longest) → get_or doc 0 0 ≡ 0x46 → get_or doc 1 0 ≡ 0x4A → get_or doc 2 0 ≡ 0x01 → Headed doc
headed_by doc l s m n c = record { long = leb→le _ _ l; short = leb→le _ _ s; magic0 = m; magic1 = n; config = c }

-- a document with the list without a name, and one with two_names
plainly : (doc : List ℕ) (t : Tree) (ks : Keys) → Headed doc → ValueIs doc [] t 3 [] (length doc) ks → T (leb (depth t) deepest) → Means doc no_names t
plainly doc t ks h r d = record { names = []; listed = no_names_listed; headed = h; keys = ks; root = r; nested = leb→le _ _ d }

with_names : (doc : List ℕ) (t : Tree) (ks : Keys) → Headed doc → ValueIs doc ab t 3 [] (length doc) ks → T (leb (depth t) deepest) → Means doc two_names t
with_names doc t ks h r d = record { names = ab; listed = two_names_listed; headed = h; keys = ks; root = r; nested = leb→le _ _ d }

-- {"a":null} with an immediate key, though "a" is a name
pub name_may_be_immediate : Means (hex 7 0x464A016F046100) two_names (obj (Tree.member a null end))
unfolding choose form_of key_form_of Fresh
name_may_be_immediate =
    with_names _ _ key_a (headed_by _ tt tt refl refl refl) (
      tiny 1,
      starts tt refl,
      refl,
      (
        6,
        key_a,
        7,
        key_a,
        as_text (in_byte 1) 1 5 (key_starts tt refl) (refl, refl) (text_is tt refl) (λ j i e. omega arith) refl refl,
        (starts tt refl, refl, refl),
        (refl, refl),
      ),
    ) tt

-- {"a":{"a":null}}: the inner key is a back reference to the outer one, which is met before its value
pub key_met_before_its_value : Means (hex 9 0x464A016F04616F5700) no_names (obj (Tree.member a (obj (Tree.member a null end)) end))
unfolding choose form_of key_form_of Fresh
key_met_before_its_value =
    plainly _ _ key_a (headed_by _ tt tt refl refl refl) (
      tiny 1,
      starts tt refl,
      refl,
      (
        6,
        key_a,
        9,
        key_a,
        as_text (in_byte 1) 1 5 (key_starts tt refl) (refl, refl) (text_is tt refl) (λ j i e. omega arith) refl refl,
        (tiny 1, starts tt refl, refl, (8, key_a, 9, key_a, as_back (in_byte 0) 0 (key_starts tt refl) (refl, refl) (ltb→lt _ _ tt) refl refl, (starts tt refl, refl, refl), (refl, refl))),
        (refl, refl),
      ),
    ) tt

-- {"a":null,"a":false}: a key may occur twice in one object
pub key_may_occur_twice : Means (hex 9 0x464A01700461005701) no_names (obj (Tree.member a null (Tree.member a (bool false) end)))
unfolding choose form_of key_form_of Fresh
key_may_occur_twice =
    plainly _ _ key_a (headed_by _ tt tt refl refl refl) (
      tiny 2,
      starts tt refl,
      refl,
      (
        6,
        key_a,
        7,
        key_a,
        as_text (in_byte 1) 1 5 (key_starts tt refl) (refl, refl) (text_is tt refl) (λ j i e. omega arith) refl refl,
        (starts tt refl, refl, refl),
        (8, key_a, 9, key_a, as_back (in_byte 0) 0 (key_starts tt refl) (refl, refl) (ltb→lt _ _ tt) refl refl, (starts tt refl, refl, refl), (refl, refl)),
      ),
    ) tt

-- {"b":true} by a global index
pub global_key_means_its_name : Means (hex 6 0x464A016FAC02) two_names (obj (Tree.member (98 ∷ []) (bool true) end))
unfolding choose form_of key_form_of
global_key_means_its_name =
    with_names _ _ [] (headed_by _ tt tt refl refl refl)
    (tiny 1, starts tt refl, refl, (5, [], 6, [], as_global (in_byte 1) 1 (key_starts tt refl) (refl, refl) (ltb→lt _ _ tt) refl refl, (starts tt refl, refl, refl), (refl, refl))) tt

-- [-32,1.5,"ab",-127,32769], the array's length and the string's after their type bytes
pub array_of_scalars : Means (hex 20 0x464A011305BE0B0000C03F0D0261620381060180) no_names (arr (more (num true (scaled 32)) (more (num false (3 * 2 ^ 1073)) (more (str (97 ∷ 98 ∷ [])) (more (num true (scaled 127)) (more (num false (scaled 32_769)) none))))))
unfolding choose number finite magnitude float_tree whole_tree signed_tree tiny_tree form_of
array_of_scalars =
    plainly _ _ [] (headed_by _ tt tt refl refl refl) (
      after one,
      starts tt refl,
      (leb→le _ _ tt, refl),
      (
        6,
        [],
        (as_tiny 190 (starts tt refl) refl refl, refl),
        (
          11,
          [],
          (as_float binary32 four (starts tt refl) (leb→le _ _ tt) tt refl refl, refl),
          (
            15,
            [],
            (after one, 2, starts tt refl, (leb→le _ _ tt, refl), text_is tt refl, refl, refl),
            (
              17,
              [],
              (as_int true one (starts tt refl) (leb→le _ _ tt) refl refl, refl),
              (20, [], (as_int false two (starts tt refl) (leb→le _ _ tt) refl refl, refl), (refl, refl)),
            ),
          ),
        ),
      ),
    ) tt

-- a v_uint16 after the byte at 1, in one to three bytes; a third byte of 4 is none, and neither is a number that is cut off
pub spelled_in_one : Spelled (hex 3 0xFF007F) 1 127 3
spelled_in_one = one_byte (ltb→lt _ _ tt) (ltb→lt _ _ tt) refl refl

pub spelled_in_two : Spelled (hex 4 0xFF00FF7F) 1 16_383 4
spelled_in_two = two_bytes (ltb→lt _ _ tt) (leb→le _ _ tt) (ltb→lt _ _ tt) refl refl

pub spelled_in_three : Spelled (hex 5 0xFF00FFFF03) 1 65_535 5
spelled_in_three = three_bytes (ltb→lt _ _ tt) (leb→le _ _ tt) (leb→le _ _ tt) (leb→le _ _ tt) refl refl

pub third_byte_4 : (n e : ℕ) → Spelled (hex 5 0xFF00808004) 1 n e → ⊥
third_byte_4 n e (one_byte i b p q) = let w : 128 < 128 = b in omega arith
third_byte_4 n e (two_bytes i b0 b1 p q) = let w : 128 < 128 = b1 in omega arith
third_byte_4 n e (three_bytes i b0 b1 b2 p q) = let w : 4 ≤ 3 = b2 in omega arith

pub spelling_cut_off : (n e : ℕ) → Spelled (hex 3 0xFF0080) 1 n e → ⊥
spelling_cut_off n e (one_byte i b p q) = let w : 128 < 128 = b in omega arith
spelling_cut_off n e (two_bytes i b0 b1 p q) = let w : 3 < 3 = i in omega arith
spelling_cut_off n e (three_bytes i b0 b1 b2 p q) = let w : 4 < 3 = i in omega arith

-- ---- what has none: a key of none of three forms

-- 38: a back reference before any key; 38: an index at the count of names; 36; 39: "a" once more
pub back_reference_to_none : (names : Names) (t : List ℕ) (e : ℕ) (kz : Keys) → KeyIs (hex 6 0x464A016F5700) names t 4 [] e kz → ⊥
unfolding choose key_form_of
back_reference_to_none names t e kz (as_text x n b s i y f p q) = let g = s.form_is in let w : ◌≡◌ {A = ℕ} 0 1 = cc in omega arith
back_reference_to_none names t e kz (as_back x j s i h y q) = omega arith
back_reference_to_none names t e kz (as_global x j s i h y q) = let g = s.form_is in let w : ◌≡◌ {A = ℕ} 0 1 = cc in omega arith

pub global_index_at_the_count : (t : List ℕ) (e : ℕ) (kz : Keys) → KeyIs (hex 6 0x464A016FAD00) ab t 4 [] e kz → ⊥
unfolding choose key_form_of
global_index_at_the_count t e kz (as_text x n b s i y f p q) = let g = s.form_is in let w : ◌≡◌ {A = ℕ} 0 1 = cc in omega arith
global_index_at_the_count t e kz (as_back x j s i h y q) = let g = s.form_is in let w : ◌≡◌ {A = ℕ} 0 1 = cc in omega arith
global_index_at_the_count t e kz (as_global x j s i h y q) =
    let g = s.form_is in let w : x ≡ in_byte 2 = cc in let (u, v) = rw w at i in let r : j < 2 = h in omega arith

pub reserved_key : (t : List ℕ) (e : ℕ) (kz : Keys) → KeyIs (hex 5 0x464A016FFF) [] t 4 [] e kz → ⊥
unfolding choose key_form_of
reserved_key t e kz (as_text x n b s i y f p q) = let g = s.form_is in let w : ◌≡◌ {A = ℕ} 0 1 = cc in omega arith
reserved_key t e kz (as_back x j s i h y q) = let g = s.form_is in let w : ◌≡◌ {A = ℕ} 0 1 = cc in omega arith
reserved_key t e kz (as_global x j s i h y q) = let g = s.form_is in let w : ◌≡◌ {A = ℕ} 0 1 = cc in omega arith

pub immediate_key_met_before : (t : List ℕ) (e : ℕ) (kz : Keys) → KeyIs (hex 10 0x464A0170046100046100) [] t 7 key_a e kz → ⊥
unfolding choose key_form_of Fresh
immediate_key_met_before t e kz (as_text x n b s i y f p q) =
    let g = s.form_is in
    let w : x ≡ in_byte 1 = cc in
    let (u, v) = rw w at i in
    let same : t ≡ part (hex 10 0x464A0170046100046100) 8 1 = rw (u, v) at y.same in
    f 0 (ltb→lt _ _ tt) (sym same)
immediate_key_met_before t e kz (as_back x j s i h y q) = let g = s.form_is in let w : ◌≡◌ {A = ℕ} 0 1 = cc in omega arith
immediate_key_met_before t e kz (as_global x j s i h y q) = let g = s.form_is in let w : ◌≡◌ {A = ℕ} 0 1 = cc in omega arith

-- ---- a number: 43 infinity, 35 a byte short

pub no_infinity : (t : Tree) (e : ℕ) → NumberIs (hex 5 0x0B0000807F) t 0 e → ⊥
unfolding choose number finite form_of
no_infinity t e (as_tiny b s p q) = let g = s.form_is in let w : ◌≡◌ {A = ℕ} 0 1 = cc in omega arith
no_infinity t e (as_int g w s i p q) = let h = s.form_is in let z : ◌≡◌ {A = ℕ} 0 1 = cc in omega arith
no_infinity t e (as_float f w s i n p q) = let g = s.form_is in let u : f ≡ binary32 = cc in let v : w ≡ four = cc in rw (u, v) at n

pub number_cut_off : (t : Tree) (e : ℕ) → NumberIs (hex 2 0x0500) t 0 e → ⊥
unfolding choose form_of
number_cut_off t e (as_tiny b s p q) = let g = s.form_is in let w : ◌≡◌ {A = ℕ} 0 1 = cc in omega arith
number_cut_off t e (as_int g w s i p q) = let h = s.form_is in let v : w ≡ two = cc in let z : 3 ≤ 2 = rw v at i in omega arith
number_cut_off t e (as_float f w s i n p q) = let g = s.form_is in let u : ◌≡◌ {A = ℕ} 0 1 = cc in omega arith

-- ---- a whole document: 42 a byte after {}, and 38 in {<0>:null}

no_number : (doc : List ℕ) (o e : ℕ) (x : Len) (t : Tree) → form_of (get_or doc o 0) ≡ f_object x → NumberIs doc t o e → ⊥
no_number doc o e x t f (as_tiny b s p q) = let g = s.form_is in let w : ◌≡◌ {A = ℕ} 0 1 = cc in omega arith
no_number doc o e x t f (as_int g w s i p q) = let h = s.form_is in let z : ◌≡◌ {A = ℕ} 0 1 = cc in omega arith
no_number doc o e x t f (as_float k w s i n p q) = let g = s.form_is in let z : ◌≡◌ {A = ℕ} 0 1 = cc in omega arith

-- what begins as an object is one
module _ (doc : List ℕ) (names : Names) (o e : ℕ) (kz : Keys) where
  object_is : (x : Len) (t : Tree) → form_of (get_or doc o 0) ≡ f_object x → ValueIs doc names t o [] e kz
      → (ms : Members) × LengthIs doc o x (sizem ms) × MembersAre doc names ms (after_length o x) [] e kz
  object_is x null f h = absurd (let g = h.0.form_is in let w : ◌≡◌ {A = ℕ} 0 1 = cc in omega arith)
  object_is x (bool b) f h = absurd (let g = h.0.form_is in let w : ◌≡◌ {A = ℕ} 0 1 = cc in omega arith)
  object_is x (num s m) f h = absurd (no_number doc o e x (num s m) f h.0)
  object_is x (str t) f h = absurd (let g = h.2.form_is in let w : ◌≡◌ {A = ℕ} 0 1 = cc in omega arith)
  object_is x (arr ts) f h = absurd (let g = h.1.form_is in let w : ◌≡◌ {A = ℕ} 0 1 = cc in omega arith)
  object_is x (obj ms) f h = let g = h.1.form_is in let w : h.0 ≡ x = cc in (ms, rw w at h.2, rw w at h.3)

  no_members : (ms : Members) → sizem ms ≡ 0 → MembersAre doc names ms o [] e kz → e ≡ o
  no_members end l h = h.0
  no_members (Tree.member k t ms) l h = absurd (omega arith)

  first_key : (ms : Members) → sizem ms ≡ 1 → MembersAre doc names ms o [] e kz → (k : List ℕ) × (v : ℕ) × (kv : Keys) × KeyIs doc names k o [] v kv
  first_key end l h = absurd (omega arith)
  first_key (Tree.member k t ms) l h = (k, h.0, h.1, h.4)

pub byte_after_the_root : (t : Tree) → Means (hex 5 0x464A016E00) no_names t → ⊥
unfolding choose form_of
byte_after_the_root t m =
    let (ms, l, h) = object_is _ _ 3 _ _ (tiny 0) t refl m.root in
    let w : ◌≡◌ {A = ℕ} 5 4 = no_members _ _ 4 _ _ ms l h in
    omega arith

pub object_without_a_good_key : (t : Tree) → Means (hex 6 0x464A016F5700) no_names t → ⊥
unfolding choose form_of
object_without_a_good_key t m =
    let (ms, l, h) = object_is _ _ 3 _ _ (tiny 1) t refl m.root in
    let (k, v, kv, is) = first_key _ _ 4 _ _ ms l h in
    back_reference_to_none _ k v kv is

-- ---- key lists: 51, 53 and 54

pub list_of_config_1 : (names : Names) → Lists (hex 3 0x010000) names → ⊥
list_of_config_1 names l = let w : ◌≡◌ {A = ℕ} 1 0 = l.config in omega arith

pub byte_after_the_names : (names : Names) → Lists (hex 4 0x00000000) names → ⊥
unfolding number
byte_after_the_names [] l = let w : ◌≡◌ {A = ℕ} 3 4 = l.laid_out in omega arith
byte_after_the_names (t ∷ ts) l = let w : suc (length ts) ≡ 0 = l.count in omega arith

pub equal_names : (names : Names) → Lists (hex 9 0x000200010061010061) names → ⊥
unfolding number Distinct
equal_names [] l = let w : ◌≡◌ {A = ℕ} 0 2 = l.count in omega arith
equal_names (t ∷ []) l = let w : ◌≡◌ {A = ℕ} 1 2 = l.count in omega arith
equal_names (t ∷ u ∷ []) l =
    let first : t ≡ a = l.laid_out.1.same in
    let second : u ≡ a = l.laid_out.2.1.same in
    l.distinct 0 1 (ltb→lt _ _ tt) (ltb→lt _ _ tt) (first ∙ sym second)
equal_names (t ∷ u ∷ v ∷ ts) l = let w : suc (suc (suc (length ts))) ≡ 2 = l.count in omega arith

-- ---- 31, 33 and 34

pub document_too_short : Headed (hex 3 0x464A01) → ⊥
document_too_short h = let w : 4 ≤ 3 = h.long in omega arith

pub other_first_byte : Headed (hex 4 0x474A0100) → ⊥
other_first_byte h = let w : ◌≡◌ {A = ℕ} 0x47 0x46 = h.magic0 in omega arith

pub other_second_byte : Headed (hex 4 0x464B0100) → ⊥
other_second_byte h = let w : ◌≡◌ {A = ℕ} 0x4B 0x4A = h.magic1 in omega arith

pub other_config : Headed (hex 4 0x464A0000) → ⊥
other_config h = let w : ◌≡◌ {A = ℕ} 0 1 = h.config in omega arith

-- ---- what the root leads to

-- {"a":[1,"b"]}: its array at 6, and the array's second element at 8
pub leads_to_a_value : Leads (hex 10 0x464A016F0461A0DF1762) 6
unfolding choose form_of key_form_of steps key_end
leads_to_a_value = Leads.value 3 (tiny 1) 0 root refl (ltb→lt _ _ tt)

pub leads_to_an_element : Leads (hex 10 0x464A016F0461A0DF1762) 8
unfolding choose form_of steps end_by TreeOf.end_at
leads_to_an_element = element 6 (tiny 2) 1 leads_to_a_value refl (ltb→lt _ _ tt)

-- null, [] and {} lead to nothing but themselves
pub null_leads_nowhere : (p : ℕ) → Leads (hex 4 0x464A0100) p → p ≡ 3
unfolding choose form_of
null_leads_nowhere p root = refl
null_leads_nowhere p (element o x i l f h) =
    let r = null_leads_nowhere o l in let g = rw r at f in absurd (let w : ◌≡◌ {A = ℕ} 0 1 = cc in omega arith)
null_leads_nowhere p (Leads.value o x i l f h) =
    let r = null_leads_nowhere o l in let g = rw r at f in absurd (let w : ◌≡◌ {A = ℕ} 0 1 = cc in omega arith)

pub empty_array_leads_nowhere : (p : ℕ) → Leads (hex 4 0x464A019E) p → p ≡ 3
unfolding choose form_of
empty_array_leads_nowhere p root = refl
empty_array_leads_nowhere p (element o x i l f h) =
    let r = empty_array_leads_nowhere o l in
    let g = rw r at f in
    let w : x ≡ tiny 0 = cc in
    let z : i < 0 = rw (r, w) at h in
    absurd (omega arith)
empty_array_leads_nowhere p (Leads.value o x i l f h) =
    let r = empty_array_leads_nowhere o l in let g = rw r at f in absurd (let w : ◌≡◌ {A = ℕ} 0 1 = cc in omega arith)

pub empty_object_leads_nowhere : (p : ℕ) → Leads (hex 4 0x464A016E) p → p ≡ 3
unfolding choose form_of
empty_object_leads_nowhere p root = refl
empty_object_leads_nowhere p (element o x i l f h) =
    let r = empty_object_leads_nowhere o l in let g = rw r at f in absurd (let w : ◌≡◌ {A = ℕ} 0 1 = cc in omega arith)
empty_object_leads_nowhere p (Leads.value o x i l f h) =
    let r = empty_object_leads_nowhere o l in
    let g = rw r at f in
    let w : x ≡ tiny 0 = cc in
    let z : i < 0 = rw (r, w) at h in
    absurd (omega arith)

-- what stands there: in {"a":{"a":null}} the inner object at 6, with the key met before it; and keys that are no first part
pub inner_object_stands : Stands (hex 9 0x464A016F04616F5700) [] key_a (dict 6 (field 7 a (leaf 8 s_null) last))
unfolding choose form_of key_form_of steps key_end
inner_object_stands = (
  Leads.value 3 (tiny 1) 0 root refl (ltb→lt _ _ tt),
  record {
    before = key_a;
    past = 9;
    met = key_a;
    value = (tiny 1, starts tt refl, refl, (8, key_a, 9, key_a, as_back (in_byte 0) 0 (key_starts tt refl) (refl, refl) (ltb→lt _ _ tt) refl refl, (starts tt refl, refl, refl), (refl, refl)));
    first = record { rest = []; same = refl };
  },
)

pub no_first_part : FirstOf key_a [] → ⊥
no_first_part f = let s = f.same in let w : ◌≡◌ {A = ℕ} 0 1 = cc in omega arith

pub false_is_not_null : (names : Names) (ks : Keys) → StandsFor (hex 4 0x464A0101) names ks 3 null → ⊥
unfolding choose form_of
false_is_not_null names ks s = let g = s.value.0.form_is in let w : ◌≡◌ {A = ℕ} 0 1 = cc in omega arith
