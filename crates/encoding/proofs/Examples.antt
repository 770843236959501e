-- Each case of each answer as numbers, as include/czubrotek.h promises it: what is returned, which of five lent words are written, and that
-- the others keep what they held.
use Prim.Native.Nat.{ℕ}
use mathlib.Core.List.{List, [], ◌∷◌, map}
use mathlib.Core.Path.{◌≡◌, refl}
use Rattle.json_model.specs.Choose.{choose}
use Rattle.json_model.specs.Reading.{halt, told}
use Rattle.std.specs.declared.cmp.Ordering.TheVariants.{Less, Equal, Greater}
use Rattle.json_model.specs.declared.Refusal.{Refusal}
use Rattle.std.specs.Prelude.{Some, None, Ok, Err}
use Rattle.binary_json_answers.specs.Told.{told_sized, told_tree, told_type, told_span, told_bits, told_scan, told_lookup}
use Rattle.binary_json_answers.specs.Told as Binary
use Rattle.binary_json_answers.specs.declared.Sized.{Sized}
use Rattle.binary_json_answers.specs.declared.Typed.{Typed}
use Rattle.fractured_json_answers.specs.Told.{told_place, told_kind, told_number, told_text, told_found, told_key}
use Rattle.fractured_json_answers.specs.Told as Fractured
use Rattle.fractured_json_answers.specs.declared.Kind.{Kind}
use Rattle.fractured_json_answers.specs.declared.Key.{Key}
use Rattle.encoding.specs.Encoding.{Handed, code, coded, hands, given, handed, nothing, one, place_and_length, sized, member_at, found, counted_by, counted, kind, bits, key_and_value, value_at, key_at, checked_by, compared}

-- the words that are lent, and what a call returns and leaves in them
abbrev lent : List ℕ
lent = 91 ∷ 92 ∷ 93 ∷ 94 ∷ 95 ∷ []

abbrev gives : ℕ → List ℕ → Handed
gives n ws = record { number = n; words = ws }

-- number 20 at place 16, which is what every call but three makes of a refusal
abbrev refusal : Refusal
refusal = record { place = 16; number = 20 }

abbrev refused : Handed
refused = gives 20 (16 ∷ 92 ∷ 93 ∷ 94 ∷ 95 ∷ [])

-- ---- how many words a call needs

-- where fewer are lent, 255 is returned and nothing is written, whatever the answer; as many are enough
pub too_few :
    (handed 1 [] (code 0 (7 ∷ [])) ≡ gives 255 []) × (handed 1 [] (code 20 (16 ∷ [])) ≡ gives 255 []) × (handed 2 (91 ∷ []) (code 0 (7 ∷ [])) ≡ gives 255 (91 ∷ []))
    × (handed 2 (91 ∷ []) (code 20 (16 ∷ [])) ≡ gives 255 (91 ∷ [])) × (handed 4 (91 ∷ 92 ∷ 93 ∷ []) (code 0 (7 ∷ [])) ≡ gives 255 (91 ∷ 92 ∷ 93 ∷ []))
unfolding handed choose
too_few = (refl, refl, refl, refl, refl)

pub enough :
    (handed 1 (91 ∷ []) (code 0 (7 ∷ [])) ≡ gives 0 (7 ∷ [])) × (handed 2 (91 ∷ 92 ∷ []) (code 0 (7 ∷ 8 ∷ [])) ≡ gives 0 (7 ∷ 8 ∷ []))
    × (handed 4 (91 ∷ 92 ∷ 93 ∷ 94 ∷ []) (code 0 (7 ∷ 8 ∷ 9 ∷ 10 ∷ [])) ≡ gives 0 (7 ∷ 8 ∷ 9 ∷ 10 ∷ [])) × (handed 1 lent (code 20 (16 ∷ [])) ≡ refused) × (handed 1 lent (code 0 []) ≡ gives 0 lent)
unfolding handed given choose
enough = (refl, refl, refl, refl, refl)

pub handed_over : hands 20 lent ≡ gives 20 lent
handed_over = refl

-- ---- BinaryJson

-- bj_check and fj_check_list
pub verdicts_give : map (λ a. given lent (coded nothing (told a))) (Ok tt ∷ Err refusal ∷ []) ≡ gives 0 lent ∷ refused ∷ []
unfolding given
verdicts_give = refl

-- bj_kind_and_size
pub sized_give :
    map (λ a. given lent (coded sized (told_sized a))) (Ok (Sized.Array 7) ∷ Ok (Sized.Object 7) ∷ Ok (Sized.Scalar 1) ∷ Err refusal ∷ [])
    ≡ gives 0 (0 ∷ 7 ∷ 93 ∷ 94 ∷ 95 ∷ []) ∷ gives 0 (1 ∷ 7 ∷ 93 ∷ 94 ∷ 95 ∷ []) ∷ gives 0 (2 ∷ 1 ∷ 93 ∷ 94 ∷ 95 ∷ []) ∷ refused ∷ []
unfolding given
sized_give = refl

-- bj_element and bj_container
pub trees_give :
    map (λ a. given lent (coded one (told_tree a))) (Ok (record { 0 = 8 }) ∷ Err refusal ∷ []) ≡ gives 0 (8 ∷ 92 ∷ 93 ∷ 94 ∷ 95 ∷ []) ∷ refused ∷ []
unfolding given
trees_give = refl

-- bj_member: the slot, then the Entry
pub members_give :
    map (λ a. given lent (coded member_at (Binary.told_member a))) (Ok (record { slot = record { 0 = 40 }; entry = record { 0 = 8 } }) ∷ Err refusal ∷ [])
    ≡ gives 0 (40 ∷ 8 ∷ 93 ∷ 94 ∷ 95 ∷ []) ∷ refused ∷ []
unfolding given
members_give = refl

-- bj_entry_type
pub types_give :
    map (λ a. given lent (coded one (told_type a))) (Ok Typed.False ∷ Ok Typed.True ∷ Ok Typed.Null ∷ Ok Typed.String ∷ Ok Typed.Number ∷ Ok Typed.Container ∷ Err refusal ∷ [])
    ≡ gives 0 (0 ∷ 92 ∷ 93 ∷ 94 ∷ 95 ∷ []) ∷ gives 0 (1 ∷ 92 ∷ 93 ∷ 94 ∷ 95 ∷ []) ∷ gives 0 (2 ∷ 92 ∷ 93 ∷ 94 ∷ 95 ∷ []) ∷ gives 0 (3 ∷ 92 ∷ 93 ∷ 94 ∷ 95 ∷ [])
    ∷ gives 0 (4 ∷ 92 ∷ 93 ∷ 94 ∷ 95 ∷ []) ∷ gives 0 (5 ∷ 92 ∷ 93 ∷ 94 ∷ 95 ∷ []) ∷ refused ∷ []
unfolding given
types_give = refl

-- bj_string and bj_slot: offset, then length
pub spans_give : map (λ a. given lent (coded place_and_length (told_span a))) (Ok (record { place = 40; len = 2 }) ∷ Err refusal ∷ []) ≡ gives 0 (40 ∷ 2 ∷ 93 ∷ 94 ∷ 95 ∷ []) ∷ refused ∷ []
unfolding given
spans_give = refl

-- bj_number
pub bits_give : map (λ a. given lent (coded one (told_bits a))) (Ok 0x3FF0000000000000 ∷ Err refusal ∷ []) ≡ gives 0 (0x3FF0000000000000 ∷ 92 ∷ 93 ∷ 94 ∷ 95 ∷ []) ∷ refused ∷ []
unfolding given
bits_give = refl

-- bj_quick_lookup: 1, both counts and the Entry; 0 and both counts; a refusal's place and the counts 0 and 0
pub lookups_give :
    map (λ a. given lent (counted (told_lookup a))) (Ok (record { entry = Some (record { 0 = 8 }); first = 3; second = 2 }) ∷ Ok (record { entry = None; first = 3; second = 2 }) ∷ Err refusal ∷ [])
    ≡ gives 0 (1 ∷ 3 ∷ 2 ∷ 8 ∷ 95 ∷ []) ∷ gives 0 (0 ∷ 3 ∷ 2 ∷ 94 ∷ 95 ∷ []) ∷ gives 20 (16 ∷ 0 ∷ 0 ∷ 94 ∷ 95 ∷ []) ∷ []
unfolding given
lookups_give = refl

-- the counts of a refusal would stand in the same order
pub counts_give : given lent (counted_by 3 2 (halt 20 16 tt)) ≡ gives 20 (16 ∷ 3 ∷ 2 ∷ 94 ∷ 95 ∷ [])
unfolding given
counts_give = refl

-- bj_plain_scan: 1 and the Entry, or 0
pub scans_give :
    map (λ a. given lent (coded found (told_scan a))) (Ok (Some (record { 0 = 8 })) ∷ Ok None ∷ Err refusal ∷ [])
    ≡ gives 0 (1 ∷ 8 ∷ 93 ∷ 94 ∷ 95 ∷ []) ∷ gives 0 (0 ∷ 92 ∷ 93 ∷ 94 ∷ 95 ∷ []) ∷ refused ∷ []
unfolding given
scans_give = refl

-- ---- Fractured JSON

-- fj_check: the number of pairs, after the place of a refusal
pub checks_give : map (λ a. given lent (checked_by 7 (told a))) (Ok tt ∷ Err refusal ∷ []) ≡ gives 0 (7 ∷ 92 ∷ 93 ∷ 94 ∷ 95 ∷ []) ∷ gives 20 (16 ∷ 7 ∷ 93 ∷ 94 ∷ 95 ∷ []) ∷ []
unfolding given
checks_give = refl

-- fj_end and fj_element
pub places_give : map (λ a. given lent (coded one (told_place a))) (Ok 9 ∷ Err refusal ∷ []) ≡ gives 0 (9 ∷ 92 ∷ 93 ∷ 94 ∷ 95 ∷ []) ∷ refused ∷ []
unfolding given
places_give = refl

-- fj_kind: the kind alone, or with the length of a string, an object or an array
pub kinds_give :
    map (λ a. given lent (coded kind (told_kind a))) (Ok Kind.Null ∷ Ok Kind.False ∷ Ok Kind.True ∷ Ok Kind.Number ∷ Ok (Kind.String 9) ∷ Ok (Kind.Object 9) ∷ Ok (Kind.Array 9) ∷ Err refusal ∷ [])
    ≡ gives 0 (0 ∷ 92 ∷ 93 ∷ 94 ∷ 95 ∷ []) ∷ gives 0 (1 ∷ 92 ∷ 93 ∷ 94 ∷ 95 ∷ []) ∷ gives 0 (2 ∷ 92 ∷ 93 ∷ 94 ∷ 95 ∷ []) ∷ gives 0 (3 ∷ 92 ∷ 93 ∷ 94 ∷ 95 ∷ [])
    ∷ gives 0 (4 ∷ 9 ∷ 93 ∷ 94 ∷ 95 ∷ []) ∷ gives 0 (5 ∷ 9 ∷ 93 ∷ 94 ∷ 95 ∷ []) ∷ gives 0 (6 ∷ 9 ∷ 93 ∷ 94 ∷ 95 ∷ []) ∷ refused ∷ []
unfolding given
kinds_give = refl

-- fj_number: the type byte, then 64 bits
pub numbers_give : map (λ a. given lent (coded bits (told_number a))) (Ok (record { type_byte = 0x0D; bits = 9 }) ∷ Err refusal ∷ []) ≡ gives 0 (0x0D ∷ 9 ∷ 93 ∷ 94 ∷ 95 ∷ []) ∷ refused ∷ []
unfolding given
numbers_give = refl

-- fj_string: offset, then length
pub texts_give : map (λ a. given lent (coded place_and_length (told_text a))) (Ok (record { place = 5; len = 2 }) ∷ Err refusal ∷ []) ≡ gives 0 (5 ∷ 2 ∷ 93 ∷ 94 ∷ 95 ∷ []) ∷ refused ∷ []
unfolding given
texts_give = refl

-- fj_member: the key byte, then the value
pub fields_give : map (λ a. given lent (coded key_and_value (Fractured.told_member a))) (Ok (record { key = 4; value = 6 }) ∷ Err refusal ∷ []) ≡ gives 0 (4 ∷ 6 ∷ 93 ∷ 94 ∷ 95 ∷ []) ∷ refused ∷ []
unfolding given
fields_give = refl

-- fj_first_member: 1 and the value, or 0
pub found_give :
    map (λ a. given lent (coded value_at (told_found a))) (Ok (Some 6) ∷ Ok None ∷ Err refusal ∷ []) ≡ gives 0 (1 ∷ 6 ∷ 93 ∷ 94 ∷ 95 ∷ []) ∷ gives 0 (0 ∷ 92 ∷ 93 ∷ 94 ∷ 95 ∷ []) ∷ refused ∷ []
unfolding given
found_give = refl

-- fj_key: the lender (0 the document, 1 the key list), the text's offset and length there, and the value
pub keys_give :
    map (λ a. given lent (coded key_at (told_key a))) (Ok (Key.Document 5 2 8) ∷ Ok (Key.List 5 2 8) ∷ Err refusal ∷ []) ≡ gives 0 (0 ∷ 5 ∷ 2 ∷ 8 ∷ 95 ∷ []) ∷ gives 0 (1 ∷ 5 ∷ 2 ∷ 8 ∷ 95 ∷ []) ∷ refused ∷ []
unfolding given
keys_give = refl

-- ---- texts

-- text_compare: 0 below, 1 equal, 2 above, then the steps
pub orders_give :
    map (λ o. given lent (compared o 9)) (Less ∷ Equal ∷ Greater ∷ [])
    ≡ gives 0 (0 ∷ 9 ∷ 93 ∷ 94 ∷ 95 ∷ []) ∷ gives 0 (1 ∷ 9 ∷ 93 ∷ 94 ∷ 95 ∷ []) ∷ gives 0 (2 ∷ 9 ∷ 93 ∷ 94 ∷ 95 ∷ []) ∷ []
unfolding given
orders_give = refl
