-- Each case of each answer, and what it says.
use mathlib.Core.List.{[], ◌∷◌, map}
use mathlib.Core.Path.{◌≡◌, refl}
use Rattle.json_model.specs.Reading.{halt, done}
use Rattle.json_model.specs.declared.Refusal.{Refusal}
use Rattle.fractured_json_rules.specs.Questions as Questions
use Rattle.fractured_json_answers.specs.Told.{told_place, told_kind, told_number, told_text, told_member, told_found, told_key}
use Rattle.std.specs.Prelude.{Some, None, Ok, Err}
use Rattle.fractured_json_answers.specs.declared.Kind.{Kind}
use Rattle.fractured_json_answers.specs.declared.Key.{Key}

-- number 21 at place 3
abbrev refusal : Refusal
refusal = record { place = 3; number = 21 }

pub places_say : map told_place (Ok 9 ∷ Err refusal ∷ []) ≡ done 9 tt ∷ halt 21 3 tt ∷ []
places_say = refl

pub kinds_say :
    map told_kind (Ok Kind.Null ∷ Ok Kind.False ∷ Ok Kind.True ∷ Ok Kind.Number ∷ Ok (Kind.String 7) ∷ Ok (Kind.Object 7) ∷ Ok (Kind.Array 7) ∷ Err refusal ∷ [])
    ≡ done Questions.is_null tt ∷ done Questions.is_false tt ∷ done Questions.is_true tt ∷ done Questions.is_number tt ∷ done (Questions.is_string 7) tt ∷ done (Questions.is_object 7) tt
    ∷ done (Questions.is_array 7) tt ∷ halt 21 3 tt ∷ []
kinds_say = refl

pub numbers_say : map told_number (Ok (record { type_byte = 0x0D; bits = 9 }) ∷ Err refusal ∷ []) ≡ done (record { type = 0x0D; bits = 9 }) tt ∷ halt 21 3 tt ∷ []
numbers_say = refl

pub texts_say : map told_text (Ok (record { place = 5; len = 2 }) ∷ Err refusal ∷ []) ≡ done (record { place = 5; len = 2 }) tt ∷ halt 21 3 tt ∷ []
texts_say = refl

pub members_say : map told_member (Ok (record { key = 4; value = 6 }) ∷ Err refusal ∷ []) ≡ done (record { key = 4; value = 6 }) tt ∷ halt 21 3 tt ∷ []
members_say = refl

pub found_say : map told_found (Ok (Some 6) ∷ Ok None ∷ Err refusal ∷ []) ≡ done (Questions.value_at 6) tt ∷ done Questions.absent tt ∷ halt 21 3 tt ∷ []
found_say = refl

pub keys_say :
    map told_key (Ok (Key.Document 5 2 8) ∷ Ok (Key.List 5 2 8) ∷ Err refusal ∷ [])
    ≡ done (record { lender = Questions.the_document; place = 5; len = 2; past = 8 }) tt ∷ done (record { lender = Questions.the_list; place = 5; len = 2; past = 8 }) tt ∷ halt 21 3 tt ∷ []
keys_say = refl
