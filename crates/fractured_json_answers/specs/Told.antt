-- What each answer of the code says, with the numbers and values of docs/format/FRACTURED_JSON.md, section 11: the
-- contracts of the public calls go through these definitions.
use Rattle.std.specs.Prelude.{ℕ, Option, Some, None, Result}
use Rattle.json_model.specs.Reading.{Asked, told_by}
use Rattle.json_model.specs.declared.Refusal.{Refusal}
use Rattle.json_model.specs.declared.Span.{Span}
use Rattle.fractured_json_rules.specs.Questions as Questions
use Rattle.fractured_json_answers.specs.declared.Kind.{Kind}
use Rattle.fractured_json_answers.specs.declared.Number.{Number}
use Rattle.fractured_json_answers.specs.declared.Member.{Member}
use Rattle.fractured_json_answers.specs.declared.Key.{Key}

abbrev pub told_place : Result ℕ Refusal → Asked ℕ
told_place = told_by (λ o. o)

abbrev pub kind_of : Kind → Questions.Kind
kind_of Kind.Null = Questions.is_null
kind_of Kind.False = Questions.is_false
kind_of Kind.True = Questions.is_true
kind_of Kind.Number = Questions.is_number
kind_of (Kind.String n) = Questions.is_string n
kind_of (Kind.Object n) = Questions.is_object n
kind_of (Kind.Array n) = Questions.is_array n

abbrev pub told_kind : Result Kind Refusal → Asked Questions.Kind
told_kind = told_by kind_of

abbrev pub told_number : Result Number Refusal → Asked Questions.Bits
told_number = told_by (λ n. record { type = n.type_byte; bits = n.bits })

abbrev pub told_text : Result Span Refusal → Asked Span
told_text = told_by (λ s. s)

abbrev pub told_member : Result Member Refusal → Asked Questions.MemberAt
told_member = told_by (λ m. record { key = m.key; value = m.value })

abbrev pub found_of : Option ℕ → Questions.Found
found_of (Some o) = Questions.value_at o
found_of None = Questions.absent

abbrev pub told_found : Result (Option ℕ) Refusal → Asked Questions.Found
told_found = told_by found_of

abbrev pub key_of : Key → Questions.KeyRead
key_of (Key.Document p n e) = record { lender = Questions.the_document; place = p; len = n; past = e }
key_of (Key.List p n e) = record { lender = Questions.the_list; place = p; len = n; past = e }

abbrev pub told_key : Result Key Refusal → Asked Questions.KeyRead
told_key = told_by key_of
