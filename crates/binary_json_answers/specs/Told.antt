-- What each case of an answer says, with the numbers and values of docs/format/BINARY_JSON.md, sections 9 and 11. Every
-- contract of a question goes through one of these definitions.
use Rattle.std.specs.Prelude.{ℕ, ◌+◌, ◌≤◌, List, length, Option, Some, None, Result, Ok, Err}
use Rattle.json_model.specs.Reading.{Asked, answers, refuses, told_by}
use Rattle.json_model.specs.declared.Refusal.{Refusal}
use Rattle.json_model.specs.declared.Span.{Span}
use Rattle.binary_json_rules.specs.Questions as Asks
use Rattle.binary_json_rules.specs.Answers.{sized}
use Rattle.binary_json_rules.specs.Lookup as Finds
use Rattle.binary_json_areas.specs.declared.offsets.TreeOffset.{TreeOffset}
use Rattle.binary_json_answers.specs.declared.Sized.{Sized}
use Rattle.binary_json_answers.specs.declared.MemberAt.{MemberAt}
use Rattle.binary_json_answers.specs.declared.Typed.{Typed}
use Rattle.binary_json_answers.specs.declared.Looked.{Looked}

-- kind 0 array, 1 object, 2 top-level scalar
abbrev pub sized_of : Sized → Asks.Sized
sized_of (Sized.Array n) = sized 0 n
sized_of (Sized.Object n) = sized 1 n
sized_of (Sized.Scalar n) = sized 2 n

abbrev pub told_sized : Result Sized Refusal → Asked Asks.Sized
told_sized = told_by sized_of

abbrev pub told_tree : Result TreeOffset Refusal → Asked ℕ
told_tree = told_by (λ o. o.0)

abbrev pub told_member : Result MemberAt Refusal → Asked Asks.MemberAt
told_member = told_by (λ m. record { slot = m.slot.0; entry = m.entry.0 })

-- 0 false, 1 true, 2 null, 3 string, 4 number, 5 container
abbrev pub type_of : Typed → ℕ
type_of Typed.False = 0
type_of Typed.True = 1
type_of Typed.Null = 2
type_of Typed.String = 3
type_of Typed.Number = 4
type_of Typed.Container = 5

abbrev pub told_type : Result Typed Refusal → Asked ℕ
told_type = told_by type_of

abbrev pub told_span : Result Span Refusal → Asked Span
told_span = told_by (λ s. s)

-- a text that is answered lies inside the document
abbrev pub SpanInside : List ℕ → Result Span Refusal → Type 0
SpanInside doc (Ok s) = s.place + s.len ≤ length doc
SpanInside doc (Err r) = Unit {0}

abbrev pub told_bits : Result ℕ Refusal → Asked ℕ
told_bits = told_by (λ b. b)

abbrev pub found_of : Option TreeOffset → Finds.Found
found_of (Some o) = Finds.entry o.0
found_of None = Finds.absent

abbrev pub told_scan : Result (Option TreeOffset) Refusal → Asked Finds.Found
told_scan = told_by found_of

-- with both counts; a refusal has 0 and 0
abbrev pub told_lookup : Result Looked Refusal → Finds.Lookup
told_lookup (Ok l) = Finds.lookup (answers (found_of l.entry)) l.first l.second
told_lookup (Err r) = Finds.lookup (refuses r.number r.place) 0 0
