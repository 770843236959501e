-- What stands at a type byte, read up to a container's contents: the code's own way through the rules' `value`, for the check
-- and for the questions alike. proofs/Walks.antt shows that it is the rules'.
use Rattle.std.specs.Prelude.{ℕ, ◌+◌, ◌^◌, ◌≤◌, ◌<◌, Bool, true, false, List, ◌≡◌, leb, eqb, length, Option, Some, None, Result, Ok, Err}
use Rattle.json_model.specs.Bytes.{number}
use Rattle.json_model.specs.Choose.{choose}
use Rattle.json_model.specs.Number.{binary32, binary64, finite}
use Rattle.json_model.specs.Reading.{Reading, Asked, ask, answers, refuses, answer, refuse, ◌>>=◌, need, told_by}
use Rattle.json_model.specs.declared.Refusal.{Refusal}
use Rattle.fractured_json_rules.specs.ByteTables.{form_of}
use Rattle.fractured_json_rules.specs.Verdict.{byte_at, payload, numeral, member}
use Rattle.fractured_json_rules.specs.Verdict as Rules
use Rattle.fractured_json_values.specs.Heads.{head_of}
use Rattle.fractured_json_values.specs.declared.types.Head.{Head}
use Rattle.fractured_json_values.specs.declared.types.ValueType.{ValueType}
use Rattle.fractured_json_values.specs.declared.types.ValueType.TheVariants.{Binary32, Binary64, String, Object, Array}
use Rattle.fractured_json_values.specs.declared.values.Numeral.{Numeral}
use Rattle.fractured_json_values.specs.declared.values.Open.{Open}
use Rattle.fractured_json_values.specs.declared.values.Open.TheVariants.{Leaf, Container}

-- a length or payload of the value at o, and where that ends: in the type byte (width 0), or in the bytes after it
unfoldable pub sized_at : {S : Type 0} → List ℕ → ℕ → ℕ → ℕ → Reading S Rules.Numeral
sized_at doc o width tiny = choose (eqb width 0) (answer (numeral tiny (o + 1))) (payload doc o width)

-- a value without contents, by its end; or n values or members from an offset on
pub data Opened : Type 0 where
  leaf : ℕ → Opened
  inside : (object : Bool) (n at : ℕ) → Opened

-- a float is finite; whatever is no float passes
unfoldable pub finite_type : ValueType → ℕ → Bool
finite_type Binary32 n = finite binary32 n
finite_type Binary64 n = finite binary64 n
finite_type _ n = true

-- the float at o is finite; whatever is no float passes
unfoldable pub finite_at : List ℕ → ℕ → ValueType → Bool
finite_at doc o Binary32 = finite binary32 (number doc (o + 1) 4)
finite_at doc o Binary64 = finite binary64 (number doc (o + 1) 8)
finite_at doc o _ = true

-- the payload of a float at o lies inside the document
unfoldable pub FloatInside : List ℕ → ℕ → ValueType → Type 0
FloatInside doc o Binary32 = o + 4 < length doc
FloatInside doc o Binary64 = o + 8 < length doc
FloatInside doc o _ = Unit {0}

-- a float has the width of its format
unfoldable pub FloatWidth : ValueType → ℕ → Type 0
FloatWidth Binary32 width = width ≡ 4
FloatWidth Binary64 width = width ≡ 8
FloatWidth _ width = Unit {0}

-- a length after its byte takes one, two or four bytes
unfoldable pub LengthWidth : ℕ → Type 0
LengthWidth width = (width ≡ 1 → ⊥) → (width ≡ 2 → ⊥) → width ≡ 4

-- a value at o without a length, with payload n, which ends at `past`
unfoldable pub open_scalar : {S : Type 0} → ℕ → ValueType → ℕ → ℕ → Reading S Opened
open_scalar o kind n past = need (finite_type kind n) 43 o >>= λ _. answer (leaf past)

-- the value at o by its type, with length or payload n, which ends at `past`, in a document of so many bytes
unfoldable pub open_type : {S : Type 0} → ℕ → ℕ → ValueType → ℕ → ℕ → Reading S Opened
open_type len o String n past = need (leb (past + n) len) 35 o >>= λ _. answer (leaf (past + n))
open_type len o Object n past = answer (inside true n past)
open_type len o Array n past = answer (inside false n past)
open_type len o kind n past = open_scalar o kind n past

unfoldable pub open_head : {S : Type 0} → List ℕ → ℕ → Option Head → Reading S Opened
open_head doc o None = refuse 36 o
open_head doc o (Some h) = do
  n ← sized_at doc o h.width h.tiny
  open_type (length doc) o h.kind n.is n.past

unfoldable pub opened_at : {S : Type 0} → List ℕ → ℕ → Reading S Opened
opened_at doc o = do
  b ← byte_at doc o o
  open_head doc o (head_of (form_of b))

-- an entry of a container: a member of an object, a value of an array
unfoldable pub entry : {S : Type 0} → Bool → (ℕ → Reading S ℕ) → (ℕ → Reading S ℕ) → ℕ → Reading S ℕ
entry true key value = member key value
entry false key value = value

-- ---- what the code answers

-- the byte at a place, which is inside the document
abbrev pub ReadsByte : List ℕ → ℕ → Result ℕ Refusal → Type 0
ReadsByte doc o (Ok b) = (ask (byte_at doc o o) ≡ answers b) × (o < length doc)
ReadsByte doc o (Err r) = ask (byte_at doc o o) ≡ refuses r.number r.place

-- a number and where it ends, which is inside a document of so many bytes
abbrev pub ReadsNumeral : ℕ → Asked Rules.Numeral → Result Numeral Refusal → Type 0
ReadsNumeral len q (Ok n) = (q ≡ answers (numeral n.number n.past)) × (n.past ≤ len)
ReadsNumeral len q (Err r) = q ≡ refuses r.number r.place

-- a payload of so many bytes is small enough for them
abbrev pub Below : ℕ → Result Numeral Refusal → Type 0
Below width (Ok n) = (width ≡ 0 → ⊥) → n.number < 256 ^ width
Below width (Err r) = Unit {0}

abbrev pub opened_of : Open → Opened
opened_of (Leaf past) = leaf past
opened_of (Container at n object) = inside object n at

abbrev pub told_open : Result Open Refusal → Asked Opened
told_open = told_by opened_of
