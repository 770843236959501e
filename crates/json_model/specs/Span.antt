-- A text as a part of the document: where it stands and how long it is. docs/format/BINARY_JSON.md, section 1: a span
-- is answered as numbers; a second question returns the text as a part of the document itself, empty at a refusal.
use Rattle.std.specs.Prelude.{ℕ, List, []}
use Rattle.json_model.specs.Bytes.{part}
use Rattle.json_model.specs.declared.Span.{Span}
use Rattle.json_model.specs.Reading.{halt, done, Asked}

abbrev pub spanned : List ℕ → Asked Span → List ℕ
spanned doc (halt number place u) = []
spanned doc (done s u) = part doc s.place s.len
