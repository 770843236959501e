-- What the function that reads the header says: the document's own header, or the refusal of rules 1 to 4.
use Rattle.std.specs.Prelude.{List, ℕ, ◌≡◌, Result, Ok, Err}
use Rattle.json_model.specs.Reading.{ask, refuses}
use Rattle.json_model.specs.declared.Refusal.{Refusal}
use Rattle.binary_json_rules.specs.Verdict.{header}
use Rattle.binary_json_areas.specs.Laid.{Framed}
use Rattle.binary_json_areas.specs.declared.header.Header.{Header}

abbrev pub Headed : List ℕ → Result Header Refusal → Type 0
Headed doc (Ok h) = (h.bytes.now ≡ doc) × Framed doc h.index h.count
Headed doc (Err r) = ask (header doc) ≡ refuses r.number r.place
