use mathlib.Core.Path.{ap, ◌∙◌}
use Rattle.std.specs.Prelude.{Err}
use Rattle.std.proofs.lemmas.Result.{err_from_is_err_and}
use Rattle.fractured_json_check.proofs.Checks.{walk_refused, document_laws}
use Rattle.fractured_json_check.proofs.check_document.Goals as goal

pub returns-in_err-past : goal.returns-in_err-past
returns-in_err-past c =
    let p = err_from_is_err_and c.from_residual-in_err-past.result c.from_residual-in_err-past.ensures.1 in
    walk_refused _ _ _ c.in_ok-read_header.ensures _ _ _ _ c.in_err-past.ensures (p.1 ∙ ap Err p.2)

pub returns-then-past-doc : goal.returns-then-past-doc
returns-then-past-doc c = search (document_laws, c.in_ok-read_header.ensures, c.in_ok-past.ensures)

pub returns : goal.returns
returns c = search (document_laws, c.in_ok-read_header.ensures, c.in_ok-past.ensures)
