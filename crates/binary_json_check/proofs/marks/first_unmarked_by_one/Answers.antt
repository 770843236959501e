use Rattle.std.proofs.Common.{arith, rules}
use Rattle.std.specs.Prelude.{nat_eq}
use borrow.Author.Tests.{tests}
use Rattle.std.proofs.lemmas.Iterator.{YieldsList-from_slice}
use Rattle.std.proofs.lemmas.Iterator.Search.{position_from_yields_List}
use Rattle.binary_json_check.proofs.MarkLaws.{position_found, position_none}
use Rattle.binary_json_check.proofs.marks.first_unmarked_by_one.Goals as goal

pub returns-in_err-found : goal.returns-in_err-found
returns-in_err-found c =
    let p = position_from_yields_List (λ m. nat_eq m 0) _ _ c.position.result c.position.ensures.ran (YieldsList-from_slice _ c.iter.ensures.rest) (λ x b q k. search (rules, tests)) in
    rw c.from_residual.ensures (position_none c.args.words.now c.args.k (omega arith) _ p c.in_err-found.was)

pub returns : goal.returns
returns c =
    let p = position_from_yields_List (λ m. nat_eq m 0) _ _ c.position.result c.position.ensures.ran (YieldsList-from_slice _ c.iter.ensures.rest) (λ x b q k. search (rules, tests)) in
    position_found c.args.words.now c.args.k (omega arith) _ p _ c.in_ok-found.was
