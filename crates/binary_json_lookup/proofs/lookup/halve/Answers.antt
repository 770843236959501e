use Rattle.binary_json_lookup.proofs.Searches.{narrowed_first, narrowed_broken, narrowed_found, narrowed_up, narrowed_down, narrowed_missed}
use Rattle.binary_json_lookup.proofs.lookup.halve.Goals as goal

pub loop-low-init : goal.loop-low-init
loop-low-init g c = narrowed_first _ _

pub returns-in_err-order-clause-halved : goal.returns-in_err-order-clause-halved
returns-in_err-order-clause-halved g c item p = narrowed_broken _ _ _ _ _ c.loop-low.invariant c.loop-low-test.true _ c.compare.ensures c.in_err-order.was item p _ c.from_residual.ensures

pub loop-low-preserved-then-is_lt : goal.loop-low-preserved-then-is_lt
loop-low-preserved-then-is_lt g c = narrowed_up _ _ _ _ _ c.loop-low.invariant c.loop-low-test.true _ c.compare.ensures _ c.in_ok-order.was c.if-is_lt.ensures

pub returns-then-is_eq-clause-halved : goal.returns-then-is_eq-clause-halved
returns-then-is_eq-clause-halved g c = narrowed_found _ _ _ _ _ c.loop-low.invariant c.loop-low-test.true _ c.compare.ensures _ c.in_ok-order.was c.if-is_eq.ensures

pub loop-low-preserved : goal.loop-low-preserved
loop-low-preserved g c = narrowed_down _ _ _ _ _ c.loop-low.invariant c.loop-low-test.true _ c.compare.ensures _ c.in_ok-order.was c.if-is_lt.ensures c.if-is_eq.ensures

pub returns-clause-halved : goal.returns-clause-halved
returns-clause-halved g c = narrowed_missed _ _ _ _ _ c.loop-low.invariant c.loop-low-test.false
