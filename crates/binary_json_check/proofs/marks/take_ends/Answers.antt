use native.Mathlib.Omega.{arith}
use Rattle.binary_json_check.proofs.MarkLaws.{taken_ends}
use Rattle.binary_json_check.proofs.marks.take_ends.Goals as goal

pub returns-then-free : goal.returns-then-free
returns-then-free g c = taken_ends _ _ c.ends_clear-free.ensures g.row.S c.set.new.part c.set-then-free.new.part c.if-free.true (omega arith) (omega arith) c.set.ensures c.set-then-free.ensures
