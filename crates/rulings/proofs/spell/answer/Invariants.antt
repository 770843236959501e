use Rattle.std.proofs.Common.{◌≡◌, ◌++◌, take}
use Rattle.std.specs.Prelude.{flat_map, string_bytes}
use Rattle.rulings.specs.Spelled.{spaced, spelling}
use Rattle.rulings.proofs.spell.answer.Given as goal

abbrev pub invariant-loop-x : goal.invariant-loop-x
invariant-loop-x l = string_bytes l.text ≡ spelling l.fn.word ++ flat_map spaced (take l.x-index l.numbers)
