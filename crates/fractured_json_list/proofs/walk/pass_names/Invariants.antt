-- `pass_names`: what the names say from name j on is what they say from the first one on.
use Rattle.json_model.specs.Reading.{ask}
use Rattle.fractured_json_list.specs.Passing.{names_in}
use Rattle.fractured_json_list.proofs.PassLaws.{Going}
use Rattle.fractured_json_list.proofs.walk.pass_names.Given as goal

abbrev pub invariant-loop-j : goal.invariant-loop-j
invariant-loop-j l =
    Going l.list l.n l.at l.j l.words l.links (ask (names_in l.list l.n 3 0 l.initial.words l.initial.links))
