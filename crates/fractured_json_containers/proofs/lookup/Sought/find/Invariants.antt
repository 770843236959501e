-- `find`: what the members say from here on is what they say from the first on.
use mathlib.Core.Path.{◌≡◌}
use Rattle.json_model.specs.Reading.{ask}
use Rattle.fractured_json_rules.specs.Questions.{find_in}
use Rattle.fractured_json_containers.proofs.lookup.Sought.find.Given as goal

abbrev pub invariant-loop-later : goal.invariant-loop-later
invariant-loop-later l =
    ask (find_in l.self.lent.doc.now l.self.lent.list.now l.self.lent.keys.now l.self.lent.count l.self.text.now l.later l.at)
    ≡ ask (find_in l.self.lent.doc.now l.self.lent.list.now l.self.lent.keys.now l.self.lent.count l.self.text.now l.fn.n.number l.fn.n.past)
