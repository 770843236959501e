use Rattle.std.proofs.Common.{rules}
use Rattle.binary_json_rules.specs.Areas.{slot}
use Rattle.binary_json_rules.specs.Lookup.{key_item}
use Rattle.binary_json_lookup.proofs.Searches.{key_compared}
use Rattle.binary_json_lookup.proofs.lookup.find_key.Goals as goal

pub returns : goal.returns
returns c =
    let items = key_item c.args.o.now.document.bytes.now c.args.o.now.place (slot c.args.o.now.document.bytes.now c.args.k) in
    let halved = c.halve.ensures.halved items (record { says = λ k r b p. search (key_compared, rules) }) in
    search rules
