use Rattle.std.proofs.Common.{rules}
use Rattle.binary_json_lookup.specs.Lookups.{string_items}
use Rattle.binary_json_lookup.proofs.Searches.{strings_halved}
use Rattle.binary_json_lookup.proofs.lookup.find_string.Goals as goal

pub returns : goal.returns
returns c =
    let items = string_items c.args.d.now.bytes.now c.args.key.now in
    let halved = c.halve.ensures.halved items (record { says = λ k r b p. search rules }) in
    search (strings_halved, rules)
