use Rattle.std.proofs.Common.{◌≡◌, ◌-◌}
use Rattle.json_model.specs.Reading.{ask}
use Rattle.binary_json_rules.specs.Lookup.{scan_from, scan_here}
use Rattle.binary_json_lookup.proofs.lookup.scan.Given as goal

-- the members from j on are all that is left
abbrev pub invariant-loop-j : goal.invariant-loop-j
invariant-loop-j l = ask (scan_from l.o.document.bytes.now l.o.place l.o.size l.key (l.o.size - l.j) l.j) ≡ ask (scan_here l.o.document.bytes.now l.o.place l.key)
