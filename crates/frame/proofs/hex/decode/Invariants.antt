use mathlib.Core.Path.{◌≡◌}
use Prim.Native.Nat.{◌*◌}
use lib.ListN.{take, drop}
use Rattle.frame_rules.specs.Frame.{before, bytes_of}
use Rattle.frame.proofs.hex.decode.Given as goal

abbrev pub invariant-loop-i : goal.invariant-loop-i
invariant-loop-i l = bytes_of l.line ≡ before (take l.i l.out) (bytes_of (drop (2 * l.i) l.line))
