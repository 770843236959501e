-- Where the KeyEntries and Entries of an object stand: in the document, which is short.
use mathlib.Core.List.{List}
use Prim.Native.Nat.{ℕ, ◌+◌, ◌*◌, ◌≤◌, ◌<◌}
use native.Mathlib.Omega.{arith}
use borrow.Author.Rules.{rules}
use lib.ListN.{length}
use mir.Syntax.{w64}
use mir.Val.{Fits}
use Rattle.binary_json_areas.specs.declared.areas.Areas.{Areas}
use Rattle.binary_json_metas.specs.Objects.{ObjectAt}

module _ (doc : List ℕ) (a : Areas) (c n : ℕ) (x : ObjectAt doc a c n) (j : ℕ) (b : j < n) where
  pub step_fits : Fits w64 (4 * j)
  step_fits = let i = x.inside in let s = x.laid.framed.slots_inside in let l = x.laid.framed.short in omega arith

  pub key_fits : Fits w64 (c + 4 + 4 * j)
  key_fits = let i = x.inside in let s = x.laid.framed.slots_inside in let l = x.laid.framed.short in omega arith

  pub key_inside : c + 4 + 4 * j + 4 ≤ length doc
  key_inside = let i = x.inside in let s = x.laid.framed.slots_inside in omega arith

  pub entry_fits : Fits w64 (c + 4 + 4 * n + 4 * j)
  entry_fits = let i = x.inside in let s = x.laid.framed.slots_inside in let l = x.laid.framed.short in omega arith

pub ruleset members_laws = (step_fits, key_fits, key_inside, entry_fits, rules)
