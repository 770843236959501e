-- Facts about trees: what stands at a place of an array or an object, and how deep a subtree is.
use mathlib.Core.Path.{refl}
use mathlib.Core.List.{List}
use Prim.Native.Nat.{ℕ, zero, suc, ◌≤◌, ◌<◌}
use native.Mathlib.Omega.{arith}
use Rattle.json_model.specs.Tree.{Tree, Trees, none, more, Members, end, member, size, sizem, depth, depths, depthm, ElementIs, MemberIs, Subtree, whole, element, value}

-- element i and member j are there exactly below the size
pub element_at_lem : (ts : Trees) (i : ℕ) → i < size ts → (v : Tree) × ElementIs ts i v
element_at_lem none i h = absurd (omega arith)
element_at_lem (more t ts) zero h = (t, refl)
element_at_lem (more t ts) (suc i) h = element_at_lem ts i (omega arith)

pub member_at_lem : (ms : Members) (j : ℕ) → j < sizem ms → (k : List ℕ) × (v : Tree) × MemberIs ms j k v
member_at_lem end j h = absurd (omega arith)
member_at_lem (member k t ms) zero h = (k, t, (refl, refl))
member_at_lem (member k t ms) (suc j) h = member_at_lem ms j (omega arith)

pub element_below : (ts : Trees) (i : ℕ) (v : Tree) → ElementIs ts i v → i < size ts
element_below none i v h = absurd h
element_below (more t ts) zero v h = omega arith
element_below (more t ts) (suc i) v h = let r = element_below ts i v h in omega arith

pub member_below : (ms : Members) (j : ℕ) (k : List ℕ) (v : Tree) → MemberIs ms j k v → j < sizem ms
member_below end j k v h = absurd h
member_below (member x t ms) zero k v h = omega arith
member_below (member x t ms) (suc j) k v h = let r = member_below ms j k v h in omega arith

-- a subtree is nested no deeper than the tree
element_depth : (ts : Trees) (i : ℕ) (v : Tree) → ElementIs ts i v → depth v ≤ depths ts
element_depth none i v h = absurd h
element_depth (more t ts) zero v h = rw h (omega arith)
element_depth (more t ts) (suc i) v h = let r = element_depth ts i v h in omega arith

member_depth : (ms : Members) (j : ℕ) (k : List ℕ) (v : Tree) → MemberIs ms j k v → depth v ≤ depthm ms
member_depth end j k v h = absurd h
member_depth (member x t ms) zero k v h = rw h.1 (omega arith)
member_depth (member x t ms) (suc j) k v h = let r = member_depth ms j k v h in omega arith

pub subtree_depth : (t : Tree) {u : Tree} → Subtree t u → depth u ≤ depth t
subtree_depth t whole = omega arith
subtree_depth t (element ts i s h) = let r = subtree_depth t s in let d = element_depth ts i _ h in omega arith
subtree_depth t (value ms j k s h) = let r = subtree_depth t s in let d = member_depth ms j k _ h in omega arith
