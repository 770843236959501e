-- The tree that a document of either format means: docs/format/BINARY_JSON.md, section 6.1. An array's values and an
-- object's members stand in document order; a text is its bytes.
use Rattle.std.specs.Prelude.{ℕ, zero, suc, max, Bool, List, ◌≢◌, ◌≡◌}

-- A number is the whole number that 2 ^ 1074 times it makes, as a sign (true is minus) and a magnitude. So zero has two
-- signs, and every other number one spelling.
mutual
  pub data Tree : Type 0 where
    null : Tree
    bool : Bool → Tree
    num : (minus : Bool) (magnitude : ℕ) → Tree
    str : List ℕ → Tree
    arr : Trees → Tree
    obj : Members → Tree

  pub data Trees : Type 0 where
    none : Trees
    more : Tree → Trees → Trees

  pub data Members : Type 0 where
    end : Members
    member : (key : List ℕ) → Tree → Members → Members

-- how many values an array, and members an object has
abbrev pub size : Trees → ℕ
size none = 0
size (more t ts) = suc (size ts)

abbrev pub sizem : Members → ℕ
sizem end = 0
sizem (member k t ms) = suc (sizem ms)

-- how deep containers are nested: 0 for a scalar
abbrev mutual
  pub depth : Tree → ℕ
  depth null = 0
  depth (bool b) = 0
  depth (num s m) = 0
  depth (str s) = 0
  depth (arr ts) = suc (depths ts)
  depth (obj ms) = suc (depthm ms)

  pub depths : Trees → ℕ
  depths none = 0
  depths (more t ts) = max (depth t) (depths ts)

  pub depthm : Members → ℕ
  depthm end = 0
  depthm (member k t ms) = max (depth t) (depthm ms)

-- value i of an array is v
abbrev pub ElementIs : Trees → ℕ → Tree → Type 0
ElementIs none i v = ⊥
ElementIs (more t ts) zero v = v ≡ t
ElementIs (more t ts) (suc i) v = ElementIs ts i v

-- member j of an object has the key k and the value v
abbrev pub MemberIs : Members → ℕ → List ℕ → Tree → Type 0
MemberIs end j k v = ⊥
MemberIs (member x t ms) zero k v = (k ≡ x) × (v ≡ t)
MemberIs (member x t ms) (suc j) k v = MemberIs ms j k v

-- no member of an object has the key x
abbrev pub Lacks : Members → List ℕ → Type 0
Lacks ms x = (j : ℕ) (v : Tree) → MemberIs ms j x v → ⊥

-- ---- what a tree is, and what it is not

abbrev pub IsContainer : Tree → Type 0
IsContainer null = ⊥
IsContainer (bool b) = ⊥
IsContainer (num s m) = ⊥
IsContainer (str s) = ⊥
IsContainer (arr ts) = Unit {0}
IsContainer (obj ms) = Unit {0}

abbrev pub NoContainer : Tree → Type 0
NoContainer u = IsContainer u → ⊥

abbrev pub NoNumber : Tree → Type 0
NoNumber u = (s : Bool) (m : ℕ) → u ≢ num s m

abbrev pub NoString : Tree → Type 0
NoString u = (x : List ℕ) → u ≢ str x

abbrev pub NoArray : Tree → Type 0
NoArray u = (ts : Trees) → u ≢ arr ts

abbrev pub NoObject : Tree → Type 0
NoObject u = (ms : Members) → u ≢ obj ms

-- ---- subtrees

-- u is the tree t itself, or stands somewhere below it
pub data Subtree (t : Tree) : Tree → Type 0 where
  whole : Subtree t t
  element : (ts : Trees) (i : ℕ) {u : Tree} → Subtree t (arr ts) → ElementIs ts i u → Subtree t u
  value : (ms : Members) (j : ℕ) (k : List ℕ) {u : Tree} → Subtree t (obj ms) → MemberIs ms j k u → Subtree t u
