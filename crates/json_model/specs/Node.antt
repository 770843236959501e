-- The tree with places: the tree that a document means, with the offset of each value, and of each member's key, beside
-- it. The formats say which offsets those are: docs/format/BINARY_JSON.md, section 8, and
-- docs/format/FRACTURED_JSON.md, section 10. What is said of places in a tree is said of it, once for both formats.
use Rattle.std.specs.Prelude.{ℕ, zero, suc, Bool, List, ◌≡◌}
use Rattle.json_model.specs.Tree.{Tree, null, bool, num, str, arr, obj, Trees, none, more, Members, end, member}

-- a value that is no container; a number is put as in a tree
pub data Scalar : Type 0 where
  s_null : Scalar
  s_bool : Bool → Scalar
  s_num : (minus : Bool) (magnitude : ℕ) → Scalar
  s_str : List ℕ → Scalar

-- each value with its place, each member with the place of its key
mutual
  pub data Node : Type 0 where
    leaf : (place : ℕ) → Scalar → Node
    list : (place : ℕ) → Nodes → Node
    dict : (place : ℕ) → Fields → Node

  pub data Nodes : Type 0 where
    nil : Nodes
    cons : Node → Nodes → Nodes

  pub data Fields : Type 0 where
    last : Fields
    field : (at : ℕ) (key : List ℕ) → Node → Fields → Fields

abbrev pub place : Node → ℕ
place (leaf p s) = p
place (list p ns) = p
place (dict p fs) = p

-- ---- without the places

abbrev pub scalar_tree : Scalar → Tree
scalar_tree s_null = null
scalar_tree (s_bool b) = bool b
scalar_tree (s_num s m) = num s m
scalar_tree (s_str x) = str x

abbrev mutual
  pub bare : Node → Tree
  bare (leaf p s) = scalar_tree s
  bare (list p ns) = arr (bares ns)
  bare (dict p fs) = obj (barem fs)

  pub bares : Nodes → Trees
  bares nil = none
  bares (cons n ns) = more (bare n) (bares ns)

  pub barem : Fields → Members
  barem last = end
  barem (field at k n fs) = member k (bare n) (barem fs)

-- ---- what stands in it

-- value i of an array is m
abbrev pub NodeIs : Nodes → ℕ → Node → Type 0
NodeIs nil i m = ⊥
NodeIs (cons n ns) zero m = m ≡ n
NodeIs (cons n ns) (suc i) m = NodeIs ns i m

-- member j of an object has its key, k, at the place `at`, and the value m
abbrev pub FieldIs : Fields → ℕ → ℕ → List ℕ → Node → Type 0
FieldIs last j at k m = ⊥
FieldIs (field p x n fs) zero at k m = (at ≡ p) × (k ≡ x) × (m ≡ n)
FieldIs (field p x n fs) (suc j) at k m = FieldIs fs j at k m

-- m is the node n itself, or stands somewhere below it
pub data Within (n : Node) : Node → Type 0 where
  itself : Within n n
  element : (p : ℕ) (ns : Nodes) (i : ℕ) {m : Node} → Within n (list p ns) → NodeIs ns i m → Within n m
  value : (p : ℕ) (fs : Fields) (j at : ℕ) (k : List ℕ) {m : Node} → Within n (dict p fs) → FieldIs fs j at k m → Within n m
