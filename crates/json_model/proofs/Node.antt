-- What stands within a tree with places is a subtree of the tree without them.
use Prim.Native.Nat.{ℕ, zero, suc}
use mathlib.Core.List.{List}
use mathlib.Core.Path.{ap}
use Rattle.json_model.specs.Tree.{Subtree, ElementIs, MemberIs}
use Rattle.json_model.specs.Tree as Tree
use Rattle.json_model.specs.Node.{Node, Nodes, nil, cons, Fields, last, field, bare, bares, barem, NodeIs, FieldIs, Within, itself, element, value}

bare_element : (ns : Nodes) (i : ℕ) (m : Node) → NodeIs ns i m → ElementIs (bares ns) i (bare m)
bare_element nil i m h = absurd h
bare_element (cons n ns) zero m h = ap bare h
bare_element (cons n ns) (suc i) m h = bare_element ns i m h

bare_field : (fs : Fields) (j at : ℕ) (k : List ℕ) (m : Node) → FieldIs fs j at k m → MemberIs (barem fs) j k (bare m)
bare_field last j at k m h = absurd h
bare_field (field p x n fs) zero at k m h = (h.1, ap bare h.2)
bare_field (field p x n fs) (suc j) at k m h = bare_field fs j at k m h

pub within_subtree : (n : Node) {m : Node} → Within n m → Subtree (bare n) (bare m)
within_subtree n itself = Tree.whole
within_subtree n (element p ns i {m} w h) = Tree.element (bares ns) i (within_subtree n w) (bare_element ns i m h)
within_subtree n (value p fs j at k {m} w h) = Tree.value (barem fs) j k (within_subtree n w) (bare_field fs j at k m h)
