-- The tree of a BinaryJson document with its places (docs/format/BINARY_JSON.md, section 8): an array or an object
-- stands at its Meta, any other value at its Entry, and a member's key at its KeyEntry. It is the tree of TreeOf.antt
-- with places laid over it: Metas where Entries name them, Entries and KeyEntries counted from their Meta. It is meant
-- for accepted documents; of any other it says nothing.
use Rattle.std.specs.Prelude.{ℕ, ◌+◌, ◌*◌, List, ◌≡◌}
use Rattle.json_model.specs.Reading.{ask, answers}
use Rattle.json_model.specs.Tree.{Tree, null, bool, num, str, arr, obj, Trees, none, more, Members, end, member, sizem}
use Rattle.json_model.specs.Node.{s_null, s_bool, s_num, s_str, Node, leaf, list, dict, Nodes, nil, cons, Fields, last, field, scalar_tree, bare}
use Rattle.binary_json_rules.specs.Areas.{high}
use Rattle.binary_json_rules.specs.Meaning.{EntryIs, ContainerIs}
use Rattle.binary_json_rules.specs.TreeOf.{tree_of}
use Rattle.binary_json_rules.specs.Leads.{EntryOf, Leads}
use Rattle.binary_json_rules.specs.Questions.{container_at}

unfoldable mutual
  -- the tree that the Entry at a stands for
  pub entry_node : List ℕ → Tree → ℕ → Node
  entry_node doc null a = leaf a s_null
  entry_node doc (bool b) a = leaf a (s_bool b)
  entry_node doc (num s m) a = leaf a (s_num s m)
  entry_node doc (str x) a = leaf a (s_str x)
  entry_node doc (arr ts) a = list (high doc a) (entry_nodes doc ts (high doc a + 4))
  entry_node doc (obj ms) a = dict (high doc a) (field_nodes doc ms (high doc a + 4) (high doc a + 4 + 4 * sizem ms))

  -- the values that the Entries from a on stand for
  pub entry_nodes : List ℕ → Trees → ℕ → Nodes
  entry_nodes doc none a = nil
  entry_nodes doc (more t ts) a = cons (entry_node doc t a) (entry_nodes doc ts (a + 4))

  -- the members whose KeyEntries stand from q on, and whose Entries from a on
  pub field_nodes : List ℕ → Members → ℕ → ℕ → Fields
  field_nodes doc end q a = last
  field_nodes doc (member x t ms) q a = field q x (entry_node doc t a) (field_nodes doc ms (q + 4) (a + 4))

-- the tree that the container at c stands for; a scalar alone stands at its one Entry
unfoldable pub container_node : List ℕ → Tree → ℕ → Node
container_node doc null c = leaf (c + 4) s_null
container_node doc (bool b) c = leaf (c + 4) (s_bool b)
container_node doc (num s m) c = leaf (c + 4) (s_num s m)
container_node doc (str x) c = leaf (c + 4) (s_str x)
container_node doc (arr ts) c = list c (entry_nodes doc ts (c + 4))
container_node doc (obj ms) c = dict c (field_nodes doc ms (c + 4) (c + 4 + 4 * sizem ms))

-- the whole tree, from the root container at 4
unfoldable pub binary_node : List ℕ → Node
binary_node doc = container_node doc (tree_of doc) 4

-- a node's place is one that the root leads to, and what stands there stands for the node's tree
abbrev pub Stands : List ℕ → Node → Type 0
Stands doc (leaf p s) = (c : ℕ) × Leads doc c × EntryOf doc c p × EntryIs doc (scalar_tree s) p
Stands doc (list p ns) = Leads doc p × ContainerIs doc (bare (list p ns)) p
Stands doc (dict p fs) = Leads doc p × ContainerIs doc (bare (dict p fs)) p

-- where the value of the Entry at a stands: a container where the container question says, any other value at a itself
abbrev pub PlacedBy : List ℕ → ℕ → Node → Type 0
PlacedBy doc a (leaf p s) = p ≡ a
PlacedBy doc a (list p ns) = ask (container_at doc a) ≡ answers p
PlacedBy doc a (dict p fs) = ask (container_at doc a) ≡ answers p
