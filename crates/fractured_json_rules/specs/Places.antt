-- The tree of a Fractured JSON document with its places (json_model's Node.antt; docs/format/FRACTURED_JSON.md, section 10):
-- a value stands at its type byte, a member's key at its key byte. It is the tree of TreeOf.antt with places laid over
-- it, which are read off the bytes. It is meant for accepted documents; of any other it says nothing.
use Rattle.std.specs.Prelude.{ℕ, List, get_or}
use Rattle.json_model.specs.Limits.{deepest}
use Rattle.json_model.specs.Tree.{Tree, null, bool, num, str, arr, obj, Trees, none, more, Members, end, member}
use Rattle.json_model.specs.Node.{s_null, s_bool, s_num, s_str, Node, leaf, dict, Nodes, nil, cons, Fields, last, field, place, bare}
use Rattle.fractured_json_rules.specs.ByteTables.{Form, f_null, f_bool, f_int, f_float, f_tiny, f_string, f_object, f_array, f_reserved, form_of}
use Rattle.fractured_json_rules.specs.Meaning.{after_length, Names, Keys}
use Rattle.fractured_json_rules.specs.TreeOf.{key_end, end_at, tree_of}
use Rattle.fractured_json_rules.specs.Leads.{Leads, StandsFor}

-- where the contents of a container at o start; other values have none
unfoldable pub contents_by : ℕ → Form → ℕ
contents_by o f_null = o
contents_by o (f_bool b) = o
contents_by o (f_int s w) = o
contents_by o (f_float f w) = o
contents_by o (f_tiny b) = o
contents_by o (f_string x) = o
contents_by o (f_object x) = after_length o x
contents_by o (f_array x) = after_length o x
contents_by o f_reserved = o

abbrev pub contents : List ℕ → ℕ → ℕ
contents doc o = contents_by o (form_of (get_or doc o 0))

unfoldable mutual
  -- the value at o, which stands for a tree
  pub value_node : List ℕ → Tree → ℕ → Node
  value_node doc null o = leaf o s_null
  value_node doc (bool b) o = leaf o (s_bool b)
  value_node doc (num s m) o = leaf o (s_num s m)
  value_node doc (str x) o = leaf o (s_str x)
  value_node doc (arr ts) o = Node.list o (value_nodes doc ts (contents doc o))
  value_node doc (obj ms) o = dict o (field_nodes doc ms (contents doc o))

  -- the values from o on: each starts where the one before it ends
  pub value_nodes : List ℕ → Trees → ℕ → Nodes
  value_nodes doc none o = nil
  value_nodes doc (more t ts) o = cons (value_node doc t o) (value_nodes doc ts (end_at deepest doc o))

  -- the members from o on: a key, then its value
  pub field_nodes : List ℕ → Members → ℕ → Fields
  field_nodes doc end o = last
  field_nodes doc (member k t ms) o = field o k (value_node doc t (key_end doc o)) (field_nodes doc ms (end_at deepest doc (key_end doc o)))

-- the tree with places of a document and a key list whose check has room for so many keys
unfoldable pub fractured_node : ℕ → List ℕ → List ℕ → Node
fractured_node room doc list = value_node doc (tree_of room doc list) 3

-- the root leads to the node's place, and what stands there is the node's tree
abbrev pub Stands : List ℕ → Names → Keys → Node → Type 0
Stands doc names ks n = Leads doc (place n) × StandsFor doc names ks (place n) (bare n)
