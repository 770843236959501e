-- The tree of a BinaryJson document, computed from the offsets that the document itself names:
-- docs/format/BINARY_JSON.md, section 6.3. It is the tree that an accepted document means; of any other it says
-- nothing.
use Rattle.std.specs.Prelude.{ℕ, zero, suc, ◌+◌, ◌-◌, ◌*◌, ◌/◌, true, false, List}
use Rattle.json_model.specs.Bytes.{number}
use Rattle.json_model.specs.Limits.{deepest}
use Rattle.json_model.specs.Number.{binary64, float_tree}
use Rattle.json_model.specs.Tree.{Tree, null, bool, str, arr, obj, Trees, none, more, Members, end, member}
use Rattle.binary_json_rules.specs.Areas.{word, low, high, slot, content, Kind, k_array, k_object, k_scalar, k_other, kind_of, EntryType, t_false, t_true, t_null, t_string, t_number, t_container, t_other, type_of}

-- the number of the slot at the offset v
abbrev pub slot_at : List ℕ → ℕ → ℕ
slot_at doc v = (v - slot doc 0) / 4

-- the Entry at a, by its type; `child` is the tree of the container at an offset
unfoldable pub entry_tree_by : List ℕ → (ℕ → Tree) → ℕ → EntryType → Tree
entry_tree_by doc child a t_false = bool false
entry_tree_by doc child a t_true = bool true
entry_tree_by doc child a t_null = null
entry_tree_by doc child a t_string = str (content doc (slot_at doc (high doc a)))
entry_tree_by doc child a t_number = float_tree binary64 (number doc (high doc a) 8)
entry_tree_by doc child a t_container = child (high doc a)
entry_tree_by doc child a t_other = null

unfoldable pub entry_tree : List ℕ → (ℕ → Tree) → ℕ → Tree
entry_tree doc child a = entry_tree_by doc child a (type_of (low doc a))

-- n Entries from a on, and n members with their KeyEntries from q on
unfoldable pub entry_trees : List ℕ → (ℕ → Tree) → ℕ → ℕ → Trees
entry_trees doc child zero a = none
entry_trees doc child (suc n) a = more (entry_tree doc child a) (entry_trees doc child n (a + 4))

unfoldable pub member_trees : List ℕ → (ℕ → Tree) → ℕ → ℕ → ℕ → Members
member_trees doc child zero q a = end
member_trees doc child (suc n) q a = member (content doc (slot_at doc (word doc q))) (entry_tree doc child a) (member_trees doc child n (q + 4) (a + 4))

unfoldable pub container_tree_by : List ℕ → (ℕ → Tree) → ℕ → ℕ → Kind → Tree
container_tree_by doc child o n k_array = arr (entry_trees doc child n (o + 4))
container_tree_by doc child o n k_object = obj (member_trees doc child n (o + 4) (o + 4 + 4 * n))
container_tree_by doc child o n k_scalar = entry_tree doc child (o + 4)
container_tree_by doc child o n k_other = null

-- the container at o, with so many levels left
unfoldable pub container_tree : ℕ → List ℕ → ℕ → Tree
container_tree zero doc o = null
container_tree (suc levels) doc o = container_tree_by doc (container_tree levels doc) o (high doc o) (kind_of (low doc o))

-- one level more than values nest: a scalar, of depth 0, stands in a container of kind 2
unfoldable pub tree_of : List ℕ → Tree
tree_of doc = container_tree (suc deepest) doc 4
