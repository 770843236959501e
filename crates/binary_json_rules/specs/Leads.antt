-- Which containers the root leads to, by the bytes alone: docs/format/BINARY_JSON.md, section 7. Among containers, the
-- root leads to itself and to every one named by a type 5 Entry of a container it leads to.
use Rattle.std.specs.Prelude.{ℕ, ◌+◌, ◌*◌, ◌<◌, List, ◌≡◌}
use Rattle.binary_json_rules.specs.Areas.{low, high, k_array, k_object, k_scalar, kind_of, t_container, type_of}

-- a is the offset of an Entry of the container at c, whose Meta gives its kind and size
pub data EntryOf (doc : List ℕ) (c a : ℕ) : Type 0 where
  of_array : (i : ℕ) → kind_of (low doc c) ≡ k_array → i < high doc c → a ≡ c + 4 + 4 * i → EntryOf doc c a
  of_scalar : (i : ℕ) → kind_of (low doc c) ≡ k_scalar → i < high doc c → a ≡ c + 4 + 4 * i → EntryOf doc c a
  of_object : (j : ℕ) → kind_of (low doc c) ≡ k_object → j < high doc c → a ≡ c + 4 + 4 * high doc c + 4 * j → EntryOf doc c a

pub data Leads (doc : List ℕ) : ℕ → Type 0 where
  root : Leads doc 4
  named : (c a : ℕ) → Leads doc c → EntryOf doc c a → type_of (low doc a) ≡ t_container → Leads doc (high doc a)
