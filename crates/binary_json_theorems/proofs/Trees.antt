-- An Entry and a container stand for one tree each: the one that is computed from the offsets they name.
use mathlib.Core.Path.{◌≡◌, refl, sym, ap}
use mathlib.Core.Bool.{true, false}
use mathlib.Core.List.{List}
use Prim.Native.Nat.{ℕ, zero, suc, ◌+◌, ◌≤◌}
use native.Mathlib.Omega.{arith}
use Rattle.json_model.specs.Limits.{deepest}
use Rattle.json_model.specs.Tree.{Tree, null, bool, num, str, arr, obj, Trees, none, more, Members, end, member, size, sizem, depth, depths, depthm}
use Rattle.binary_json_rules.specs.Areas.{word, slot}
use Rattle.binary_json_rules.specs.Meaning.{SlotIs, EntryIs, EntriesAre, MembersAre, ScalarIs, ContainerIs, Means}
use Rattle.binary_json_rules.specs.TreeOf.{slot_at, entry_tree_by, entry_tree, entry_trees, member_trees, container_tree_by, container_tree, tree_of}

module _ (doc : List ℕ) where
  pub slot_at_lem : (v k : ℕ) → SlotIs doc v k → slot_at doc v ≡ k
  unfolding slot
  slot_at_lem v k h = let p = h.place in omega arith

  plain_tree : (t : Tree) (child : ℕ → Tree) (a : ℕ) → depth t ≤ 0 → EntryIs doc t a → entry_tree doc child a ≡ t
  unfolding entry_tree entry_tree_by
  plain_tree null child a z h = rw h
  plain_tree (bool false) child a z h = rw h
  plain_tree (bool true) child a z h = rw h
  plain_tree (num s m) child a z h = rw h.1 (sym h.4)
  plain_tree (str s) child a z h = rw (h.1, slot_at_lem _ _ h.2) (ap str (sym h.3))
  plain_tree (arr ts) child a z h = absurd (omega arith)
  plain_tree (obj ms) child a z h = absurd (omega arith)

  mutual
    unfolding entry_tree entry_tree_by entry_trees member_trees container_tree container_tree_by

    pub entry_tree_lem : (t : Tree) (l a : ℕ) → EntryIs doc t a → depth t ≤ l → entry_tree doc (container_tree l doc) a ≡ t
    entry_tree_lem null l a h z = plain_tree null (container_tree l doc) a (omega arith) h
    entry_tree_lem (bool b) l a h z = plain_tree (bool b) (container_tree l doc) a (omega arith) h
    entry_tree_lem (num s m) l a h z = plain_tree (num s m) (container_tree l doc) a (omega arith) h
    entry_tree_lem (str s) l a h z = plain_tree (str s) (container_tree l doc) a (omega arith) h
    entry_tree_lem (arr ts) zero a h z = absurd (omega arith)
    entry_tree_lem (arr ts) (suc l) a h z =
        let m = h.1.0 in
        rw (h.0, m.kind_is, m.size_is) (ap arr (entries_tree ts l _ h.1.1 (omega arith)))
    entry_tree_lem (obj ms) zero a h z = absurd (omega arith)
    entry_tree_lem (obj ms) (suc l) a h z =
        let m = h.1.0 in
        rw (h.0, m.kind_is, m.size_is) (ap obj (members_tree ms l 0 _ _ h.1.1 (omega arith)))

    entries_tree : (ts : Trees) (l a : ℕ) → EntriesAre doc ts a → depths ts ≤ l → entry_trees doc (container_tree l doc) (size ts) a ≡ ts
    entries_tree none l a h z = refl
    entries_tree (more t ts) l a h z = rw (entry_tree_lem t l a h.0 (omega arith), entries_tree ts l (a + 4) h.1 (omega arith))

    members_tree : (ms : Members) (l p q a : ℕ) → MembersAre doc ms p q a → depthm ms ≤ l → member_trees doc (container_tree l doc) (sizem ms) q a ≡ ms
    members_tree end l p q a h z = refl
    members_tree (member x t ms) l p q a h z =
        rw (slot_at_lem _ _ h.1, sym h.2, entry_tree_lem t l a h.4 (omega arith), members_tree ms l (word doc q) (q + 4) (a + 4) h.5 (omega arith))

  scalar_tree : (t : Tree) (l c : ℕ) → depth t ≤ 0 → ScalarIs doc t c → container_tree (suc l) doc c ≡ t
  unfolding container_tree container_tree_by
  scalar_tree t l c z h = rw h.0.kind_is (plain_tree t _ (c + 4) z h.1)

  pub container_tree_lem : (t : Tree) (l c : ℕ) → ContainerIs doc t c → depth t ≤ suc l → container_tree (suc l) doc c ≡ t
  unfolding container_tree container_tree_by
  container_tree_lem null l c h z = scalar_tree null l c (omega arith) h
  container_tree_lem (bool b) l c h z = scalar_tree (bool b) l c (omega arith) h
  container_tree_lem (num s m) l c h z = scalar_tree (num s m) l c (omega arith) h
  container_tree_lem (str s) l c h z = scalar_tree (str s) l c (omega arith) h
  container_tree_lem (arr ts) l c h z = rw (h.0.kind_is, h.0.size_is) (ap arr (entries_tree ts l _ h.1 (omega arith)))
  container_tree_lem (obj ms) l c h z = rw (h.0.kind_is, h.0.size_is) (ap obj (members_tree ms l 0 _ _ h.1 (omega arith)))

  pub means_tree : (t : Tree) → Means doc t → tree_of doc ≡ t
  unfolding tree_of
  means_tree t m = let n = m.nested in container_tree_lem t deepest 4 m.root (omega arith)
