-- The tree with places: without them it is the tree, of any bytes. Of a good document, each node is one that the root
-- leads to, and stands there for its own subtree; each container that the root leads to, and each Entry of one, is in
-- it; and its places are those that the questions answer.
use mathlib.Core.Path.{◌≡◌, refl, sym, ap, subst}
use mathlib.Core.Bool.{true, false}
use mathlib.Core.List.{List}
use Prim.Native.Nat.{ℕ, zero, suc, ◌+◌, ◌*◌, ◌<◌}
use native.Mathlib.Omega.{arith}
use Rattle.json_model.specs.Reading.{ask, answers}
use Rattle.json_model.specs.Tree.{Tree, null, bool, num, str, arr, obj, Trees, none, more, Members, end, member, size, sizem, ElementIs, MemberIs}
use Rattle.json_model.specs.Node.{Node, leaf, list, dict, Nodes, Fields, bare, bares, barem, NodeIs, FieldIs, Within, itself, element, value}
use Rattle.json_model.proofs.Tree.{element_at_lem, member_at_lem}
use Rattle.binary_json_rules.specs.Areas.{word, low, high, content, k_scalar, kind_of, t_container, type_of}
use Rattle.binary_json_rules.specs.Meaning.{SlotIs, EntryIs, ContainerIs, Means}
use Rattle.binary_json_rules.specs.TreeOf.{tree_of}
use Rattle.binary_json_rules.specs.Leads.{EntryOf, of_array, of_scalar, of_object, Leads, root, named}
use Rattle.binary_json_rules.specs.Questions as Questions
use Rattle.binary_json_rules.specs.Questions.{key_entry_of, member_at}
use Rattle.binary_json_rules.specs.Places.{entry_node, entry_nodes, field_nodes, container_node, binary_node, Stands, PlacedBy}
use Rattle.binary_json_theorems.proofs.Trees.{means_tree}
use Rattle.binary_json_theorems.proofs.Nodes.{element_is, member_is_lem, container_one, entry_one}
use Rattle.binary_json_theorems.proofs.Answers.{key_slot}
use Rattle.binary_json_theorems.proofs.Demands.{element_entry, member_entry, scalar_entry, container_stands, entry_stands, element_of_array, member_of_object, container_of_entry}

clash : ◌≡◌ {A = ℕ} 0 1 → ⊥
clash e = omega arith

module _ (doc : List ℕ) where
  -- ---- without its places

  mutual
    unfolding entry_node entry_nodes field_nodes

    bare_entry : (t : Tree) (a : ℕ) → bare (entry_node doc t a) ≡ t
    bare_entry null a = refl
    bare_entry (bool b) a = refl
    bare_entry (num s m) a = refl
    bare_entry (str x) a = refl
    bare_entry (arr ts) a = ap arr (bare_entries ts _)
    bare_entry (obj ms) a = ap obj (bare_fields ms _ _)

    bare_entries : (ts : Trees) (a : ℕ) → bares (entry_nodes doc ts a) ≡ ts
    bare_entries none a = refl
    bare_entries (more t ts) a = rw (bare_entry t a, bare_entries ts (a + 4))

    bare_fields : (ms : Members) (q a : ℕ) → barem (field_nodes doc ms q a) ≡ ms
    bare_fields end q a = refl
    bare_fields (member k t ms) q a = rw (bare_entry t a, bare_fields ms (q + 4) (a + 4))

  bare_container : (t : Tree) (c : ℕ) → bare (container_node doc t c) ≡ t
  unfolding container_node
  bare_container null c = refl
  bare_container (bool b) c = refl
  bare_container (num s m) c = refl
  bare_container (str x) c = refl
  bare_container (arr ts) c = ap arr (bare_entries ts _)
  bare_container (obj ms) c = ap obj (bare_fields ms _ _)

  -- for all bytes
  pub bare_binary : bare (binary_node doc) ≡ tree_of doc
  unfolding binary_node
  bare_binary = bare_container (tree_of doc) 4

  -- ---- elements and members

  element_node : (ts : Trees) (i a : ℕ) (v : Tree) → ElementIs ts i v → NodeIs (entry_nodes doc ts a) i (entry_node doc v (a + 4 * i))
  unfolding entry_nodes
  element_node none i a v h = absurd h
  element_node (more t ts) zero a v h = let p : a + 4 * zero ≡ a = omega arith in rw (p, h)
  element_node (more t ts) (suc i) a v h = let p : a + 4 * suc i ≡ a + 4 + 4 * i = omega arith in rw p (element_node ts i (a + 4) v h)

  element_of : (ts : Trees) (i a : ℕ) (m : Node) → NodeIs (entry_nodes doc ts a) i m → (v : Tree) × ElementIs ts i v × (m ≡ entry_node doc v (a + 4 * i))
  unfolding entry_nodes
  element_of none i a m h = absurd h
  element_of (more t ts) zero a m h = let p : a + 4 * zero ≡ a = omega arith in (t, refl, rw p h)
  element_of (more t ts) (suc i) a m h =
      let p : a + 4 * suc i ≡ a + 4 + 4 * i = omega arith in
      let (v, x, q) = element_of ts i (a + 4) m h in
      (v, x, rw p q)

  field_node : (ms : Members) (j q a : ℕ) (k : List ℕ) (v : Tree) → MemberIs ms j k v → FieldIs (field_nodes doc ms q a) j (q + 4 * j) k (entry_node doc v (a + 4 * j))
  unfolding field_nodes
  field_node end j q a k v h = absurd h
  field_node (member x t ms) zero q a k v h = let p : a + 4 * zero ≡ a = omega arith in let r : q + 4 * zero ≡ q = omega arith in (r, h.0, rw (p, h.1))
  field_node (member x t ms) (suc j) q a k v h =
      let p : a + 4 * suc j ≡ a + 4 + 4 * j = omega arith in
      let r : q + 4 * suc j ≡ q + 4 + 4 * j = omega arith in
      rw (p, r) (field_node ms j (q + 4) (a + 4) k v h)

  field_of : (ms : Members) (j q a at : ℕ) (k : List ℕ) (m : Node) → FieldIs (field_nodes doc ms q a) j at k m
      → (v : Tree) × MemberIs ms j k v × (m ≡ entry_node doc v (a + 4 * j)) × (at ≡ q + 4 * j)
  unfolding field_nodes
  field_of end j q a at k m h = absurd h
  field_of (member x t ms) zero q a at k m h =
      let p : a + 4 * zero ≡ a = omega arith in
      let w = h.0 in
      (t, (h.1, refl), rw p h.2, omega arith)
  field_of (member x t ms) (suc j) q a at k m h =
      let p : a + 4 * suc j ≡ a + 4 + 4 * j = omega arith in
      let (v, g, e, r) = field_of ms j (q + 4) (a + 4) at k m h in
      (v, g, rw p e, omega arith)

  -- ---- how a node is laid out

  -- the root leads to the node, which stands for a tree and has that tree's places
  abbrev Laid : Node → Type 0
  Laid (leaf p s) = Stands doc (leaf p s)
  Laid (list p ns) = (ts : Trees) × Leads doc p × ContainerIs doc (arr ts) p × (ns ≡ entry_nodes doc ts (p + 4))
  Laid (dict p fs) = (ms : Members) × Leads doc p × ContainerIs doc (obj ms) p × (fs ≡ field_nodes doc ms (p + 4) (p + 4 + 4 * sizem ms))

  laid_stands : (n : Node) → Laid n → Stands doc n
  laid_stands (leaf p s) h = h
  laid_stands (list p ns) h = (h.1, rw (h.3, bare_entries h.0 (p + 4)) h.2)
  laid_stands (dict p fs) h = (h.1, rw (h.3, bare_fields h.0 (p + 4) (p + 4 + 4 * sizem h.0)) h.2)

  laid_entry : (c a : ℕ) (v : Tree) → Leads doc c → EntryOf doc c a → EntryIs doc v a → Laid (entry_node doc v a)
  unfolding entry_node
  laid_entry c a null l o h = (c, l, o, h)
  laid_entry c a (bool b) l o h = (c, l, o, h)
  laid_entry c a (num s m) l o h = (c, l, o, h)
  laid_entry c a (str x) l o h = (c, l, o, h)
  laid_entry c a (arr ts) l o h = (ts, named c a l o h.0, h.1, refl)
  laid_entry c a (obj ms) l o h = (ms, named c a l o h.0, h.1, refl)

  laid_container : (c : ℕ) (u : Tree) → Leads doc c → ContainerIs doc u c → Laid (container_node doc u c)
  unfolding container_node
  laid_container c null l h = (c, l, scalar_entry doc c null (λ n. n) h, h.1)
  laid_container c (bool b) l h = (c, l, scalar_entry doc c (bool b) (λ n. n) h, h.1)
  laid_container c (num s m) l h = (c, l, scalar_entry doc c (num s m) (λ n. n) h, h.1)
  laid_container c (str x) l h = (c, l, scalar_entry doc c (str x) (λ n. n) h, h.1)
  laid_container c (arr ts) l h = (ts, l, h, refl)
  laid_container c (obj ms) l h = (ms, l, h, refl)

  -- the Entry of an element and of a member, and what stands there
  laid_element : (p : ℕ) (ns : Nodes) (i : ℕ) (m : Node) (h : Laid (list p ns)) → NodeIs ns i m
      → (v : Tree) × ElementIs h.0 i v × (m ≡ entry_node doc v (p + 4 + 4 * i)) × EntryOf doc p (p + 4 + 4 * i) × EntryIs doc v (p + 4 + 4 * i)
  laid_element p ns i m h e =
      let (v, x, q) = element_of h.0 i (p + 4) m (rw h.3 at e) in
      (v, x, q, element_entry doc p h.0 i v h.2 x, element_is doc h.0 i (p + 4) v h.2.1 x)

  laid_field : (p : ℕ) (fs : Fields) (j at : ℕ) (k : List ℕ) (m : Node) (h : Laid (dict p fs)) → FieldIs fs j at k m
      → (v : Tree) × MemberIs h.0 j k v × (m ≡ entry_node doc v (p + 4 + 4 * sizem h.0 + 4 * j)) × EntryOf doc p (p + 4 + 4 * sizem h.0 + 4 * j)
      × EntryIs doc v (p + 4 + 4 * sizem h.0 + 4 * j)
  laid_field p fs j at k m h f =
      let (v, x, q, r) = field_of h.0 j (p + 4) (p + 4 + 4 * sizem h.0) at k m (rw h.3 at f) in
      (v, x, q, member_entry doc p h.0 j k v h.2 x, member_is_lem doc h.0 j 0 (p + 4) _ k v h.2.1 x)

  within_laid : (t : Node) {m : Node} → Laid t → Within t m → Laid m
  within_laid t h itself = h
  within_laid t h (element p ns i {m} w e) =
      let g = within_laid t h w in
      let (v, x, q, o, is) = laid_element p ns i m g e in
      rw q (laid_entry p (p + 4 + 4 * i) v g.1 o is)
  within_laid t h (value p fs j at k {m} w f) =
      let g = within_laid t h w in
      let (v, x, q, o, is) = laid_field p fs j at k m g f in
      rw q (laid_entry p (p + 4 + 4 * sizem g.0 + 4 * j) v g.1 o is)

-- ---- in a good document

module _ (doc : List ℕ) (t : Tree) (m : Means doc t) where
  binary_is : binary_node doc ≡ container_node doc t 4
  unfolding binary_node
  binary_is = ap (λ u. container_node doc u 4) (means_tree doc t m)

  root_laid : Laid doc (binary_node doc)
  root_laid = rw binary_is (laid_container doc 4 t root m.root)

  -- each node of it is one that the root leads to, and stands there for its tree
  pub nodes_stand : {n : Node} → Within (binary_node doc) n → Stands doc n
  nodes_stand {n} w = laid_stands doc n (within_laid doc (binary_node doc) root_laid w)

  -- and each key stands at its KeyEntry, which names a slot that has it for a text
  pub keys_stand : {p : ℕ} {fs : Fields} → Within (binary_node doc) (dict p fs) → (j at : ℕ) (k : List ℕ) (n : Node) → FieldIs fs j at k n
      → (at ≡ key_entry_of p j) × (i : ℕ) × SlotIs doc (word doc at) i × (k ≡ content doc i)
  keys_stand {p} {fs} w j at k n f =
      let (ms, l, h, e) = within_laid doc (binary_node doc) root_laid w in
      let (v, x, q, r) = field_of doc ms j (p + 4) (p + 4 + 4 * sizem ms) at k n (rw e at f) in
      let (i, is, c) = key_slot doc t m ms j 0 (p + 4) (p + 4 + 4 * sizem ms) k v h.1 x in
      (r, i, subst (λ (y : ℕ). SlotIs doc (word doc y) i) (sym r) is, c)

  -- and each that the root leads to is in it: a container as the value that it stands for, and an Entry of it likewise
  in_array : (c : ℕ) (ts : Trees) (i : ℕ) (x v : Tree) → ContainerIs doc (arr ts) c → Within (binary_node doc) (container_node doc (arr ts) c) → ElementIs ts i x
      → EntryIs doc v (c + 4 + 4 * i) → Within (binary_node doc) (entry_node doc v (c + 4 + 4 * i))
  unfolding container_node
  in_array c ts i x v h w y is =
      let e : x ≡ v = entry_one doc (c + 4 + 4 * i) x v (element_is doc ts i (c + 4) x h.1 y) is in
      rw (← e) (element c (entry_nodes doc ts (c + 4)) i w (element_node doc ts i (c + 4) x y))

  in_object : (c : ℕ) (ms : Members) (j : ℕ) (k : List ℕ) (x v : Tree) → ContainerIs doc (obj ms) c → Within (binary_node doc) (container_node doc (obj ms) c) → MemberIs ms j k x
      → EntryIs doc v (c + 4 + 4 * sizem ms + 4 * j) → Within (binary_node doc) (entry_node doc v (c + 4 + 4 * sizem ms + 4 * j))
  unfolding container_node
  in_object c ms j k x v h w y is =
      let e : x ≡ v = entry_one doc (c + 4 + 4 * sizem ms + 4 * j) x v (member_is_lem doc ms j 0 (c + 4) _ k x h.1 y) is in
      rw (← e) (value c (field_nodes doc ms (c + 4) (c + 4 + 4 * sizem ms)) j (c + 4 + 4 * j) k w (field_node doc ms j (c + 4) (c + 4 + 4 * sizem ms) k x y))

  in_scalar : (c a : ℕ) (u v : Tree) → kind_of (low doc c) ≡ k_scalar → high doc c ≡ 1 → EntryIs doc u (c + 4) → Within (binary_node doc) (entry_node doc u (c + 4)) → EntryOf doc c a
      → EntryIs doc v a → Within (binary_node doc) (entry_node doc v a)
  in_scalar c a u v s n h w (of_array i k b p) is = absurd (clash cc)
  in_scalar c a u v s n h w (of_scalar i k b p) is =
      let q : a ≡ c + 4 = omega arith in
      let e : u ≡ v = entry_one doc (c + 4) u v h (rw q at is) in
      rw (q, ← e) w
  in_scalar c a u v s n h w (of_object j k b p) is = absurd (clash cc)

  entry_in_it : (c a : ℕ) (u v : Tree) → ContainerIs doc u c → Within (binary_node doc) (container_node doc u c) → EntryOf doc c a → EntryIs doc v a → Within (binary_node doc) (entry_node doc v a)
  unfolding container_node entry_node
  entry_in_it c a null v h w o is = in_scalar c a null v h.0.kind_is h.0.size_is h.1 w o is
  entry_in_it c a (bool b) v h w o is = in_scalar c a (bool b) v h.0.kind_is h.0.size_is h.1 w o is
  entry_in_it c a (num s n) v h w o is = in_scalar c a (num s n) v h.0.kind_is h.0.size_is h.1 w o is
  entry_in_it c a (str x) v h w o is = in_scalar c a (str x) v h.0.kind_is h.0.size_is h.1 w o is
  entry_in_it c a (arr ts) v h w (of_array i k b p) is =
      let n = h.0.size_is in
      let l : i < size ts = omega arith in
      let (x, y) = element_at_lem ts i l in
      rw p (in_array c ts i x v h w y (rw p at is))
  entry_in_it c a (arr ts) v h w (of_scalar i k b p) is = let y = h.0.kind_is in absurd (clash cc)
  entry_in_it c a (arr ts) v h w (of_object j k b p) is = let y = h.0.kind_is in absurd (clash cc)
  entry_in_it c a (obj ms) v h w (of_array i k b p) is = let y = h.0.kind_is in absurd (clash cc)
  entry_in_it c a (obj ms) v h w (of_scalar i k b p) is = let y = h.0.kind_is in absurd (clash cc)
  entry_in_it c a (obj ms) v h w (of_object j k b p) is =
      let n = h.0.size_is in
      let l : j < sizem ms = omega arith in
      let q : a ≡ c + 4 + 4 * sizem ms + 4 * j = rw (← n) p in
      let (x, u, y) = member_at_lem ms j l in
      rw q (in_object c ms j x u v h w y (rw q at is))

  -- a container that an Entry names
  by_entry : (a : ℕ) (v u : Tree) → EntryIs doc v a → type_of (low doc a) ≡ t_container → ContainerIs doc u (high doc a) → Within (binary_node doc) (entry_node doc v a)
      → Within (binary_node doc) (container_node doc u (high doc a))
  unfolding container_node entry_node
  by_entry a null u h k is w = absurd (clash cc)
  by_entry a (bool false) u h k is w = absurd (clash cc)
  by_entry a (bool true) u h k is w = absurd (clash cc)
  by_entry a (num s n) u h k is w = let y = h.1 in absurd (clash cc)
  by_entry a (str x) u h k is w = let y = h.1 in absurd (clash cc)
  by_entry a (arr ts) u h k is w = rw (container_one doc (high doc a) u (arr ts) is h.1) w
  by_entry a (obj ms) u h k is w = rw (container_one doc (high doc a) u (obj ms) is h.1) w

  pub containers_within : {c : ℕ} → Leads doc c → (u : Tree) → ContainerIs doc u c → Within (binary_node doc) (container_node doc u c)
  containers_within root u h = rw (container_one doc 4 u t h m.root, ← binary_is) itself
  containers_within (named d a l o k) u h =
      let (v, is, s) = entry_stands doc t m d a l o in
      let (x, g, r) = container_stands doc t m d l in
      by_entry a v u is k h (entry_in_it d a x v g (containers_within l x g) o is)

  pub entries_within : (c a : ℕ) (v : Tree) → Leads doc c → EntryOf doc c a → EntryIs doc v a → Within (binary_node doc) (entry_node doc v a)
  entries_within c a v l o is =
      let (u, h, s) = container_stands doc t m c l in
      entry_in_it c a u v h (containers_within l u h) o is

  -- ---- its places are those that the questions answer

  placed_by : (c a : ℕ) (v : Tree) → Leads doc c → EntryOf doc c a → EntryIs doc v a → PlacedBy doc a (entry_node doc v a)
  unfolding entry_node
  placed_by c a null l o h = refl
  placed_by c a (bool b) l o h = refl
  placed_by c a (num s n) l o h = refl
  placed_by c a (str x) l o h = refl
  placed_by c a (arr ts) l o h = (container_of_entry doc t m c l a o (arr ts) tt h).0
  placed_by c a (obj ms) l o h = (container_of_entry doc t m c l a o (obj ms) tt h).0

  pub element_placed : (p : ℕ) (ns : Nodes) (i : ℕ) (n : Node) → Within (binary_node doc) (list p ns) → NodeIs ns i n
      → (a : ℕ) × (ask (Questions.element doc p i) ≡ answers a) × PlacedBy doc a n
  element_placed p ns i n w e =
      let g = within_laid doc (binary_node doc) root_laid w in
      let (v, x, q, o, is) = laid_element doc p ns i n g e in
      (p + 4 + 4 * i, (element_of_array doc t m p g.1 g.0 i v g.2 x).0, rw q (placed_by p (p + 4 + 4 * i) v g.1 o is))

  pub member_placed : (p : ℕ) (fs : Fields) (j at : ℕ) (k : List ℕ) (n : Node) → Within (binary_node doc) (dict p fs) → FieldIs fs j at k n
      → (a : ℕ) × (ask (member_at doc p j) ≡ answers (record { slot = word doc at; entry = a })) × PlacedBy doc a n
  member_placed p fs j at k n w f =
      let g = within_laid doc (binary_node doc) root_laid w in
      let (v, x, q, o, is) = laid_field doc p fs j at k n g f in
      let r = (keys_stand w j at k n f).0 in
      (p + 4 + 4 * sizem g.0 + 4 * j, rw r (member_of_object doc t m p g.1 g.0 j k v g.2 x).0, rw q (placed_by p _ v g.1 o is))
