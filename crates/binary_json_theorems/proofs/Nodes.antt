-- The containers that the root of a good document leads to, and their Entries: each stands for one subtree of the
-- document's tree, and each stands in the tree area, at a multiple of 4.
use mathlib.Core.Path.{◌≡◌, refl, sym, ◌∙◌}
use mathlib.Core.Bool.{true, false}
use mathlib.Core.List.{List}
use Prim.Native.Nat.{ℕ, zero, suc, ◌+◌, ◌*◌, ◌%◌, ◌≤◌, ◌<◌, max}
use native.Mathlib.Omega.{arith}
use Rattle.json_model.specs.Tree.{Tree, null, bool, num, str, arr, obj, Trees, none, more, Members, end, member, size, sizem, depth, ElementIs, MemberIs, NoContainer, Subtree, whole, element, value}
use Rattle.json_model.proofs.Tree.{element_at_lem, member_at_lem}
use Rattle.binary_json_rules.specs.Areas.{word, low, high, index, k_array, k_object, k_scalar, t_container, type_of}
use Rattle.binary_json_rules.specs.Meaning.{Meta, EntryIs, EntriesAre, MembersAre, ScalarIs, ContainerIs, Placed, PlacedAll, PlacedMembers, PlacedUnder, Means}
use Rattle.binary_json_rules.specs.Leads.{EntryOf, of_array, of_scalar, of_object, Leads, root, named}
use Rattle.binary_json_theorems.proofs.Trees.{entry_tree_lem, container_tree_lem}

-- ---- one tree each

pub entry_one : (doc : List ℕ) (a : ℕ) (u v : Tree) → EntryIs doc u a → EntryIs doc v a → u ≡ v
entry_one doc a u v p q =
    let l = max (depth u) (depth v) in
    sym (entry_tree_lem doc u l a p (omega arith)) ∙ entry_tree_lem doc v l a q (omega arith)

pub container_one : (doc : List ℕ) (c : ℕ) (u v : Tree) → ContainerIs doc u c → ContainerIs doc v c → u ≡ v
container_one doc c u v p q =
    let l = max (depth u) (depth v) in
    sym (container_tree_lem doc u l c p (omega arith)) ∙ container_tree_lem doc v l c q (omega arith)

array≢object : k_array ≡ k_object → ⊥
array≢object e = let z : ◌≡◌ {A = ℕ} 0 1 = cc in omega arith

array≢scalar : k_array ≡ k_scalar → ⊥
array≢scalar e = let z : ◌≡◌ {A = ℕ} 0 1 = cc in omega arith

object≢scalar : k_object ≡ k_scalar → ⊥
object≢scalar e = let z : ◌≡◌ {A = ℕ} 0 1 = cc in omega arith

-- ---- places

-- a multiple of 4, from 4 on
pub record Aligned (c : ℕ) : Type 0 where
  pub least : 4 ≤ c
  pub step : c % 4 ≡ 0

pub words_on : (c w : ℕ) → Aligned c → Aligned (c + 4 * w)
words_on c w z = let l = z.least in let s = z.step in record { least = omega arith; step = omega arith }

pub next_word : (c : ℕ) → Aligned c → Aligned (c + 4)
next_word c z = let l = z.least in let s = z.step in record { least = omega arith; step = omega arith }

-- a multiple of 4 past the Meta of a container
pub past_meta : (c o : ℕ) → 4 ≤ c → o % 4 ≡ 0 → c < o → Aligned o
past_meta c o b s h = record { least = omega arith; step = s }

-- a container that stands for the subtree u of t
pub record Container (doc : List ℕ) (t : Tree) (c : ℕ) : Type 0 where
  pub tree : Tree
  pub is : ContainerIs doc tree c
  pub placed : PlacedUnder doc tree c
  pub aligned : Aligned c
  pub within : Subtree t tree

-- an Entry that stands for the subtree v of t
pub record Entry (doc : List ℕ) (t : Tree) (a : ℕ) : Type 0 where
  pub tree : Tree
  pub is : EntryIs doc tree a
  pub parent : ℕ
  pub parent_least : 4 ≤ parent
  pub placed : Placed doc tree parent a
  pub aligned : Aligned a
  pub inside : a + 4 ≤ index doc
  pub within : Subtree t tree

module _ (doc : List ℕ) where
  -- ---- the Entries of a container

  -- value i of an array whose Entries start at a, and the value of member j likewise
  pub element_is : (ts : Trees) (i a : ℕ) (v : Tree) → EntriesAre doc ts a → ElementIs ts i v → EntryIs doc v (a + 4 * i)
  element_is none i a v h x = absurd x
  element_is (more t ts) zero a v h x = let p : a + 4 * zero ≡ a = omega arith in rw (p, x) h.0
  element_is (more t ts) (suc i) a v h x = let p : a + 4 * suc i ≡ a + 4 + 4 * i = omega arith in rw p (element_is ts i (a + 4) v h.1 x)

  pub member_is_lem : (ms : Members) (j p q a : ℕ) (k : List ℕ) (v : Tree) → MembersAre doc ms p q a → MemberIs ms j k v → EntryIs doc v (a + 4 * j)
  member_is_lem end j p q a k v h x = absurd x
  member_is_lem (member y t ms) zero p q a k v h x = let r : a + 4 * zero ≡ a = omega arith in rw (r, x.1) h.4
  member_is_lem (member y t ms) (suc j) p q a k v h x =
      let r : a + 4 * suc j ≡ a + 4 + 4 * j = omega arith in
      rw r (member_is_lem ms j (word doc q) (q + 4) (a + 4) k v h.5 x)

  -- a scalar that stands alone
  pub scalar_is : (u : Tree) (c : ℕ) → NoContainer u → ContainerIs doc u c → ScalarIs doc u c
  scalar_is null c n h = h
  scalar_is (bool b) c n h = h
  scalar_is (num s m) c n h = h
  scalar_is (str s) c n h = h
  scalar_is (arr ts) c n h = absurd (n tt)
  scalar_is (obj ms) c n h = absurd (n tt)

  -- where the containers below it stand
  child_element : (ts : Trees) (i c a : ℕ) (v : Tree) → PlacedAll doc ts c a → ElementIs ts i v → Placed doc v c (a + 4 * i)
  child_element none i c a v f x = absurd x
  child_element (more t ts) zero c a v f x = let p : a + 4 * zero ≡ a = omega arith in rw (p, x) f.0
  child_element (more t ts) (suc i) c a v f x = let p : a + 4 * suc i ≡ a + 4 + 4 * i = omega arith in rw p (child_element ts i c (a + 4) v f.1 x)

  child_member : (ms : Members) (j c a : ℕ) (k : List ℕ) (v : Tree) → PlacedMembers doc ms c a → MemberIs ms j k v → Placed doc v c (a + 4 * j)
  child_member end j c a k v f x = absurd x
  child_member (member y t ms) zero c a k v f x = let p : a + 4 * zero ≡ a = omega arith in rw (p, x.1) f.0
  child_member (member y t ms) (suc j) c a k v f x = let p : a + 4 * suc j ≡ a + 4 + 4 * j = omega arith in rw p (child_member ms j c (a + 4) k v f.1 x)

  plain_placed : (u : Tree) (c a : ℕ) → depth u ≤ 0 → Placed doc u c a
  plain_placed null c a d = tt
  plain_placed (bool b) c a d = tt
  plain_placed (num s m) c a d = tt
  plain_placed (str s) c a d = tt
  plain_placed (arr ts) c a d = absurd (omega arith)
  plain_placed (obj ms) c a d = absurd (omega arith)

  module _ (t : Tree) where
    as_entry : (c a i : ℕ) (v : Tree) → 4 ≤ c → EntryIs doc v (a + 4 * i) → Placed doc v c (a + 4 * i) → Aligned a → a + 4 * i + 4 ≤ index doc → Subtree t v → Entry doc t (a + 4 * i)
    as_entry c a i v b is p z h w = record { tree = v; is = is; parent = c; parent_least = b; placed = p; aligned = words_on a i z; inside = h; within = w }

    -- element i of an array at c, and member j of an object
    element_entry : (c : ℕ) (ts : Trees) (i : ℕ) (v : Tree) → ContainerIs doc (arr ts) c → PlacedUnder doc (arr ts) c → Aligned c → Subtree t (arr ts)
        → i < size ts → ElementIs ts i v → Entry doc t (c + 4 + 4 * i)
    element_entry c ts i v h f z w b x =
        let fits = h.0.inside in
        as_entry c (c + 4) i v z.least (element_is ts i (c + 4) v h.1 x) (child_element ts i c (c + 4) v f x) (next_word c z) (omega arith) (element ts i w x)

    member_entry : (c : ℕ) (ms : Members) (j : ℕ) (k : List ℕ) (v : Tree) → ContainerIs doc (obj ms) c → PlacedUnder doc (obj ms) c → Aligned c → Subtree t (obj ms)
        → j < sizem ms → MemberIs ms j k v → Entry doc t (c + 4 + 4 * sizem ms + 4 * j)
    member_entry c ms j k v h f z w b x =
        let fits = h.0.inside in
        let z4 = words_on (c + 4) (sizem ms) (next_word c z) in
        as_entry c (c + 4 + 4 * sizem ms) j v z.least (member_is_lem ms j 0 (c + 4) _ k v h.1 x) (child_member ms j c _ k v f x) z4 (omega arith) (value ms j k w x)

    -- the Entry of a scalar that stands alone
    scalar_entry : (c : ℕ) (u : Tree) → Meta doc c k_scalar 1 1 → EntryIs doc u (c + 4) → Aligned c → Subtree t u → depth u ≤ 0 → Entry doc t (c + 4)
    scalar_entry c u m h z w d =
        let fits = m.inside in
        record { tree = u; is = h; parent = c; parent_least = z.least; placed = plain_placed u c (c + 4) d; aligned = next_word c z; inside = omega arith; within = w }

    scalar_entry_of : (c a : ℕ) (u : Tree) → Meta doc c k_scalar 1 1 → EntryIs doc u (c + 4) → Aligned c → Subtree t u → depth u ≤ 0 → EntryOf doc c a → Entry doc t a
    scalar_entry_of c a u m h z w d (of_array i k b p) = absurd (array≢scalar (sym k ∙ m.kind_is))
    scalar_entry_of c a u m h z w d (of_scalar i k b p) =
        let one = m.size_is in
        let q : a ≡ c + 4 = omega arith in
        rw q (scalar_entry c u m h z w d)
    scalar_entry_of c a u m h z w d (of_object j k b p) = absurd (object≢scalar (sym k ∙ m.kind_is))

    entry_of : (c a : ℕ) (u : Tree) → ContainerIs doc u c → PlacedUnder doc u c → Aligned c → Subtree t u → EntryOf doc c a → Entry doc t a
    entry_of c a null h f z w x = scalar_entry_of c a null h.0 h.1 z w (omega arith) x
    entry_of c a (bool b) h f z w x = scalar_entry_of c a (bool b) h.0 h.1 z w (omega arith) x
    entry_of c a (num s m) h f z w x = scalar_entry_of c a (num s m) h.0 h.1 z w (omega arith) x
    entry_of c a (str s) h f z w x = scalar_entry_of c a (str s) h.0 h.1 z w (omega arith) x
    entry_of c a (arr ts) h f z w (of_array i k b p) =
        let n = h.0.size_is in
        let b' : i < size ts = omega arith in
        let (v, x) = element_at_lem ts i b' in
        rw p (element_entry c ts i v h f z w b' x)
    entry_of c a (arr ts) h f z w (of_scalar i k b p) = absurd (array≢scalar (sym h.0.kind_is ∙ k))
    entry_of c a (arr ts) h f z w (of_object j k b p) = absurd (array≢object (sym h.0.kind_is ∙ k))
    entry_of c a (obj ms) h f z w (of_array i k b p) = absurd (array≢object (sym k ∙ h.0.kind_is))
    entry_of c a (obj ms) h f z w (of_scalar i k b p) = absurd (object≢scalar (sym h.0.kind_is ∙ k))
    entry_of c a (obj ms) h f z w (of_object j k b p) =
        let n = h.0.size_is in
        let b' : j < sizem ms = omega arith in
        let (x, v, y) = member_at_lem ms j b' in
        let q : a ≡ c + 4 + 4 * sizem ms + 4 * j = rw (← n) p in
        rw q (member_entry c ms j x v h f z w b' y)

    -- an Entry of type 5 names a container that stands for what the Entry stands for
    named_by : (v : Tree) (c a : ℕ) → EntryIs doc v a → 4 ≤ c → Placed doc v c a → Subtree t v → type_of (low doc a) ≡ t_container → Container doc t (high doc a)
    named_by null c a h b p w k = absurd (let y : ◌≡◌ {A = ℕ} 0 1 = cc (h, k) in omega arith)
    named_by (bool false) c a h b p w k = absurd (let y : ◌≡◌ {A = ℕ} 0 1 = cc (h, k) in omega arith)
    named_by (bool true) c a h b p w k = absurd (let y : ◌≡◌ {A = ℕ} 0 1 = cc (h, k) in omega arith)
    named_by (num s m) c a h b p w k = absurd (let y : ◌≡◌ {A = ℕ} 0 1 = cc (h.1, k) in omega arith)
    named_by (str s) c a h b p w k = absurd (let y : ◌≡◌ {A = ℕ} 0 1 = cc (h.1, k) in omega arith)
    named_by (arr ts) c a h b p w k = record { tree = arr ts; is = h.1; placed = p.2; aligned = past_meta c _ b p.0 p.1; within = w }
    named_by (obj ms) c a h b p w k = record { tree = obj ms; is = h.1; placed = p.2; aligned = past_meta c _ b p.0 p.1; within = w }

    pub entry_named : (a : ℕ) (x : Entry doc t a) → type_of (low doc a) ≡ t_container → Container doc t (high doc a)
    entry_named a x k = named_by x.tree x.parent a x.is x.parent_least x.placed x.within k

    pub entry_in : (c a : ℕ) → Container doc t c → EntryOf doc c a → Entry doc t a
    entry_in c a x o = entry_of c a x.tree x.is x.placed x.aligned x.within o

    -- ---- from the root on

    pub container_at_lem : Means doc t → {c : ℕ} → Leads doc c → Container doc t c
    container_at_lem m root =
        record { tree = t; is = m.root; placed = m.placed; aligned = record { least = omega arith; step = refl }; within = whole }
    container_at_lem m (named c a l o k) = entry_named a (entry_in c a (container_at_lem m l) o) k
