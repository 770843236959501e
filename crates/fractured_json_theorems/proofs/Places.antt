-- The tree with places of a good document: without its places it is the tree that the document means; each of its nodes
-- is one that the root leads to, and stands there for its own subtree; each value that the root leads to is in it; and
-- its places are those that the questions answer.
use Prim.Native.Nat.{ℕ, zero, suc, ◌≤◌, ◌<◌}
use mathlib.Core.List.{List}
use mathlib.Core.Path.{◌≡◌, refl, sym, ap, ◌∙◌, subst}
use native.Mathlib.Omega.{arith}
use lib.ListN.{length, get_or}
use Rattle.json_model.specs.Limits.{deepest}
use Rattle.json_model.specs.Reading.{Asked, ask, answers}
use Rattle.json_model.specs.Tree.{Tree, null, bool, num, str, arr, obj, Trees, none, more, Members, end, member, size, sizem, ElementIs, MemberIs}
use Rattle.json_model.specs.Node.{Node, leaf, dict, Nodes, Fields, scalar_tree, place, bare, bares, barem, NodeIs, FieldIs, Within, itself, element, value}
use Rattle.json_model.proofs.Tree.{element_at_lem, element_below, member_at_lem, member_below}
use Rattle.fractured_json_rules.specs.ByteTables.{Len, f_object, f_array, form_of}
use Rattle.fractured_json_rules.specs.Meaning.{after_length, Keys, KeyIs, Means}
use Rattle.fractured_json_rules.specs.KeyList.{steps}
use Rattle.fractured_json_rules.specs.KeyTable.{room_of, checked}
use Rattle.fractured_json_rules.specs.TreeOf.{length_in, key_end, end_at, tree_of}
use Rattle.fractured_json_rules.specs.Leads.{element_place, key_place, Leads, root, StandsFor}
use Rattle.fractured_json_rules.specs.Places.{contents_by, contents, value_node, value_nodes, field_nodes, fractured_node, Stands}
use Rattle.fractured_json_rules.specs.Questions.{element_at, member_at, Found, value_at, absent, first_member}
use Rattle.fractured_json_theorems.proofs.Trees.{length_in_lem}
use Rattle.fractured_json_theorems.proofs.Nodes as Nodes
use Rattle.fractured_json_theorems.proofs.Nodes.{member_value, root_stands}
use Rattle.fractured_json_theorems.proofs.Demands as Demands
use Rattle.fractured_json_theorems.proofs.Demands.{tree_of_lem, node_one, FirstMemberAnswer, element_led, member_led, element_answer, member_answer, first_member_answer}

module _ (doc : List ℕ) where
  -- ---- without the places, for all bytes

  mutual
    unfolding value_node value_nodes field_nodes

    bare_value : (t : Tree) (o : ℕ) → bare (value_node doc t o) ≡ t
    bare_value null o = refl
    bare_value (bool b) o = refl
    bare_value (num s m) o = refl
    bare_value (str x) o = refl
    bare_value (arr ts) o = ap arr (bare_values ts _)
    bare_value (obj ms) o = ap obj (bare_fields ms _)

    bare_values : (ts : Trees) (o : ℕ) → bares (value_nodes doc ts o) ≡ ts
    bare_values none o = refl
    bare_values (more t ts) o = rw (bare_value t o, bare_values ts (end_at deepest doc o))

    bare_fields : (ms : Members) (o : ℕ) → barem (field_nodes doc ms o) ≡ ms
    bare_fields end o = refl
    bare_fields (member k t ms) o = rw (bare_value t (key_end doc o), bare_fields ms (end_at deepest doc (key_end doc o)))

  pub bare_fractured : (room : ℕ) (list : List ℕ) → bare (fractured_node room doc list) ≡ tree_of room doc list
  unfolding fractured_node
  bare_fractured room list = bare_value (tree_of room doc list) 3

  -- ---- elements and members

  place_value : (t : Tree) (o : ℕ) → place (value_node doc t o) ≡ o
  unfolding value_node
  place_value null o = refl
  place_value (bool b) o = refl
  place_value (num s m) o = refl
  place_value (str x) o = refl
  place_value (arr ts) o = refl
  place_value (obj ms) o = refl

  element_there : (ts : Trees) (i o : ℕ) (v : Tree) → ElementIs ts i v → NodeIs (value_nodes doc ts o) i (value_node doc v (steps (end_at deepest doc) i o))
  unfolding value_nodes steps
  element_there none i o v h = absurd h
  element_there (more t ts) zero o v h = rw h
  element_there (more t ts) (suc i) o v h = element_there ts i (end_at deepest doc o) v h

  element_of : (ts : Trees) (i o : ℕ) (n : Node) → NodeIs (value_nodes doc ts o) i n → (v : Tree) × ElementIs ts i v × (n ≡ value_node doc v (steps (end_at deepest doc) i o))
  unfolding value_nodes steps
  element_of none i o n h = absurd h
  element_of (more t ts) zero o n h = (t, refl, h)
  element_of (more t ts) (suc i) o n h = element_of ts i (end_at deepest doc o) n h

  field_there : (ms : Members) (j o : ℕ) (k : List ℕ) (v : Tree) → MemberIs ms j k v
      → FieldIs (field_nodes doc ms o) j (steps (λ m. end_at deepest doc (key_end doc m)) j o) k (value_node doc v (key_end doc (steps (λ m. end_at deepest doc (key_end doc m)) j o)))
  unfolding field_nodes steps
  field_there end j o k v h = absurd h
  field_there (member x t ms) zero o k v h = (refl, h.0, rw h.1)
  field_there (member x t ms) (suc j) o k v h = field_there ms j (end_at deepest doc (key_end doc o)) k v h

  field_of : (ms : Members) (j o at : ℕ) (k : List ℕ) (n : Node) → FieldIs (field_nodes doc ms o) j at k n
      → (v : Tree) × MemberIs ms j k v × (at ≡ steps (λ m. end_at deepest doc (key_end doc m)) j o) × (n ≡ value_node doc v (key_end doc (steps (λ m. end_at deepest doc (key_end doc m)) j o)))
  unfolding field_nodes steps
  field_of end j o at k n h = absurd h
  field_of (member x t ms) zero o at k n h = (t, (h.1, refl), h.0, h.2)
  field_of (member x t ms) (suc j) o at k n h = field_of ms j (end_at deepest doc (key_end doc o)) at k n h

  contents_array : (o : ℕ) (x : Len) → form_of (get_or doc o 0) ≡ f_array x → contents doc o ≡ after_length o x
  unfolding contents_by
  contents_array o x e = rw e

  contents_object : (o : ℕ) (x : Len) → form_of (get_or doc o 0) ≡ f_object x → contents doc o ≡ after_length o x
  unfolding contents_by
  contents_object o x e = rw e

-- ---- in a good document

-- the answer r is the place of the value of the first member with the key x, or absent where no member has it
pub data FirstPlaced (fs : Fields) (x : List ℕ) (r : Asked Found) : Type 0 where
  hit : (j at : ℕ) (n : Node) → FieldIs fs j at x n → ((i a : ℕ) (w : Node) → i < j → FieldIs fs i a x w → ⊥) → r ≡ answers (value_at (place n)) → FirstPlaced fs x r
  miss : ((j at : ℕ) (n : Node) → FieldIs fs j at x n → ⊥) → r ≡ answers absent → FirstPlaced fs x r

module _ (doc list : List ℕ) (t : Tree) (m : Means doc list t) where
  abbrev For : ℕ → Tree → Type 0
  For o u = StandsFor doc m.names m.keys o u

  -- the root leads to the node, which stands for a tree and has that tree's places
  abbrev Laid : Node → Type 0
  Laid (leaf p s) = Leads doc p × For p (scalar_tree s)
  Laid (Node.list p ns) = (ts : Trees) × Leads doc p × For p (arr ts) × (ns ≡ value_nodes doc ts (contents doc p))
  Laid (dict p fs) = (ms : Members) × Leads doc p × For p (obj ms) × (fs ≡ field_nodes doc ms (contents doc p))

  laid_stands : (n : Node) → Laid n → Stands doc m.names m.keys n
  laid_stands (leaf p s) h = h
  laid_stands (Node.list p ns) h = (h.1, rw (h.3, bare_values doc h.0 (contents doc p)) h.2)
  laid_stands (dict p fs) h = (h.1, rw (h.3, bare_fields doc h.0 (contents doc p)) h.2)

  laid_value : (o : ℕ) (u : Tree) → Leads doc o → For o u → Laid (value_node doc u o)
  unfolding value_node
  laid_value o null l s = (l, s)
  laid_value o (bool b) l s = (l, s)
  laid_value o (num c n) l s = (l, s)
  laid_value o (str x) l s = (l, s)
  laid_value o (arr ts) l s = (ts, l, s, refl)
  laid_value o (obj ms) l s = (ms, l, s, refl)

  -- an element of such a node, and a member's value, is again one
  laid_element : (p : ℕ) (ns : Nodes) (i : ℕ) (n : Node) (h : Laid (Node.list p ns)) → NodeIs ns i n
      → (v : Tree) × ElementIs h.0 i v × (n ≡ value_node doc v (element_place doc p h.2.value.0 i))
  laid_element p ns i n h e =
      let (v, x, q) = element_of doc h.0 i (contents doc p) n (rw h.3 at e) in
      (v, x, q ∙ ap (λ o. value_node doc v (steps (end_at deepest doc) i o)) (contents_array doc p h.2.value.0 h.2.value.1.form_is))

  laid_field : (p : ℕ) (fs : Fields) (j at : ℕ) (k : List ℕ) (n : Node) (h : Laid (dict p fs)) → FieldIs fs j at k n
      → (v : Tree) × MemberIs h.0 j k v × (at ≡ key_place doc p h.2.value.0 j) × (n ≡ value_node doc v (key_end doc (key_place doc p h.2.value.0 j)))
  laid_field p fs j at k n h f =
      let (v, x, a, q) = field_of doc h.0 j (contents doc p) at k n (rw h.3 at f) in
      let c = contents_object doc p h.2.value.0 h.2.value.1.form_is in
      (v, x, a ∙ ap (λ o. steps (λ m. end_at deepest doc (key_end doc m)) j o) c, q ∙ ap (λ o. value_node doc v (key_end doc (steps (λ m. end_at deepest doc (key_end doc m)) j o))) c)

  within_laid : (u : Node) {n : Node} → Laid u → Within u n → Laid n
  within_laid u h itself = h
  within_laid u h (element p ns i {m = n} w e) =
      let g = within_laid u h w in
      let (v, x, q) = laid_element p ns i n g e in
      let (l, s) = element_led doc list t m g.1 g.0 i v g.2 x in
      rw q (laid_value (element_place doc p g.2.value.0 i) v l s)
  within_laid u h (value p fs j at k {m = n} w f) =
      let g = within_laid u h w in
      let (v, x, a, q) = laid_field p fs j at k n g f in
      let (on, r, l) = member_led doc list t m g.1 g.0 j k v g.2 x in
      rw q (laid_value (key_end doc (key_place doc p g.2.value.0 j)) v l (member_value doc m.names r))

  module _ (room : ℕ) (roomy : length m.keys ≤ room) where
    fractured_is : fractured_node room doc list ≡ value_node doc t 3
    unfolding fractured_node
    fractured_is = ap (λ u. value_node doc u 3) (tree_of_lem room doc list t m roomy)

    root_laid : Laid (fractured_node room doc list)
    root_laid = rw fractured_is (laid_value 3 t root (root_stands doc list t m))

    -- each node of it is one that the root leads to, and stands there for its tree
    pub nodes_stand : {n : Node} → Within (fractured_node room doc list) n → Stands doc m.names m.keys n
    nodes_stand {n} w = laid_stands n (within_laid (fractured_node room doc list) root_laid w)

    -- and each key stands at its key byte and ends where its value stands
    pub keys_stand : (p : ℕ) (fs : Fields) (j at : ℕ) (k : List ℕ) (n : Node) → Within (fractured_node room doc list) (dict p fs) → FieldIs fs j at k n
        → (before : Keys) × (met : Keys) × KeyIs doc m.names k at before (place n) met
    keys_stand p fs j at k n w f =
        let h = within_laid (fractured_node room doc list) root_laid w in
        let (v, x, a, q) = laid_field p fs j at k n h f in
        let (on, r, l) = member_led doc list t m h.1 h.0 j k v h.2 x in
        let past : place n ≡ key_end doc (key_place doc p h.2.value.0 j) = ap place q ∙ place_value doc v _ in
        let there = subst (λ (e : ℕ). KeyIs doc m.names k (key_place doc p h.2.value.0 j) r.before e r.between) (sym past) r.key_is_lem in
        (r.before, r.between, subst (λ (o : ℕ). KeyIs doc m.names k o r.before (place n) r.between) (sym a) there)

    -- and each value that the root leads to is in it
    in_array : (o : ℕ) (x : Len) (i : ℕ) (u v : Tree) → For o u → (ts : Trees) → u ≡ arr ts → Leads doc o → form_of (get_or doc o 0) ≡ f_array x → i < length_in doc o x
        → Within (fractured_node room doc list) (value_node doc u o) → For (element_place doc o x i) v → Within (fractured_node room doc list) (value_node doc v (element_place doc o x i))
    unfolding value_node
    in_array o x i u v s ts e l form lt w is =
        let s2 = rw e at s in
        let w2 = rw e at w in
        let same : s2.value.0 ≡ x = cc (s2.value.1.form_is, form) in
        let len : length_in doc o x ≡ size ts = rw same at (length_in_lem doc o s2.value.0 (size ts) s2.value.2) in
        let b : i < size ts = omega arith in
        let (y, el) = element_at_lem ts i b in
        let is2 : For (element_place doc o s2.value.0 i) v = rw same is in
        let one : y ≡ v = node_one doc list m.names m.listed m.keys _ y v (element_led doc list t m l ts i y s2 el).1 is2 in
        rw (← one, ← contents_array doc o x form) (element o (value_nodes doc ts (contents doc o)) i w2 (element_there doc ts i (contents doc o) y el))

    in_object : (o : ℕ) (x : Len) (j : ℕ) (u v : Tree) → For o u → (ms : Members) → u ≡ obj ms → Leads doc o → form_of (get_or doc o 0) ≡ f_object x → j < length_in doc o x
        → Within (fractured_node room doc list) (value_node doc u o) → For (key_end doc (key_place doc o x j)) v → Within (fractured_node room doc list) (value_node doc v (key_end doc (key_place doc o x j)))
    unfolding value_node
    in_object o x j u v s ms e l form lt w is =
        let s2 = rw e at s in
        let w2 = rw e at w in
        let same : s2.value.0 ≡ x = cc (s2.value.1.form_is, form) in
        let len : length_in doc o x ≡ sizem ms = rw same at (length_in_lem doc o s2.value.0 (sizem ms) s2.value.2) in
        let b : j < sizem ms = omega arith in
        let (k, y, el) = member_at_lem ms j b in
        let is2 : For (key_end doc (key_place doc o s2.value.0 j)) v = rw same is in
        let one : y ≡ v = node_one doc list m.names m.listed m.keys _ y v (member_value doc m.names (member_led doc list t m l ms j k y s2 el).1) is2 in
        rw (← one, ← contents_object doc o x form) (value o (field_nodes doc ms (contents doc o)) j _ k w2 (field_there doc ms j (contents doc o) k y el))

    pub values_within : {o : ℕ} → Leads doc o → (u : Tree) → For o u → Within (fractured_node room doc list) (value_node doc u o)
    values_within root u s = rw (node_one doc list m.names m.listed m.keys 3 u t s (root_stands doc list t m), ← fractured_is) itself
    values_within (Leads.element o x i l form lt) u s =
        let n = Nodes.node doc list t m l in
        let (ts, e) = Nodes.as_array doc m.names n.tree o _ _ _ x n.stands.value form in
        in_array o x i n.tree u n.stands ts e l form lt (values_within l n.tree n.stands) s
    values_within (Leads.value o x j l form lt) u s =
        let n = Nodes.node doc list t m l in
        let (ms, e) = Nodes.as_object doc m.names n.tree o _ _ _ x n.stands.value form in
        in_object o x j n.tree u n.stands ms e l form lt (values_within l n.tree n.stands) s

  -- ---- its places are those that the questions answer, with the key table and count that the check gave

  field_laid : (p : ℕ) (fs : Fields) (j : ℕ) (k : List ℕ) (v : Tree) (h : Laid (dict p fs)) → MemberIs h.0 j k v
      → FieldIs fs j (key_place doc p h.2.value.0 j) k (value_node doc v (key_end doc (key_place doc p h.2.value.0 j)))
  field_laid p fs j k v h x = rw (h.3, contents_object doc p h.2.value.0 h.2.value.1.form_is) (field_there doc h.0 j (after_length p h.2.value.0) k v x)

  first_by : (p : ℕ) (fs : Fields) (x : List ℕ) (h : Laid (dict p fs)) {r : Asked Found}
      → FirstMemberAnswer doc m.names m.keys h.0 x (λ j. key_end doc (key_place doc p h.2.value.0 j)) r → FirstPlaced fs x r
  first_by p fs x h (Demands.first j v is earlier l s e) =
      hit j _ _ (field_laid p fs j x v h is) (λ i a w b f. let (u, y, _, _) = laid_field p fs i a x w h f in earlier i u b y)
      (e ∙ ap (λ o. answers (value_at o)) (sym (place_value doc v _)))
  first_by p fs x h (Demands.none lacks e) = miss (λ j a w f. let (u, y, _, _) = laid_field p fs j a x w h f in lacks j u y) e

  module _ (words : List ℕ) (roomy : length m.keys ≤ room_of words) where
    pub element_placed : (p : ℕ) (ns : Nodes) (i : ℕ) (n : Node) → Within (fractured_node (room_of words) doc list) (Node.list p ns) → NodeIs ns i n
        → ask (element_at doc list (checked doc list words).words (checked doc list words).count p i) ≡ answers (place n)
    element_placed p ns i n w e =
        let h = within_laid (fractured_node (room_of words) doc list) (root_laid (room_of words) roomy) w in
        let (v, x, q) = laid_element p ns i n h e in
        rw (q, place_value doc v (element_place doc p h.2.value.0 i)) (element_answer doc list t m words roomy h.1 h.0 i h.2 (element_below h.0 i v x)).answered

    pub member_placed : (p : ℕ) (fs : Fields) (j at : ℕ) (k : List ℕ) (n : Node) → Within (fractured_node (room_of words) doc list) (dict p fs) → FieldIs fs j at k n
        → ask (member_at doc list (checked doc list words).words (checked doc list words).count p j) ≡ answers (record { key = at; value = place n })
    member_placed p fs j at k n w f =
        let h = within_laid (fractured_node (room_of words) doc list) (root_laid (room_of words) roomy) w in
        let (v, x, a, q) = laid_field p fs j at k n h f in
        rw (a, q, place_value doc v (key_end doc (key_place doc p h.2.value.0 j))) (member_answer doc list t m words roomy h.1 h.0 j h.2 (member_below h.0 j k v x)).answered

    pub first_placed : (p : ℕ) (fs : Fields) (x : List ℕ) → Within (fractured_node (room_of words) doc list) (dict p fs)
        → FirstPlaced fs x (ask (first_member doc list (checked doc list words).words (checked doc list words).count p x))
    first_placed p fs x w =
        let h = within_laid (fractured_node (room_of words) doc list) (root_laid (room_of words) roomy) w in
        first_by p fs x h (first_member_answer doc list t m words roomy h.1 h.0 x h.2)
