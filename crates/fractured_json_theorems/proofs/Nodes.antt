-- What the root leads to: each such value stands for a subtree of the document's tree.
use Prim.Native.Nat.{ℕ, zero, suc, ◌≤◌, ◌<◌}
use mathlib.Core.Bool.{Bool}
use mathlib.Core.List.{List, []}
use mathlib.Core.Path.{◌≡◌, refl, sym, ap, ◌∙◌, subst}
use native.Mathlib.Omega.{arith}
use lib.ListN.{length, get_or}
use Rattle.json_model.specs.Limits.{deepest}
use Rattle.json_model.specs.Number.{Float}
use Rattle.json_model.specs.Tree.{Tree, null, bool, num, str, arr, obj, Trees, none, more, Members, end, member, depths, depthm, size, sizem, ElementIs, MemberIs, Subtree}
use Rattle.json_model.specs.Tree as Tree
use Rattle.json_model.proofs.Tree.{element_at_lem, member_at_lem, subtree_depth}
use Rattle.fractured_json_rules.specs.ByteTables.{Width, Len, tiny, after, KeyNumber, in_byte, spelled, Form, f_null, f_bool, f_int, f_float, f_tiny, f_string, f_object, f_array, form_of}
use Rattle.fractured_json_rules.specs.Meaning.{after_length, NumberIs, as_tiny, as_int, as_float, one_byte, two_bytes, three_bytes, KeyNumberIs, Names, Keys, KeyIs}
use Rattle.fractured_json_rules.specs.Meaning.{as_text, as_back, as_global, ValueIs, ValuesAre, MembersAre, Means}
use Rattle.fractured_json_rules.specs.KeyList.{steps}
use Rattle.fractured_json_rules.specs.TreeOf.{length_in, key_end, end_at}
use Rattle.fractured_json_rules.specs.Leads.{element_place, key_place, Leads, root, element, value, FirstOf, StandsFor}
use Rattle.fractured_json_theorems.proofs.Keys.{first_all, first_trans, grows_all, grows_members}
use Rattle.fractured_json_theorems.proofs.Trees.{length_in_lem, key_ends, ends}

clash : ◌≡◌ {A = ℕ} 0 1 → ⊥
clash e = omega arith

-- ---- reading goes forward

pub after_forward : (o : ℕ) (x : Len) → o ≤ after_length o x
after_forward o (tiny k) = omega arith
after_forward o (after w) = omega arith

pub key_number_forward : (doc : List ℕ) (o : ℕ) (x : KeyNumber) (n e : ℕ) → KeyNumberIs doc o x n e → o ≤ e
key_number_forward doc o (in_byte k) n e h = omega arith
key_number_forward doc o spelled n e (one_byte i b p q) = omega arith
key_number_forward doc o spelled n e (two_bytes i b0 b1 p q) = omega arith
key_number_forward doc o spelled n e (three_bytes i b0 b1 b2 p q) = omega arith

module _ (doc : List ℕ) (names : Names) where
  key_forward : {t : List ℕ} {o : ℕ} {ks : Keys} {e : ℕ} {kz : Keys} → KeyIs doc names t o ks e kz → o ≤ e
  key_forward {o = o} (as_text x n b s i y f p q) = let r = key_number_forward doc o x n b i in omega arith
  key_forward {o = o} {e = e} (as_back x j s i h y q) = key_number_forward doc o x j e i
  key_forward {o = o} {e = e} (as_global x j s i h y q) = key_number_forward doc o x j e i

  number_forward : {t : Tree} {o e : ℕ} → NumberIs doc t o e → o ≤ e
  number_forward (as_tiny b s p q) = omega arith
  number_forward (as_int g w s i p q) = omega arith
  number_forward (as_float f w s i n p q) = omega arith

  mutual
    forward : (t : Tree) (o : ℕ) (ks : Keys) (e : ℕ) (kz : Keys) → ValueIs doc names t o ks e kz → o ≤ e
    forward null o ks e kz h = omega arith
    forward (bool b) o ks e kz h = omega arith
    forward (num s m) o ks e kz h = number_forward h.0
    forward (str t) o ks e kz h = omega (arith, after_forward o h.0, h.5)
    forward (arr ts) o ks e kz h = omega (arith, after_forward o h.0, forward_all ts _ _ _ _ h.3)
    forward (obj ms) o ks e kz h = omega (arith, after_forward o h.0, forward_members ms _ _ _ _ h.3)

    forward_all : (ts : Trees) (o : ℕ) (ks : Keys) (e : ℕ) (kz : Keys) → ValuesAre doc names ts o ks e kz → o ≤ e
    forward_all none o ks e kz h = omega arith
    forward_all (more t ts) o ks e kz h = omega (arith, forward t _ _ _ _ h.2, forward_all ts _ _ _ _ h.3)

    forward_members : (ms : Members) (o : ℕ) (ks : Keys) (e : ℕ) (kz : Keys) → MembersAre doc names ms o ks e kz → o ≤ e
    forward_members end o ks e kz h = omega arith
    forward_members (member k t ms) o ks e kz h = omega (arith, key_forward h.4, forward t _ _ _ _ h.5, forward_members ms _ _ _ _ h.6)

  -- ---- element i and member j, where they stand; l is at least the nesting of the values

  -- a member: its key at q, and its value after that
  pub record MemberStands (all : Keys) (q : ℕ) (k : List ℕ) (v : Tree) : Type 0 where
    pub before : Keys
    pub between : Keys
    pub past : ℕ
    pub met : Keys
    pub key_is_lem : KeyIs doc names k q before (key_end doc q) between
    pub value_is : ValueIs doc names v (key_end doc q) between past met
    pub first : FirstOf met all

  pub member_value : {all : Keys} {q : ℕ} {k : List ℕ} {v : Tree} → MemberStands all q k v → StandsFor doc names all (key_end doc q) v
  member_value r = record { before = r.between; past = r.past; met = r.met; value = r.value_is; first = r.first }

  module _ (all : Keys) (l : ℕ) where
    element_stands : (ts : Trees) (i o : ℕ) (ks : Keys) (e : ℕ) (kz : Keys) (v : Tree) → ValuesAre doc names ts o ks e kz → FirstOf kz all → depths ts ≤ l → ElementIs ts i v
        → (o ≤ steps (end_at l doc) i o) × StandsFor doc names all (steps (end_at l doc) i o) v
    unfolding steps
    element_stands none i o ks e kz v h g d x = absurd x
    element_stands (more t ts) zero o ks e kz v h g d x =
        rw x (omega arith, record { before = ks; past = h.0; met = h.1; value = h.2; first = first_trans (grows_all doc names ts _ _ _ _ h.3) g })
    element_stands (more t ts) (suc i) o ks e kz v h g d x =
        let (on, r) = element_stands ts i h.0 h.1 e kz v h.3 g (omega arith) x in
        let f = forward t _ _ _ _ h.2 in
        subst (λ (p : ℕ). (o ≤ steps (end_at l doc) i p) × StandsFor doc names all (steps (end_at l doc) i p) v) (sym (ends doc names t l o ks h.0 h.1 h.2 (omega arith)))
        (omega arith, r)

    member_stands : (ms : Members) (j o : ℕ) (ks : Keys) (e : ℕ) (kz : Keys) (k : List ℕ) (v : Tree) → MembersAre doc names ms o ks e kz → FirstOf kz all → depthm ms ≤ l → MemberIs ms j k v
        → (o ≤ steps (λ m. end_at l doc (key_end doc m)) j o) × MemberStands all (steps (λ m. end_at l doc (key_end doc m)) j o) k v
    unfolding steps
    member_stands end j o ks e kz k v h g d x = absurd x
    member_stands (member y t ms) zero o ks e kz k v h g d x =
        let q = key_ends doc names y o ks h.0 h.1 h.4 in
        rw (x.0, x.1) (
          omega arith,
          record {
            before = ks;
            between = h.1;
            past = h.2;
            met = h.3;
            key_is_lem = rw q h.4;
            value_is = rw q h.5;
            first = first_trans (grows_members doc names ms _ _ _ _ h.6) g;
          },
        )
    member_stands (member y t ms) (suc j) o ks e kz k v h g d x =
        let (on, r) = member_stands ms j h.2 h.3 e kz k v h.6 g (omega arith) x in
        let f = key_forward h.4 in
        let f2 = forward t _ _ _ _ h.5 in
        let past = ap (end_at l doc) (key_ends doc names y o ks h.0 h.1 h.4) ∙ ends doc names t l h.0 h.1 h.2 h.3 h.5 (omega arith) in
        subst (λ (p : ℕ). (o ≤ steps (λ m. end_at l doc (key_end doc m)) j p) × MemberStands all (steps (λ m. end_at l doc (key_end doc m)) j p) k v) (sym past) (omega arith, r)

  -- ---- the form of a value, by its tree

  pub value_form : (P : Form → Type 0) (u : Tree) (o : ℕ) (ks : Keys) (e : ℕ) (kz : Keys) → ValueIs doc names u o ks e kz
      → (u ≡ null → P f_null)
      → ((b : Bool) → u ≡ bool b → P (f_bool b))
      → ((s : Bool) (m : ℕ) → u ≡ num s m → ((b : ℕ) → P (f_tiny b)) × ((g : Bool) (w : Width) → P (f_int g w)) × ((f : Float) (w : Width) → P (f_float f w)))
      → ((t : List ℕ) (x : Len) → u ≡ str t → P (f_string x))
      → ((ts : Trees) (x : Len) → u ≡ arr ts → P (f_array x))
      → ((ms : Members) (x : Len) → u ≡ obj ms → P (f_object x))
      → P (form_of (get_or doc o 0))
  value_form P null o ks e kz h n b k s a j = rw h.0.form_is (n refl)
  value_form P (bool c) o ks e kz h n b k s a j = rw h.0.form_is (b c refl)
  value_form P (num c m) o ks e kz h n b k s a j = number h.0
    where
      number : {e : ℕ} → NumberIs doc (num c m) o e → P (form_of (get_or doc o 0))
      number (as_tiny b st p q) = rw st.form_is ((k c m refl).0 b)
      number (as_int g w st i p q) = rw st.form_is ((k c m refl).1 g w)
      number (as_float f w st i fin p q) = rw st.form_is ((k c m refl).2 f w)
  value_form P (str t) o ks e kz h n b k s a j = rw h.2.form_is (s t h.0 refl)
  value_form P (arr ts) o ks e kz h n b k s a j = rw h.1.form_is (a ts h.0 refl)
  value_form P (obj ms) o ks e kz h n b k s a j = rw h.1.form_is (j ms h.0 refl)

  pub as_array : (u : Tree) (o : ℕ) (ks : Keys) (e : ℕ) (kz : Keys) (x : Len) → ValueIs doc names u o ks e kz → form_of (get_or doc o 0) ≡ f_array x → (ts : Trees) × (u ≡ arr ts)
  as_array u o ks e kz x h =
      value_form (λ f. f ≡ f_array x → (ts : Trees) × (u ≡ arr ts)) u o ks e kz h
      (λ p q. absurd (clash cc)) (λ b p q. absurd (clash cc))
      (λ s m p. (λ b q. absurd (clash cc), λ g w q. absurd (clash cc), λ f w q. absurd (clash cc)))
      (λ t y p q. absurd (clash cc)) (λ ts y p q. (ts, p)) (λ ms y p q. absurd (clash cc))

  pub as_object : (u : Tree) (o : ℕ) (ks : Keys) (e : ℕ) (kz : Keys) (x : Len) → ValueIs doc names u o ks e kz → form_of (get_or doc o 0) ≡ f_object x → (ms : Members) × (u ≡ obj ms)
  as_object u o ks e kz x h =
      value_form (λ f. f ≡ f_object x → (ms : Members) × (u ≡ obj ms)) u o ks e kz h
      (λ p q. absurd (clash cc)) (λ b p q. absurd (clash cc))
      (λ s m p. (λ b q. absurd (clash cc), λ g w q. absurd (clash cc), λ f w q. absurd (clash cc)))
      (λ t y p q. absurd (clash cc)) (λ ts y p q. absurd (clash cc)) (λ ms y p q. (ms, p))

-- ---- what the root leads to

module _ (doc list : List ℕ) (t : Tree) (m : Means doc list t) where
  pub record Node (o : ℕ) : Type 0 where
    pub tree : Tree
    pub stands : StandsFor doc m.names m.keys o tree
    pub below : Subtree t tree
    pub after_header : 3 ≤ o

  -- element i of an array that the root leads to
  pub element_node : (o : ℕ) (ts : Trees) (s : StandsFor doc m.names m.keys o (arr ts)) (x : Len) (i : ℕ) (v : Tree) → 3 ≤ o → Subtree t (arr ts)
      → form_of (get_or doc o 0) ≡ f_array x → ElementIs ts i v → (3 ≤ element_place doc o x i) × StandsFor doc m.names m.keys (element_place doc o x i) v
  element_node o ts s x i v a b q el =
      let h = s.value in
      let same : h.0 ≡ x = cc (h.1.form_is, q) in
      let d = subtree_depth t b in
      let n = m.nested in
      let f = after_forward o x in
      let (on, r) = element_stands doc m.names m.keys deepest ts i (after_length o x) _ _ _ v (rw same at h.3) s.first (omega arith) el in
      (omega arith, r)

  -- member j of an object that the root leads to
  pub member_node : (o : ℕ) (ms : Members) (s : StandsFor doc m.names m.keys o (obj ms)) (x : Len) (j : ℕ) (k : List ℕ) (v : Tree) → 3 ≤ o → Subtree t (obj ms)
      → form_of (get_or doc o 0) ≡ f_object x → MemberIs ms j k v → (3 ≤ key_place doc o x j) × MemberStands doc m.names m.keys (key_place doc o x j) k v
  member_node o ms s x j k v a b q el =
      let h = s.value in
      let same : h.0 ≡ x = cc (h.1.form_is, q) in
      let d = subtree_depth t b in
      let n = m.nested in
      let f = after_forward o x in
      let (on, r) = member_stands doc m.names m.keys deepest ms j (after_length o x) _ _ _ k v (rw same at h.3) s.first (omega arith) el in
      (omega arith, r)

  array_child : (o : ℕ) (u : Tree) (ts : Trees) (x : Len) (i : ℕ) → StandsFor doc m.names m.keys o u → Subtree t u → 3 ≤ o → u ≡ arr ts
      → form_of (get_or doc o 0) ≡ f_array x → i < length_in doc o x → Node (element_place doc o x i)
  array_child o u ts x i s b a e q h =
      let s' = rw e at s in
      let b' = rw e at b in
      let same : s'.value.0 ≡ x = cc (s'.value.1.form_is, q) in
      let n : length_in doc o x ≡ size ts = rw same at (length_in_lem doc o s'.value.0 (size ts) s'.value.2) in
      let (v, el) = element_at_lem ts i (omega arith) in
      let (on, r) = element_node o ts s' x i v a b' q el in
      record { tree = v; stands = r; below = Tree.element ts i b' el; after_header = on }

  object_child : (o : ℕ) (u : Tree) (ms : Members) (x : Len) (j : ℕ) → StandsFor doc m.names m.keys o u → Subtree t u → 3 ≤ o → u ≡ obj ms
      → form_of (get_or doc o 0) ≡ f_object x → j < length_in doc o x → Node (key_end doc (key_place doc o x j))
  object_child o u ms x j s b a e q h =
      let s' = rw e at s in
      let b' = rw e at b in
      let same : s'.value.0 ≡ x = cc (s'.value.1.form_is, q) in
      let n : length_in doc o x ≡ sizem ms = rw same at (length_in_lem doc o s'.value.0 (sizem ms) s'.value.2) in
      let (k, v, el) = member_at_lem ms j (omega arith) in
      let (on, r) = member_node o ms s' x j k v a b' q el in
      let f = key_forward doc m.names r.key_is_lem in
      record { tree = v; stands = member_value doc m.names r; below = Tree.value ms j k b' el; after_header = omega arith }

  pub root_stands : StandsFor doc m.names m.keys 3 t
  root_stands = record { before = []; past = length doc; met = m.keys; value = m.root; first = first_all m.keys }

  pub node : {o : ℕ} → Leads doc o → Node o
  node root = record { tree = t; stands = root_stands; below = Tree.whole; after_header = omega arith }
  node (element o x i l q h) =
      let n = node l in
      let (ts, e) = as_array doc m.names n.tree o _ _ _ x n.stands.value q in
      array_child o n.tree ts x i n.stands n.below n.after_header e q h
  node (value o x j l q h) =
      let n = node l in
      let (ms, e) = as_object doc m.names n.tree o _ _ _ x n.stands.value q in
      object_child o n.tree ms x j n.stands n.below n.after_header e q h
