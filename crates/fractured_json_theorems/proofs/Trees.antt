-- The ends and the tree that are computed from the bytes of document and key list are the meaning's: where the bytes from o to e
-- stand for a tree, the value at o ends at e, and its tree is that one.
use Prim.Native.Nat.{ℕ, zero, suc, ◌≤◌}
use mathlib.Core.List.{List}
use mathlib.Core.Path.{◌≡◌, refl, sym, ap, ◌∙◌}
use native.Mathlib.Omega.{arith}
use borrow.Author.Tests.{lt-ltb, le-ltb}
use Rattle.json_model.specs.Choose.{choose}
use Rattle.json_model.specs.Tree.{Tree, null, bool, num, str, arr, obj, Trees, none, more, Members, end, member, depth, depths, depthm, size, sizem}
use Rattle.fractured_json_rules.specs.ByteTables.{Len, tiny, after, Form, f_null, f_bool, f_int, f_float, f_tiny, f_string, KeyNumber, in_byte, spelled}
use Rattle.fractured_json_rules.specs.Meaning.{Starts, LengthIs, after_length, NumberIs, as_tiny, as_int, as_float, one_byte, two_bytes, three_bytes, KeyNumberIs}
use Rattle.fractured_json_rules.specs.Meaning.{Names, Lists, Keys, KeyIs, as_text, as_back, as_global, ValueIs, ValuesAre, MembersAre}
use Rattle.fractured_json_rules.specs.KeyList.{steps}
use Rattle.fractured_json_rules.specs.Verdict.{numeral}
use Rattle.fractured_json_rules.specs.TreeOf.{length_in, spelled_in, key_number_in, key_end, end_by, end_at, key_text_at, value_trees, member_trees, tree_by, tree_at}
use Rattle.fractured_json_rules.specs.Leads.{FirstOf}
use Rattle.fractured_json_theorems.proofs.KeyList.{name_is}
use Rattle.fractured_json_theorems.proofs.Keys.{first_trans, first_key, grows, grows_all, grows_members}

module _ (doc : List ℕ) where
  -- ---- lengths, key numbers and keys

  pub length_in_lem : (o : ℕ) (x : Len) (n : ℕ) → LengthIs doc o x n → length_in doc o x ≡ n
  length_in_lem o (tiny k) n h = sym h
  length_in_lem o (after w) n h = sym h.1

  key_number_in_lem : (o : ℕ) (x : KeyNumber) (n e : ℕ) → KeyNumberIs doc o x n e → key_number_in doc o x ≡ numeral n e
  unfolding spelled_in choose
  key_number_in_lem o (in_byte k) n e h = rw (h.0, h.1)
  key_number_in_lem o spelled n e (one_byte i b p q) = rw (lt-ltb _ _ b, p, q)
  key_number_in_lem o spelled n e (two_bytes i b0 b1 p q) = rw (le-ltb _ _ b0, lt-ltb _ _ b1, p, q)
  key_number_in_lem o spelled n e (three_bytes i b0 b1 b2 p q) = rw (le-ltb _ _ b0, le-ltb _ _ b1, p, q)

module _ (doc : List ℕ) (names : Names) where
  pub key_ends : (t : List ℕ) (o : ℕ) (ks : Keys) (e : ℕ) (kz : Keys) → KeyIs doc names t o ks e kz → key_end doc o ≡ e
  unfolding key_end
  key_ends t o ks e kz (as_text x n b s i y f p q) = rw (s.form_is, key_number_in_lem doc o x n b i) (sym p)
  key_ends t o ks e kz (as_back x j s i h y q) = rw s.form_is (ap (λ c. c.past) (key_number_in_lem doc o x j e i))
  key_ends t o ks e kz (as_global x j s i h y q) = rw s.form_is (ap (λ c. c.past) (key_number_in_lem doc o x j e i))

  -- ---- ends

  end_plain : (l o : ℕ) (k : Form) (e : ℕ) → Starts doc o k → ((inner : ℕ → ℕ) → end_by doc inner o k ≡ e) → end_at l doc o ≡ e
  unfolding end_at
  end_plain zero o k e s h = rw s.form_is (h _)
  end_plain (suc l) o k e s h = rw s.form_is (h _)

  number_ends : (t : Tree) (l o e : ℕ) → NumberIs doc t o e → end_at l doc o ≡ e
  unfolding end_by
  number_ends t l o e (as_tiny b s p q) = end_plain l o (f_tiny b) e s (λ inner. sym q)
  number_ends t l o e (as_int g w s i p q) = end_plain l o (f_int g w) e s (λ inner. sym q)
  number_ends t l o e (as_float f w s i n p q) = end_plain l o (f_float f w) e s (λ inner. sym q)

  mutual
    unfolding end_at end_by steps

    pub ends : (t : Tree) (l o : ℕ) (ks : Keys) (e : ℕ) (kz : Keys) → ValueIs doc names t o ks e kz → depth t ≤ l → end_at l doc o ≡ e
    ends null l o ks e kz h d = end_plain l o f_null e h.0 (λ inner. sym h.1)
    ends (bool b) l o ks e kz h d = end_plain l o (f_bool b) e h.0 (λ inner. sym h.1)
    ends (num s m) l o ks e kz h d = number_ends (num s m) l o e h.0
    ends (str t) l o ks e kz h d = end_plain l o (f_string h.0) e h.2 (λ inner. rw (length_in_lem doc o h.0 h.1 h.3) (sym h.5))
    ends (arr ts) zero o ks e kz h d = absurd (omega arith)
    ends (arr ts) (suc l) o ks e kz h d = rw (h.1.form_is, length_in_lem doc o h.0 (size ts) h.2) (ends_all ts l (after_length o h.0) ks e kz h.3 (omega arith))
    ends (obj ms) zero o ks e kz h d = absurd (omega arith)
    ends (obj ms) (suc l) o ks e kz h d = rw (h.1.form_is, length_in_lem doc o h.0 (sizem ms) h.2) (ends_members ms l (after_length o h.0) ks e kz h.3 (omega arith))

    ends_all : (ts : Trees) (l o : ℕ) (ks : Keys) (e : ℕ) (kz : Keys) → ValuesAre doc names ts o ks e kz → depths ts ≤ l → steps (end_at l doc) (size ts) o ≡ e
    ends_all none l o ks e kz h d = sym h.0
    ends_all (more t ts) l o ks e kz h d =
        ap (λ m. steps (end_at l doc) (size ts) m) (ends t l o ks h.0 h.1 h.2 (omega arith)) ∙ ends_all ts l h.0 h.1 e kz h.3 (omega arith)

    ends_members : (ms : Members) (l o : ℕ) (ks : Keys) (e : ℕ) (kz : Keys) → MembersAre doc names ms o ks e kz → depthm ms ≤ l → steps (λ m. end_at l doc (key_end doc m)) (sizem ms) o ≡ e
    ends_members end l o ks e kz h d = sym h.0
    ends_members (member k t ms) l o ks e kz h d =
        ap (λ m. steps (λ n. end_at l doc (key_end doc n)) (sizem ms) m) (ap (end_at l doc) (key_ends k o ks h.0 h.1 h.4) ∙ ends t l h.0 h.1 h.2 h.3 h.5 (omega arith))
        ∙ ends_members ms l h.2 h.3 e kz h.6 (omega arith)

  -- ---- the tree; all are the keys of the document

  module _ (list : List ℕ) (listed : Lists list names) (all : Keys) where
    key_text : (t : List ℕ) (o : ℕ) (ks : Keys) (e : ℕ) (kz : Keys) → KeyIs doc names t o ks e kz → FirstOf kz all → key_text_at doc list all o ≡ t
    unfolding key_text_at
    key_text t o ks e kz (as_text x n b s i y f p q) g = rw (s.form_is, key_number_in_lem doc o x n b i) (sym y.same)
    key_text t o ks e kz (as_back x j s i h y q) g = rw (s.form_is, key_number_in_lem doc o x j e i, first_key ks all j (rw q at g) h) (sym y)
    key_text t o ks e kz (as_global x j s i h y q) g = rw (s.form_is, key_number_in_lem doc o x j e i) ((name_is list names listed j h).0 ∙ sym y)

    tree_plain : (l o : ℕ) (k : Form) (r : Tree) → Starts doc o k → ((tree : ℕ → Tree) (past : ℕ → ℕ) → tree_by doc list all tree past o k ≡ r) → tree_at l doc list all o ≡ r
    unfolding tree_at
    tree_plain zero o k r s h = rw s.form_is (h _ _)
    tree_plain (suc l) o k r s h = rw s.form_is (h _ _)

    number_tree : (t : Tree) (l o e : ℕ) → NumberIs doc t o e → tree_at l doc list all o ≡ t
    unfolding tree_by
    number_tree t l o e (as_tiny b s p q) = tree_plain l o (f_tiny b) t s (λ tree past. sym p)
    number_tree t l o e (as_int g w s i p q) = tree_plain l o (f_int g w) t s (λ tree past. sym p)
    number_tree t l o e (as_float f w s i n p q) = tree_plain l o (f_float f w) t s (λ tree past. sym p)

    mutual
      unfolding tree_at tree_by value_trees member_trees

      pub tree_at_lem : (t : Tree) (l o : ℕ) (ks : Keys) (e : ℕ) (kz : Keys) → ValueIs doc names t o ks e kz → FirstOf kz all → depth t ≤ l → tree_at l doc list all o ≡ t
      tree_at_lem null l o ks e kz h g d = tree_plain l o f_null null h.0 (λ tree past. refl)
      tree_at_lem (bool b) l o ks e kz h g d = tree_plain l o (f_bool b) (bool b) h.0 (λ tree past. refl)
      tree_at_lem (num s m) l o ks e kz h g d = number_tree (num s m) l o e h.0
      tree_at_lem (str t) l o ks e kz h g d =
          tree_plain l o (f_string h.0) (str t) h.2 (λ tree past. rw (length_in_lem doc o h.0 h.1 h.3) (ap str (sym h.4.same)))
      tree_at_lem (arr ts) zero o ks e kz h g d = absurd (omega arith)
      tree_at_lem (arr ts) (suc l) o ks e kz h g d =
          rw (h.1.form_is, length_in_lem doc o h.0 (size ts) h.2) (ap arr (trees_at ts l (after_length o h.0) ks e kz h.3 g (omega arith)))
      tree_at_lem (obj ms) zero o ks e kz h g d = absurd (omega arith)
      tree_at_lem (obj ms) (suc l) o ks e kz h g d =
          rw (h.1.form_is, length_in_lem doc o h.0 (sizem ms) h.2) (ap obj (members_at ms l (after_length o h.0) ks e kz h.3 g (omega arith)))

      trees_at : (ts : Trees) (l o : ℕ) (ks : Keys) (e : ℕ) (kz : Keys) → ValuesAre doc names ts o ks e kz → FirstOf kz all → depths ts ≤ l
          → value_trees (tree_at l doc list all) (end_at l doc) (size ts) o ≡ ts
      trees_at none l o ks e kz h g d = refl
      trees_at (more t ts) l o ks e kz h g d =
          let first = tree_at_lem t l o ks h.0 h.1 h.2 (first_trans (grows_all doc names ts _ _ _ _ h.3) g) (omega arith) in
          let rest = trees_at ts l h.0 h.1 e kz h.3 g (omega arith) in
          rw (first, ends t l o ks h.0 h.1 h.2 (omega arith), rest)

      members_at : (ms : Members) (l o : ℕ) (ks : Keys) (e : ℕ) (kz : Keys) → MembersAre doc names ms o ks e kz → FirstOf kz all → depthm ms ≤ l
          → member_trees doc list all (tree_at l doc list all) (end_at l doc) (sizem ms) o ≡ ms
      members_at end l o ks e kz h g d = refl
      members_at (member k t ms) l o ks e kz h g d =
          let g2 = first_trans (grows_members doc names ms _ _ _ _ h.6) g in
          let g1 = first_trans (grows doc names t _ _ _ _ h.5) g2 in
          let text = key_text k o ks _ _ h.4 g1 in
          let first = tree_at_lem t l h.0 h.1 h.2 h.3 h.5 g2 (omega arith) in
          let rest = members_at ms l h.2 h.3 e kz h.6 g (omega arith) in
          rw (text, key_ends k o ks h.0 h.1 h.4, first, ends t l h.0 h.1 h.2 h.3 h.5 (omega arith), rest)
