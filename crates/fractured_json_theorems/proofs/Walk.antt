-- The walk over a value comes to its end, whatever reads the keys: the check and the questions both use it. `at` says what
-- a reading keeps once some keys have been met, and `tab` are all the keys of the document.
use Prim.Native.Nat.{ℕ, zero, suc, ◌≤◌}
use mathlib.Core.List.{List}
use mathlib.Core.Path.{◌≡◌, refl, ◌∙◌}
use native.Mathlib.Omega.{arith}
use Rattle.json_model.specs.Reading.{Outcome, Reading, done}
use Rattle.json_model.specs.Tree.{Tree, null, bool, num, str, arr, obj, Trees, none, more, Members, end, depth, depths, depthm, size, sizem}
use Rattle.json_model.specs.Tree as Tree
use Rattle.json_model.proofs.Reading.{then, pass}
use Rattle.fractured_json_rules.specs.ByteTables.{bytes, Form, f_null, f_bool, f_int, f_float, f_tiny, f_string}
use Rattle.fractured_json_rules.specs.Meaning.{Starts, after_length, Names, NumberIs, as_tiny, as_int, as_float, Keys, KeyIs, ValueIs, ValuesAre, MembersAre}
use Rattle.fractured_json_rules.specs.Verdict.{Numeral, in_turn, member, value_by, value}
use Rattle.fractured_json_rules.specs.Leads.{FirstOf}
use Rattle.fractured_json_theorems.proofs.Keys.{first_trans, grows, grows_all, grows_members}
use Rattle.fractured_json_theorems.proofs.Readers.{byte_is, payload_is, length_is, text_is_lem}

module _ {S : Type 0} (doc : List ℕ) (names : Names) (key : ℕ → Reading S ℕ) (tab : Keys) (at : Keys → S)
    (reads : (t : List ℕ) (o : ℕ) (ks : Keys) (e : ℕ) (kz : Keys) → KeyIs doc names t o ks e kz → FirstOf kz tab → key o (at ks) ≡ done e (at kz))
  where
    -- a value of a form whose reading does not turn on the levels
    plain : (l o : ℕ) (s : S) (k : Form) (r : Outcome S ℕ) → Starts doc o k → ((array object : Numeral → Reading S ℕ) → value_by doc o array object k s ≡ r) → value key l doc o s ≡ r
    unfolding value
    plain zero o s k r h by = then _ _ s (byte_is doc o o s h.inside) ∙ rw h.form_is (by _ _)
    plain (suc l) o s k r h by = then _ _ s (byte_is doc o o s h.inside) ∙ rw h.form_is (by _ _)

    number_walks : (t : Tree) (l o : ℕ) (s : S) (e : ℕ) → NumberIs doc t o e → value key l doc o s ≡ done e s
    unfolding value_by
    number_walks t l o s e (as_tiny b h p q) = rw q (plain l o s (f_tiny b) _ h (λ array object. refl))
    number_walks t l o s e (as_int g w h i p q) = rw q (plain l o s (f_int g w) _ h (λ array object. then _ _ s (payload_is doc o (bytes w) s i)))
    number_walks t l o s e (as_float f w h i n p q) =
        rw q (plain l o s (f_float f w) _ h (λ array object. then _ _ s (payload_is doc o (bytes w) s i) ∙ pass _ _ _ _ s n))

    mutual
      unfolding value value_by in_turn member

      pub walks : (t : Tree) (l o : ℕ) (ks : Keys) (e : ℕ) (kz : Keys) → ValueIs doc names t o ks e kz → FirstOf kz tab → depth t ≤ l → value key l doc o (at ks) ≡ done e (at kz)
      walks null l o ks e kz h g d = rw (h.1, h.2) (plain l o (at ks) f_null _ h.0 (λ array object. refl))
      walks (bool b) l o ks e kz h g d = rw (h.1, h.2) (plain l o (at ks) (f_bool b) _ h.0 (λ array object. refl))
      walks (num s m) l o ks e kz h g d = rw h.1 (number_walks (num s m) l o (at ks) e h.0)
      walks (str t) l o ks e kz h g d =
          rw (h.5, h.6) (plain l o (at ks) (f_string h.0) _ h.2 (λ array object.
          then _ _ (at ks) (length_is doc o h.0 h.1 (at ks) h.3) ∙ text_is_lem doc o _ (at ks) h.4.inside))
      walks (arr ts) zero o ks e kz h g d = absurd (omega arith)
      walks (arr ts) (suc l) o ks e kz h g d =
          then _ _ (at ks) (byte_is doc o o (at ks) h.1.inside) ∙ rw h.1.form_is
          (then _ _ (at ks) (length_is doc o h.0 (size ts) (at ks) h.2) ∙ walks_all ts l (after_length o h.0) ks e kz h.3 g (omega arith))
      walks (obj ms) zero o ks e kz h g d = absurd (omega arith)
      walks (obj ms) (suc l) o ks e kz h g d =
          then _ _ (at ks) (byte_is doc o o (at ks) h.1.inside) ∙ rw h.1.form_is
          (then _ _ (at ks) (length_is doc o h.0 (sizem ms) (at ks) h.2) ∙ walks_members ms l (after_length o h.0) ks e kz h.3 g (omega arith))

      walks_all : (ts : Trees) (l o : ℕ) (ks : Keys) (e : ℕ) (kz : Keys) → ValuesAre doc names ts o ks e kz → FirstOf kz tab → depths ts ≤ l
          → in_turn (value key l doc) (size ts) o (at ks) ≡ done e (at kz)
      walks_all none l o ks e kz h g d = rw (h.0, h.1)
      walks_all (more t ts) l o ks e kz h g d =
          then _ _ (at ks) (walks t l o ks h.0 h.1 h.2 (first_trans (grows_all doc names ts _ _ _ _ h.3) g) (omega arith))
          ∙ walks_all ts l h.0 h.1 e kz h.3 g (omega arith)

      walks_members : (ms : Members) (l o : ℕ) (ks : Keys) (e : ℕ) (kz : Keys) → MembersAre doc names ms o ks e kz → FirstOf kz tab → depthm ms ≤ l
          → in_turn (member key (value key l doc)) (sizem ms) o (at ks) ≡ done e (at kz)
      walks_members end l o ks e kz h g d = rw (h.0, h.1)
      walks_members (Tree.member k t ms) l o ks e kz h g d =
          let g2 = first_trans (grows_members doc names ms _ _ _ _ h.6) g in
          let g1 = first_trans (grows doc names t _ _ _ _ h.5) g2 in
          then _ _ (at ks) (then _ _ (at ks) (reads k o ks h.0 h.1 h.4 g1) ∙ walks t l h.0 h.1 h.2 h.3 h.5 g2 (omega arith))
          ∙ walks_members ms l h.2 h.3 e kz h.6 g (omega arith)
