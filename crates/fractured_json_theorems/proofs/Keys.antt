-- The immediate keys met on the way: when a text is one of them, how they grow, and that each lies in the document.
use Prim.Native.Nat.{ℕ, zero, suc, ◌+◌, ◌≤◌, ◌<◌}
use mathlib.Core.Bool.{Bool, true, false, not}
use mathlib.Core.List.{List, [], ◌∷◌, ◌++◌, append-nil, append_assoc}
use mathlib.Core.Path.{◌≡◌, refl, sym, ap, ◌∙◌}
use native.Mathlib.Omega.{arith}
use lib.Dec.{T}
use lib.ListN.{length, get_or, length-append, get_or-append}
use Rattle.json_model.specs.Choose.{choose}
use Rattle.json_model.specs.Texts.{compare_texts, is_equal}
use Rattle.json_model.specs.Tree.{Tree, null, bool, num, str, arr, obj, Trees, none, more, Members, end, member}
use Rattle.std.specs.declared.cmp.Ordering.{Ordering}
use Rattle.std.specs.declared.cmp.Ordering.TheVariants.{Less, Equal, Greater}
use Rattle.json_model.proofs.Texts.{texts_equal}
use Rattle.fractured_json_rules.specs.Meaning.{Key, no_key, Keys, key_text, Names, Fresh, KeyIs, as_text, as_back, as_global, ValueIs, ValuesAre, MembersAre}
use Rattle.fractured_json_rules.specs.KeyList.{met}
use Rattle.fractured_json_rules.specs.Leads.{FirstOf}

-- ---- two texts that are compared

equal_order : (o : Ordering) → T (is_equal o) → o ≡ Equal
equal_order Less h = absurd h
equal_order Equal h = refl
equal_order Greater h = absurd h

pub same_text : (a b : List ℕ) → T (is_equal (compare_texts a b)) → a ≡ b
same_text a b h = (texts_equal a b).0 (equal_order (compare_texts a b) h)

pub text_same : (a b : List ℕ) → a ≡ b → T (is_equal (compare_texts a b))
text_same a b e = rw ((texts_equal a b).1 e) tt

-- ---- a text met before, or fresh

none_met : (b c : Bool) → T (not (choose b true c)) → (T b → ⊥) × T (not c)
unfolding choose
none_met true c h = absurd h
none_met false c h = (λ x. x, h)

met_none : (b c : Bool) → (T b → ⊥) → T (not c) → T (not (choose b true c))
unfolding choose
met_none true c n h = absurd (n tt)
met_none false c n h = h

pub met_fresh : (doc t : List ℕ) (ks : Keys) → T (not (met doc t ks)) → Fresh doc t ks
unfolding met Fresh
met_fresh doc t [] h j i e = omega arith
met_fresh doc t (k ∷ ks) h zero i e = (none_met _ (met doc t ks) h).0 (text_same (key_text doc k) t e)
met_fresh doc t (k ∷ ks) h (suc j) i e = met_fresh doc t ks (none_met (is_equal (compare_texts (key_text doc k) t)) (met doc t ks) h).1 j (omega arith) e

pub fresh_met : (doc t : List ℕ) (ks : Keys) → Fresh doc t ks → T (not (met doc t ks))
unfolding met Fresh
fresh_met doc t [] f = tt
fresh_met doc t (k ∷ ks) f =
    met_none (is_equal (compare_texts (key_text doc k) t)) (met doc t ks)
    (λ h. f zero (omega arith) (same_text (key_text doc k) t h))
    (fresh_met doc t ks (λ j i. f (suc j) (omega arith)))

-- ---- the first of some keys

first_same : {ks kz : Keys} → kz ≡ ks → FirstOf ks kz
first_same {ks} e = record { rest = []; same = e ∙ sym (append-nil ks) }

pub first_all : (ks : Keys) → FirstOf ks ks
first_all ks = first_same refl

pub first_trans : {ks km kz : Keys} → FirstOf ks km → FirstOf km kz → FirstOf ks kz
first_trans {ks} g h = record { rest = g.rest ++ h.rest; same = h.same ∙ (ap (λ k. k ++ h.rest) g.same ∙ append_assoc ks g.rest h.rest) }

pub first_length : {ks kz : Keys} → FirstOf ks kz → length ks ≤ length kz
first_length {ks} {kz} g = rw (g.same, length-append) (omega arith)

pub first_key : (ks kz : Keys) (j : ℕ) → FirstOf ks kz → j < length ks → get_or kz j no_key ≡ get_or ks j no_key
first_key ks kz j g h = rw g.same (get_or-append ks g.rest no_key j h)

-- ---- reading a value meets more keys, and forgets none

module _ (doc : List ℕ) (names : Names) where
  key_grows : {t : List ℕ} {o : ℕ} {ks : Keys} {e : ℕ} {kz : Keys} → KeyIs doc names t o ks e kz → FirstOf ks kz
  key_grows (as_text x n b s i t f e k) = record { rest = _; same = k }
  key_grows (as_back x j s i h t k) = first_same k
  key_grows (as_global x j s i h t k) = first_same k

  mutual
    pub grows : (t : Tree) (o : ℕ) (ks : Keys) (e : ℕ) (kz : Keys) → ValueIs doc names t o ks e kz → FirstOf ks kz
    grows null o ks e kz h = first_same h.2
    grows (bool b) o ks e kz h = first_same h.2
    grows (num s m) o ks e kz h = first_same h.1
    grows (str s) o ks e kz h = first_same h.6
    grows (arr ts) o ks e kz h = grows_all ts _ _ _ _ h.3
    grows (obj ms) o ks e kz h = grows_members ms _ _ _ _ h.3

    pub grows_all : (ts : Trees) (o : ℕ) (ks : Keys) (e : ℕ) (kz : Keys) → ValuesAre doc names ts o ks e kz → FirstOf ks kz
    grows_all none o ks e kz h = first_same h.1
    grows_all (more t ts) o ks e kz h = first_trans (grows t _ _ _ _ h.2) (grows_all ts _ _ _ _ h.3)

    pub grows_members : (ms : Members) (o : ℕ) (ks : Keys) (e : ℕ) (kz : Keys) → MembersAre doc names ms o ks e kz → FirstOf ks kz
    grows_members end o ks e kz h = first_same h.1
    grows_members (member k t ms) o ks e kz h = first_trans (key_grows h.4) (first_trans (grows t _ _ _ _ h.5) (grows_members ms _ _ _ _ h.6))

-- ---- each key met lies in the document

abbrev pub Inside : List ℕ → Keys → Type 0
Inside doc [] = Unit {0}
Inside doc (k ∷ ks) = (k.start + k.len ≤ length doc) × Inside doc ks

inside_snoc : (doc : List ℕ) (ks : Keys) (k : Key) → Inside doc ks → k.start + k.len ≤ length doc → Inside doc (ks ++ (k ∷ []))
inside_snoc doc [] k i h = (h, tt)
inside_snoc doc (x ∷ ks) k i h = (i.0, inside_snoc doc ks k i.1 h)

pub inside_at : (doc : List ℕ) (ks : Keys) → Inside doc ks → (j : ℕ) → j < length ks → (get_or ks j no_key).start + (get_or ks j no_key).len ≤ length doc
inside_at doc [] i j h = omega arith
inside_at doc (k ∷ ks) i zero h = i.0
inside_at doc (k ∷ ks) i (suc j) h = inside_at doc ks i.1 j (omega arith)

module _ (doc : List ℕ) (names : Names) where
  key_inside : {t : List ℕ} {o : ℕ} {ks : Keys} {e : ℕ} {kz : Keys} → KeyIs doc names t o ks e kz → Inside doc ks → Inside doc kz
  key_inside {ks = ks} (as_text x n b s ix y f p q) i = rw q (inside_snoc doc ks _ i y.inside)
  key_inside (as_back x j s ix h y q) i = rw q i
  key_inside (as_global x j s ix h y q) i = rw q i

  mutual
    pub keys_inside : (t : Tree) (o : ℕ) (ks : Keys) (e : ℕ) (kz : Keys) → ValueIs doc names t o ks e kz → Inside doc ks → Inside doc kz
    keys_inside null o ks e kz h i = rw h.2 i
    keys_inside (bool b) o ks e kz h i = rw h.2 i
    keys_inside (num s m) o ks e kz h i = rw h.1 i
    keys_inside (str s) o ks e kz h i = rw h.6 i
    keys_inside (arr ts) o ks e kz h i = keys_inside_all ts _ _ _ _ h.3 i
    keys_inside (obj ms) o ks e kz h i = keys_inside_members ms _ _ _ _ h.3 i

    keys_inside_all : (ts : Trees) (o : ℕ) (ks : Keys) (e : ℕ) (kz : Keys) → ValuesAre doc names ts o ks e kz → Inside doc ks → Inside doc kz
    keys_inside_all none o ks e kz h i = rw h.1 i
    keys_inside_all (more t ts) o ks e kz h i = keys_inside_all ts _ _ _ _ h.3 (keys_inside t _ _ _ _ h.2 i)

    keys_inside_members : (ms : Members) (o : ℕ) (ks : Keys) (e : ℕ) (kz : Keys) → MembersAre doc names ms o ks e kz → Inside doc ks → Inside doc kz
    keys_inside_members end o ks e kz h i = rw h.1 i
    keys_inside_members (member k t ms) o ks e kz h i = keys_inside_members ms _ _ _ _ h.6 (keys_inside t _ _ _ _ h.5 (key_inside h.4 i))
