-- The key list: its check accepts exactly the lists that keep the rules, and each of these means one list of names, whose texts
-- stand where `name_of` says.
use Prim.Native.Nat.{ℕ, zero, suc, ◌+◌, ◌≤◌, ◌<◌}
use mathlib.Core.List.{List, [], ◌∷◌, ◌++◌}
use mathlib.Core.Logic.{◌≢◌, ◌↔◌}
use mathlib.Core.Path.{◌≡◌, refl, sym, ap, ◌∙◌}
use native.Mathlib.Omega.{arith}
use lib.Dec.{le→leb, leb→le, lt→ltb, eqb→eq}
use lib.ListN.{length, get_or}
use Rattle.json_model.specs.Reading.{Reading, done, ask, answers, ◌>>=◌}
use Rattle.json_model.proofs.Reading.{step, passed, pass, need_yes, eq→eqb}
use Rattle.fractured_json_rules.specs.Meaning.{Names, NamesFrom, Distinct, Lists, Key, Keys, key_text, Fresh}
use Rattle.fractured_json_rules.specs.KeyList.{name_at, next_name, names_from, count_in, key_list, steps, name_of}
use Rattle.fractured_json_theorems.proofs.Keys.{met_fresh, fresh_met}
use Rattle.fractured_json_theorems.proofs.Readers.{last_test}

-- ---- a text that none of some keys has, and one key more

module _ (doc t : List ℕ) where
  fresh_first : (ks : Keys) (k : Key) → Fresh doc t (ks ++ (k ∷ [])) → Fresh doc t ks
  unfolding Fresh
  fresh_first [] k f j i = absurd (omega arith)
  fresh_first (x ∷ ks) k f zero i = f zero (omega arith)
  fresh_first (x ∷ ks) k f (suc j) i = fresh_first ks k (λ n l. f (suc n) (omega arith)) j (omega arith)

  fresh_last : (ks : Keys) (k : Key) → Fresh doc t (ks ++ (k ∷ [])) → key_text doc k ≢ t
  unfolding Fresh
  fresh_last [] k f = f zero (omega arith)
  fresh_last (x ∷ ks) k f = fresh_last ks k (λ n l. f (suc n) (omega arith))

  fresh_more : (ks : Keys) (k : Key) → Fresh doc t ks → key_text doc k ≢ t → Fresh doc t (ks ++ (k ∷ []))
  unfolding Fresh
  fresh_more [] k f h zero i = h
  fresh_more [] k f h (suc j) i = absurd (omega arith)
  fresh_more (x ∷ ks) k f h zero i = f zero (omega arith)
  fresh_more (x ∷ ks) k f h (suc j) i = fresh_more ks k (λ n l. f (suc n) (omega arith)) h j (omega arith)

module _ (list : List ℕ) where
  -- none of the names is the text of one of the keys before them
  abbrev Apart : Keys → Names → Type 0
  Apart ks names = (j : ℕ) → j < length names → Fresh list (get_or names j []) ks

  apart_first : (ks : Keys) (k : Key) (t : List ℕ) (names : Names) → Fresh list t ks → Apart (ks ++ (k ∷ [])) names → Apart ks (t ∷ names)
  apart_first ks k t names f a zero i = f
  apart_first ks k t names f a (suc j) i = fresh_first list (get_or names j []) ks k (a j (omega arith))

  distinct_more : (ks : Keys) (k : Key) (names : Names) → Apart (ks ++ (k ∷ [])) names → Distinct names → Distinct (key_text list k ∷ names)
  unfolding Distinct
  distinct_more ks k names a d zero zero l i = absurd (omega arith)
  distinct_more ks k names a d zero (suc j) l i = fresh_last list (get_or names j []) ks k (a j (omega arith))
  distinct_more ks k names a d (suc i) zero l h = absurd (omega arith)
  distinct_more ks k names a d (suc i) (suc j) l h = d i j (omega arith) (omega arith)

  apart_more : (ks : Keys) (k : Key) (t : List ℕ) (names : Names) → key_text list k ≡ t → Apart ks (t ∷ names) → Distinct (t ∷ names) → Apart (ks ++ (k ∷ [])) names
  unfolding Distinct
  apart_more ks k t names e a d j i = fresh_more list (get_or names j []) ks k (a (suc j) (omega arith)) (rw e (d zero (suc j) (omega arith) (omega arith)))

  distinct_rest : (t : List ℕ) (names : Names) → Distinct (t ∷ names) → Distinct names
  unfolding Distinct
  distinct_rest t names d i j l h = d (suc i) (suc j) (omega arith) (omega arith)

  -- ---- what is accepted keeps the rules

  record FoundNames (n o : ℕ) (ks : Keys) : Type 0 where
    names : Names
    here : NamesFrom list o names
    count : length names ≡ n
    apart : Apart ks names
    distinct : Distinct names

  names_sound : {S : Type 0} (n o : ℕ) (ks : Keys) (s : S) {u : Unit {0}} {z : S} → names_from list n o ks s ≡ done u z → FoundNames n o ks × (s ≡ z)
  unfolding names_from Distinct
  names_sound zero o ks s e =
      let (whole, same) = last_test _ _ _ s e in
      (record { names = []; here = eqb→eq _ _ whole; count = refl; apart = λ j i. absurd (omega arith); distinct = λ i j l h. absurd (omega arith) }, same)
  names_sound (suc n) o ks s e =
      let s1 = passed _ _ _ _ s e in
      let s2 = passed _ _ _ _ s s1.rest in
      let s3 = passed _ _ _ _ s s2.rest in
      let k = name_at list o in
      let (f, same) = names_sound n (next_name list o) (ks ++ (k ∷ [])) s s3.rest in (
        record {
          names = key_text list k ∷ f.names;
          here = (leb→le _ _ s1.test, record { inside = leb→le _ _ s2.test; same = refl }, f.here);
          count = ap suc f.count;
          apart = apart_first ks k _ f.names (met_fresh list _ ks s3.test) f.apart;
          distinct = distinct_more ks k f.names f.apart f.distinct;
        },
        same,
      )

  list_sound : {S : Type 0} (s : S) {u : Unit {0}} {z : S} → key_list list s ≡ done u z → ((names : Names) × Lists list names) × (s ≡ z)
  unfolding key_list
  list_sound s e =
      let s1 = passed _ _ _ _ s e in
      let s2 = passed _ _ _ _ s s1.rest in
      let s3 = passed _ _ _ _ s s2.rest in
      let (n, same) = names_sound (count_in list) 3 [] s s3.rest in
      ((n.names, record { counted = leb→le _ _ s3.test; config = eqb→eq _ _ s2.test; count = n.count; laid_out = n.here; distinct = n.distinct }), same)

  pub list_step : {S B : Type 0} (f : Unit {0} → Reading S B) (s : S) {b : B} {z : S} → (key_list list >>= f) s ≡ done b z → ((names : Names) × Lists list names) × (f tt s ≡ done b z)
  list_step f s e =
      let q = step _ _ s e in
      let (l, same) = list_sound s q.first in
      (l, rw same q.rest)

  -- ---- what keeps the rules is accepted

  names_pass : {S : Type 0} (names : Names) (o : ℕ) (ks : Keys) (s : S) → NamesFrom list o names → Apart ks names → Distinct names → names_from list (length names) o ks s ≡ done tt s
  unfolding names_from
  names_pass [] o ks s h a d = need_yes _ _ _ s (eq→eqb h)
  names_pass (t ∷ names) o ks s h a d =
      let k = name_at list o in
      let text : key_text list k ≡ t = sym h.1.same in
      pass _ _ _ _ s (le→leb _ _ h.0) ∙ (pass _ _ _ _ s (le→leb _ _ h.1.inside) ∙ (pass _ _ _ _ s (rw text (fresh_met list t ks (a zero (omega arith))))
      ∙ names_pass names (next_name list o) (ks ++ (k ∷ [])) s h.2 (apart_more ks k t names text a d) (distinct_rest t names d)))

  none_before : (names : Names) → Apart [] names
  unfolding Fresh
  none_before names j i n l = absurd (omega arith)

  pub list_is : {S : Type 0} (names : Names) (s : S) → Lists list names → key_list list s ≡ done tt s
  unfolding key_list
  list_is names s m =
      let c = m.counted in
      let some : 0 < length list = omega arith in
      pass _ _ _ _ s (lt→ltb _ _ some) ∙ (pass _ _ _ _ s (rw m.config tt) ∙ (pass _ _ _ _ s (le→leb _ _ c)
      ∙ rw (← m.count) (names_pass names 3 [] s m.laid_out (none_before names) m.distinct)))

  -- ---- A key list is accepted exactly if it keeps the rules, and then means one list of names.

  pub list_exactly : (ask (key_list list) ≡ answers tt) ↔ ((names : Names) × Lists list names)
  list_exactly = (λ e. (list_sound tt e).0, λ b. list_is b.0 tt b.1)

  same_names : (ns ms : Names) (o : ℕ) → NamesFrom list o ns → NamesFrom list o ms → length ns ≡ length ms → ns ≡ ms
  same_names [] [] o h g e = refl
  same_names [] (t ∷ ms) o h g e = absurd (omega arith)
  same_names (t ∷ ns) [] o h g e = absurd (omega arith)
  same_names (t ∷ ns) (u ∷ ms) o h g e =
      let first : t ≡ u = h.1.same ∙ sym g.1.same in
      let rest : ns ≡ ms = same_names ns ms (next_name list o) h.2 g.2 (omega arith) in
      cc

  pub one_list : (ns ms : Names) → Lists list ns → Lists list ms → ns ≡ ms
  one_list ns ms n m = same_names ns ms 3 n.laid_out m.laid_out (n.count ∙ sym m.count)

  -- ---- name j

  -- its text is the name, and lies in the list
  name_from : (names : Names) (o : ℕ) → NamesFrom list o names → (j : ℕ) → j < length names
      → (key_text list (name_at list (steps (next_name list) j o)) ≡ get_or names j []) × (next_name list (steps (next_name list) j o) ≤ length list)
  unfolding steps
  name_from [] o h j i = absurd (omega arith)
  name_from (t ∷ names) o h zero i = (sym h.1.same, h.1.inside)
  name_from (t ∷ names) o h (suc j) i = name_from names (next_name list o) h.2 j (omega arith)

  pub name_is : (names : Names) → Lists list names → (j : ℕ) → j < length names
      → (key_text list (name_of list j) ≡ get_or names j []) × ((name_of list j).start + (name_of list j).len ≤ length list)
  unfolding name_of
  name_is names m j i = name_from names 3 m.laid_out j i
