-- The questions, put to a value that stands for a tree, are answered from that tree; `words` and `count` are a key table that
-- holds the keys of the document, `names` the names of the key list.
use Prim.Native.Nat.{ℕ, zero, suc, ◌+◌, ◌≤◌, ◌<◌}
use mathlib.Core.Bool.{Bool, true, false}
use mathlib.Core.List.{List}
use mathlib.Core.Path.{◌≡◌, refl, sym, ap, ◌∙◌, subst}
use native.Mathlib.Omega.{arith}
use lib.Dec.{T, le→leb, lt→ltb}
use lib.ListN.{length, get_or}
use Rattle.json_model.specs.Choose.{choose}
use Rattle.json_model.specs.Limits.{deepest}
use Rattle.json_model.specs.Reading.{Reading, answer, ◌>>=◌, Asked, ask, answers}
use Rattle.json_model.specs.Texts.{compare_texts, is_equal}
use Rattle.json_model.specs.Tree.{Tree, Trees, none, more, Members, end, depth, depths, depthm, size, sizem, MemberIs, Lacks}
use Rattle.json_model.specs.Tree as Tree
use Rattle.json_model.proofs.Reading.{then, pass}
use Rattle.fractured_json_rules.specs.Meaning.{Names, Lists, Key, no_key, Keys, key_text, KeyIs, as_text, as_back, as_global, ValueIs, ValuesAre, MembersAre}
use Rattle.fractured_json_rules.specs.KeyList.{count_in, steps, name_of}
use Rattle.fractured_json_rules.specs.Verdict.{in_turn, member, key_by}
use Rattle.fractured_json_rules.specs.KeyTable.{room_of, key_of}
use Rattle.fractured_json_rules.specs.TreeOf.{key_end, end_at}
use Rattle.fractured_json_rules.specs.Leads.{FirstOf}
use Rattle.fractured_json_rules.specs.Questions.{the_document, the_list, KeyRead, lent, text_in, text_key, back_key, name_key, read_key, pass_key, walk, inner, Found, value_at, absent, find_from, find_in}
use Rattle.fractured_json_theorems.proofs.KeyList.{name_is}
use Rattle.fractured_json_theorems.proofs.Keys.{same_text, text_same, first_trans, first_length, first_key, grows, grows_all, grows_members, Inside, inside_at}
use Rattle.fractured_json_theorems.proofs.Readers.{byte_is, text_is_lem, key_number_is}
use Rattle.fractured_json_theorems.proofs.Trees.{key_ends, ends}
use Rattle.fractured_json_theorems.proofs.Walk.{walks}

-- the key table handed to a question holds the keys of the document
pub record Holds (doc : List ℕ) (all : Keys) (words : List ℕ) (count : ℕ) : Type 0 where
  pub counts : count ≡ length all
  pub roomy : count ≤ room_of words
  pub pair : (j : ℕ) → j < length all → key_of words j ≡ get_or all j no_key
  pub inside : Inside doc all

-- The answer r is a key with the text t that ends at e; the text lies inside the bytes of its lender.
pub record KeyAnswer (doc list t : List ℕ) (e : ℕ) (r : Asked KeyRead) : Type 0 where
  pub read : KeyRead
  pub answered : r ≡ answers read
  pub inside : read.place + read.len ≤ length (lent doc list read.lender)
  pub text : text_in doc list read ≡ t
  pub ends : read.past ≡ e

-- where a member ends
member_ends : (doc : List ℕ) (names : Names) (k : List ℕ) (t : Tree) (o : ℕ) (ks : Keys) (v : ℕ) (kv : Keys) (e : ℕ) (kz : Keys) → KeyIs doc names k o ks v kv → ValueIs doc names t v kv e kz → depth t ≤ deepest
    → end_at deepest doc (key_end doc o) ≡ e
member_ends doc names k t o ks v kv e kz h g d = ap (end_at deepest doc) (key_ends doc names k o ks v kv h) ∙ ends doc names t deepest v kv e kz g d

-- a key that is not the first member's
not_here : (k x : List ℕ) → is_equal (compare_texts k x) ≡ false → x ≡ k → ⊥
not_here k x q e = subst (λ (b : Bool). T b) q (text_same k x (sym e))

no_earlier : (k x : List ℕ) (t : Tree) (ms : Members) (j : ℕ) → is_equal (compare_texts k x) ≡ false → ((i : ℕ) (w : Tree) → i < j → MemberIs ms i x w → ⊥)
    → (i : ℕ) (w : Tree) → i < suc j → MemberIs (Tree.member k t ms) i x w → ⊥
no_earlier k x t ms j q f zero w b h = not_here k x q h.0
no_earlier k x t ms j q f (suc i) w b h = f i w (omega arith) h

lacks : (k x : List ℕ) (t : Tree) (ms : Members) → is_equal (compare_texts k x) ≡ false → Lacks ms x → Lacks (Tree.member k t ms) x
lacks k x t ms q f zero v h = not_here k x q h.0
lacks k x t ms q f (suc j) v h = f j v h

module _ (doc list : List ℕ) (names : Names) (listed : Lists list names) (all : Keys) (words : List ℕ) (count : ℕ) (table : Holds doc all words count) where
  -- ---- keys

  pub reads_key : (t : List ℕ) (o : ℕ) (ks : Keys) (e : ℕ) (kz : Keys) → KeyIs doc names t o ks e kz → FirstOf kz all → KeyAnswer doc list t e (ask (read_key doc list words count o))
  unfolding read_key key_by text_key back_key name_key
  reads_key t o ks e kz (as_text x n b s i y f p q) g =
      record {
        read = record { lender = the_document; place = b; len = n; past = b + n };
        answered =
            then _ _ tt (byte_is doc o o tt s.inside) ∙ rw s.form_is (then _ _ tt (key_number_is doc o x n b tt i) ∙ then _ _ tt (text_is_lem doc o _ tt y.inside));
        inside = y.inside;
        text = sym y.same;
        ends = sym p;
      }
  reads_key t o ks e kz (as_back x j s i h y q) g =
      let g' = rw q at g in
      let less = first_length g' in
      let c = table.counts in
      let known : j < length all = omega arith in
      let under : j < count = omega arith in
      let pair = table.pair j known in
      let fits : (key_of words j).start + (key_of words j).len ≤ length doc = subst (λ (k : Key). k.start + k.len ≤ length doc) (sym pair) (inside_at doc all table.inside j known) in
      record {
        read = record { lender = the_document; place = (key_of words j).start; len = (key_of words j).len; past = e };
        answered =
            then _ _ tt (byte_is doc o o tt s.inside) ∙ rw s.form_is (then _ _ tt (key_number_is doc o x j e tt i)
            ∙ (pass _ _ _ _ tt (lt→ltb _ _ under) ∙ (pass _ _ _ _ tt (le→leb _ _ table.roomy) ∙ pass _ _ _ _ tt (le→leb _ _ fits))));
        inside = fits;
        text = ap (key_text doc) (pair ∙ first_key ks all j g' h) ∙ sym y;
        ends = refl;
      }
  reads_key t o ks e kz (as_global x j s i h y q) g =
      let c = listed.count in
      let under : j < count_in list = omega arith in
      let (name, fits) = name_is list names listed j h in
      record {
        read = record { lender = the_list; place = (name_of list j).start; len = (name_of list j).len; past = e };
        answered =
            then _ _ tt (byte_is doc o o tt s.inside) ∙ rw s.form_is (then _ _ tt (key_number_is doc o x j e tt i) ∙ pass _ _ _ _ tt (lt→ltb _ _ under));
        inside = fits;
        text = name ∙ sym y;
        ends = refl;
      }

  passes_key : (t : List ℕ) (o : ℕ) (ks : Keys) (e : ℕ) (kz : Keys) → KeyIs doc names t o ks e kz → FirstOf kz all → ask (pass_key doc list words count o) ≡ answers e
  unfolding pass_key
  passes_key t o ks e kz h g = let k = reads_key t o ks e kz h g in then _ _ tt k.answered ∙ ap answers k.ends

  -- ---- walking

  pub walks_value : (t : Tree) (l o : ℕ) (ks : Keys) (e : ℕ) (kz : Keys) → ValueIs doc names t o ks e kz → FirstOf kz all → depth t ≤ l → ask (walk l doc list words count o) ≡ answers e
  walks_value = walks doc names (pass_key doc list words count) all (λ _. tt {0}) passes_key

  -- to element i, and to the key of member j
  pub walks_to_element : (ts : Trees) (i o : ℕ) (ks : Keys) (e : ℕ) (kz : Keys) → ValuesAre doc names ts o ks e kz → FirstOf kz all → depths ts ≤ inner → i < size ts
      → ask (in_turn (walk inner doc list words count) i o) ≡ answers (steps (end_at deepest doc) i o)
  unfolding in_turn steps
  walks_to_element none i o ks e kz h g d b = absurd (omega arith)
  walks_to_element (more t ts) zero o ks e kz h g d b = refl
  walks_to_element (more t ts) (suc i) o ks e kz h g d b =
      let past = ends doc names t deepest o ks h.0 h.1 h.2 (omega arith) in
      then _ _ tt (walks_value t inner o ks h.0 h.1 h.2 (first_trans (grows_all doc names ts _ _ _ _ h.3) g) (omega arith))
      ∙ (walks_to_element ts i h.0 h.1 e kz h.3 g (omega arith) (omega arith) ∙ ap (λ p. answers (steps (end_at deepest doc) i p)) (sym past))

  pub walks_to_member : (ms : Members) (j o : ℕ) (ks : Keys) (e : ℕ) (kz : Keys) → MembersAre doc names ms o ks e kz → FirstOf kz all → depthm ms ≤ inner → j < sizem ms
      → ask (in_turn (member (pass_key doc list words count) (walk inner doc list words count)) j o) ≡ answers (steps (λ m. end_at deepest doc (key_end doc m)) j o)
  unfolding in_turn steps member
  walks_to_member end j o ks e kz h g d b = absurd (omega arith)
  walks_to_member (Tree.member k t ms) zero o ks e kz h g d b = refl
  walks_to_member (Tree.member k t ms) (suc j) o ks e kz h g d b =
      let g2 = first_trans (grows_members doc names ms _ _ _ _ h.6) g in
      let g1 = first_trans (grows doc names t _ _ _ _ h.5) g2 in
      let past = member_ends doc names k t o ks h.0 h.1 h.2 h.3 h.4 h.5 (omega arith) in
      then _ _ tt (then _ _ tt (passes_key k o ks h.0 h.1 h.4 g1) ∙ walks_value t inner h.0 h.1 h.2 h.3 h.5 g2 (omega arith))
      ∙ (walks_to_member ms j h.2 h.3 e kz h.6 g (omega arith) (omega arith) ∙ ap (λ p. answers (steps (λ m. end_at deepest doc (key_end doc m)) j p)) (sym past))

  -- ---- the first member with the key x

  module _ (x : List ℕ) where
    -- what the lookup from the member at o on answers
    pub data Lookup (ms : Members) (o : ℕ) (r : Asked Found) : Type 0 where
      hit : (j : ℕ) (v : Tree) → MemberIs ms j x v → ((i : ℕ) (w : Tree) → i < j → MemberIs ms i x w → ⊥)
          → r ≡ answers (value_at (key_end doc (steps (λ m. end_at deepest doc (key_end doc m)) j o))) → Lookup ms o r
      miss : Lacks ms x → r ≡ answers absent → Lookup ms o r

    -- the key is the first member's
    here : (k : List ℕ) (t : Tree) (ms : Members) (o v : ℕ) (r : Asked Found) → is_equal (compare_texts k x) ≡ true → key_end doc o ≡ v → r ≡ answers (value_at v) → Lookup (Tree.member k t ms) o r
    unfolding steps
    here k t ms o v r q past e =
        hit 0 t (sym (same_text k x (rw q tt)), refl) (λ i w b. absurd (omega arith)) (e ∙ ap (λ p. answers (value_at p)) (sym past))

    -- the key is not the first member's
    later : (k : List ℕ) (t : Tree) (ms : Members) (o next : ℕ) (r : Asked Found) → is_equal (compare_texts k x) ≡ false → end_at deepest doc (key_end doc o) ≡ next
        → Lookup ms next r → Lookup (Tree.member k t ms) o r
    unfolding steps
    later k t ms o next r q past (hit j v h f e) =
        hit (suc j) v h (no_earlier k x t ms j q f) (e ∙ ap (λ p. answers (value_at (key_end doc (steps (λ m. end_at deepest doc (key_end doc m)) j p)))) (sym past))
    later k t ms o next r q past (miss f e) = miss (lacks k x t ms q f) e

    -- the first key is read, and compared
    by_first : (k : List ℕ) (t : Tree) (ms : Members) (o v : ℕ) (rest : ℕ → Reading (Unit {0}) Found)
        → KeyAnswer doc list k v (ask (read_key doc list words count o)) → key_end doc o ≡ v
        → (b : Bool) → is_equal (compare_texts k x) ≡ b → (is_equal (compare_texts k x) ≡ false → Lookup (Tree.member k t ms) o (ask (rest v)))
        → Lookup (Tree.member k t ms) o
        (ask (read_key doc list words count o >>= λ r. choose (is_equal (compare_texts (text_in doc list r) x)) (answer (value_at r.past)) (rest r.past)))
    unfolding choose
    by_first k t ms o v rest read past true q f = here k t ms o v _ q past (then _ _ tt read.answered ∙ rw (read.text, read.ends, q))
    by_first k t ms o v rest read past false q f = subst (λ (r : Asked Found). Lookup (Tree.member k t ms) o r) (sym (then _ _ tt read.answered ∙ rw (read.text, read.ends, q))) (f q)

    pub finds : (ms : Members) (o : ℕ) (ks : Keys) (e : ℕ) (kz : Keys) → MembersAre doc names ms o ks e kz → FirstOf kz all → depthm ms ≤ inner
        → Lookup ms o (ask (find_in doc list words count x (sizem ms) o))
    unfolding find_in find_from
    finds end o ks e kz h g d = miss (λ j v b. b) refl
    finds (Tree.member k t end) o ks e kz h g d =
        let g2 = first_trans (grows_members doc names end _ _ _ _ h.6) g in
        let g1 = first_trans (grows doc names t _ _ _ _ h.5) g2 in
        by_first k t end o h.0 (λ p. answer absent) (reads_key k o ks h.0 h.1 h.4 g1) (key_ends doc names k o ks h.0 h.1 h.4)
        (is_equal (compare_texts k x)) refl (λ q. miss (lacks k x t end q (λ j v b. b)) refl)
    finds (Tree.member k t (Tree.member y u ms)) o ks e kz h g d =
        let g2 = first_trans (grows_members doc names (Tree.member y u ms) _ _ _ _ h.6) g in
        let g1 = first_trans (grows doc names t _ _ _ _ h.5) g2 in
        let rest = finds (Tree.member y u ms) h.2 h.3 e kz h.6 g (omega arith) in
        by_first k t (Tree.member y u ms) o h.0 (λ p. walk inner doc list words count p >>= λ next. find_from doc list words count x (sizem ms) next)
        (reads_key k o ks h.0 h.1 h.4 g1) (key_ends doc names k o ks h.0 h.1 h.4) (is_equal (compare_texts k x)) refl
        (λ q. later k t (Tree.member y u ms) o h.2 _ q (member_ends doc names k t o ks h.0 h.1 h.2 h.3 h.4 h.5 (omega arith))
        (subst (λ (r : Asked Found). Lookup (Tree.member y u ms) h.2 r) (sym (then _ _ tt (walks_value t inner h.0 h.1 h.2 h.3 h.5 g2 (omega arith)))) rest))
