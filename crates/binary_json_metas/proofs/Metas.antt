-- Questions at a Meta, one law for each way through the code: of the fields that stand at the cursor, and of where the
-- tree ends.
use mathlib.Core.Logic.{◌⊎◌, inl, inr}
use mathlib.Core.Path.{◌≡◌, refl, ◌∙◌}
use mathlib.Core.Bool.{◌||◌}
use mathlib.Core.List.{List}
use Prim.Native.Nat.{ℕ, ◌+◌, ◌*◌, ◌≤◌, ◌<◌}
use native.Mathlib.Omega.{arith}
use borrow.Author.Rules.{rules}
use borrow.Author.Tests.{ne_eqb}
use lib.Dec.{T, ltb, eqb, le→leb, lt→ltb}
use Rattle.json_model.specs.Choose.{choose}
use Rattle.json_model.specs.Reading.{halt, done, Asked, ask, answers, refuses, answer, ◌>>=◌, need}
use Rattle.json_model.specs.declared.Refusal.{Refusal}
use Rattle.json_model.proofs.Reading.{eq→eqb, over, past, unlike, then, stops, pass, fail}
use Rattle.binary_json_rules.specs.Areas.{word, low, high, index}
use Rattle.binary_json_rules.specs.Verdict.{slot_named}
use Rattle.binary_json_rules.specs.Questions.{opening, tree_word, body, body_words, kind_here, kind_and_size, element_here, element, object_here, MemberAt, member_here, member_at}
use Rattle.binary_json_rules.specs.Answers.{sized}
use Rattle.binary_json_areas.proofs.Openings.{body_fits, twice_fits, entries_fit, members_fit, array_fits, object_fits}

-- no word of the tree stands there
module _ (doc : List ℕ) (c : ℕ) (r : Refusal) (e : ask (tree_word doc c c) ≡ refuses r.number r.place) where
  pub kind_outside : ask (kind_here doc c) ≡ refuses r.number r.place
  unfolding kind_here
  kind_outside = stops _ _ tt e

  pub element_outside : (i : ℕ) → ask (element_here doc c i) ≡ refuses r.number r.place
  unfolding element_here
  element_outside i = stops _ _ tt e

  pub object_outside : ask (object_here doc c) ≡ refuses r.number r.place
  unfolding object_here
  object_outside = stops _ _ tt e

-- a Meta stands there, of a kind and a size
module _ (doc : List ℕ) (c : ℕ) (there : ask (tree_word doc c c) ≡ answers tt) where
  -- ---- kind and size

  to_body : ask (kind_here doc c) ≡ ask (need (ltb (low doc c) 3) 21 c >>= λ _. body doc c (body_words (low doc c) (high doc c)) >>= λ _. answer (sized (low doc c) (high doc c)))
  unfolding kind_here
  to_body = then _ _ tt there

  pub no_kind : 2 < low doc c → ask (kind_here doc c) ≡ refuses 21 c
  no_kind h = to_body ∙ fail _ _ _ _ tt (past h)

  -- of a kind k whose body has w words
  module _ (k w : ℕ) (e : low doc c ≡ k) (k3 : k < 3) (ws : body_words k (high doc c) ≡ w) where
    to_words : ask (kind_here doc c) ≡ ask (body doc c w >>= λ _. answer (sized k (high doc c)))
    to_words = to_body ∙ rw (e, ws) (pass _ _ _ _ tt (lt→ltb k 3 k3))

    cut : index doc < c + 4 + 4 * w → ask (kind_here doc c) ≡ refuses 20 c
    unfolding body
    cut h = to_words ∙ fail _ _ _ _ tt (over h)

    whole : c + 4 + 4 * w ≤ index doc → ask (kind_here doc c) ≡ answers (sized k (high doc c))
    unfolding body
    whole h = to_words ∙ pass _ _ _ _ tt (le→leb _ _ h)

  module _ (e : low doc c ≡ 0) where
    pub array_cut : index doc < c + 4 + 4 * high doc c → ask (kind_here doc c) ≡ refuses 20 c
    unfolding body_words choose
    array_cut h = cut 0 (high doc c) e (omega arith) refl h

    pub array_whole : c + 4 + 4 * high doc c ≤ index doc → ask (kind_here doc c) ≡ answers (sized 0 (high doc c))
    unfolding body_words choose
    array_whole h = whole 0 (high doc c) e (omega arith) refl h

  module _ (e : low doc c ≡ 1) where
    pub object_cut : index doc < c + 4 + 4 * (2 * high doc c) → ask (kind_here doc c) ≡ refuses 20 c
    unfolding body_words choose
    object_cut h = cut 1 (2 * high doc c) e (omega arith) refl h

    pub object_whole : c + 4 + 4 * (2 * high doc c) ≤ index doc → ask (kind_here doc c) ≡ answers (sized 1 (high doc c))
    unfolding body_words choose
    object_whole h = whole 1 (2 * high doc c) e (omega arith) refl h

  module _ (e : low doc c ≡ 2) where
    pub scalar_cut : index doc < c + 4 + 4 * high doc c → ask (kind_here doc c) ≡ refuses 20 c
    unfolding body_words choose
    scalar_cut h = cut 2 (high doc c) e (omega arith) refl h

    pub scalar_whole : c + 4 + 4 * high doc c ≤ index doc → ask (kind_here doc c) ≡ answers (sized 2 (high doc c))
    unfolding body_words choose
    scalar_whole h = whole 2 (high doc c) e (omega arith) refl h

  -- ---- element i

  module _ (i : ℕ) where
    to_elements : ask (element_here doc c i) ≡ ask (need (eqb (low doc c) 0 || eqb (low doc c) 2) 21 c >>= λ _. body doc c (high doc c) >>= λ _. need (ltb i (high doc c)) 22 c >>= λ _. answer (c + 4 + 4 * i))
    unfolding element_here
    to_elements = then _ _ tt there

    pub no_elements : (low doc c ≡ 0 → ⊥) → (low doc c ≡ 2 → ⊥) → ask (element_here doc c i) ≡ refuses 21 c
    no_elements p q = to_elements ∙ fail _ _ _ _ tt (rw (ne_eqb (low doc c) 0 p, ne_eqb (low doc c) 2 q) (λ t. t))

    module _ (p : (low doc c ≡ 0) ⊎ (low doc c ≡ 2)) where
      has_elements : T (eqb (low doc c) 0 || eqb (low doc c) 2)
      has_elements = elim p [ inl e ↦ rw e tt | inr e ↦ rw e tt ]

      pub elements_cut : index doc < c + 4 + 4 * high doc c → ask (element_here doc c i) ≡ refuses 20 c
      unfolding body
      elements_cut h = to_elements ∙ (pass _ _ _ _ tt has_elements ∙ fail _ _ _ _ tt (over h))

      module _ (fits : c + 4 + 4 * high doc c ≤ index doc) where
        to_element : ask (element_here doc c i) ≡ ask (need (ltb i (high doc c)) 22 c >>= λ _. answer (c + 4 + 4 * i))
        unfolding body
        to_element = to_elements ∙ (pass _ _ _ _ tt has_elements ∙ pass _ _ _ _ tt (le→leb _ _ fits))

        pub element_past : high doc c ≤ i → ask (element_here doc c i) ≡ refuses 22 c
        element_past h = to_element ∙ fail _ _ _ _ tt (past h)

        pub element_found : i < high doc c → ask (element_here doc c i) ≡ answers (c + 4 + 4 * i)
        element_found h = to_element ∙ pass _ _ _ _ tt (lt→ltb _ _ h)

  -- ---- the object that member j and both lookups are asked of

  to_members : ask (object_here doc c) ≡ ask (need (eqb (low doc c) 1) 21 c >>= λ _. body doc c (2 * high doc c) >>= λ _. answer (high doc c))
  unfolding object_here
  to_members = then _ _ tt there

  pub no_object : (low doc c ≡ 1 → ⊥) → ask (object_here doc c) ≡ refuses 21 c
  no_object q = to_members ∙ fail _ _ _ _ tt (unlike q)

  module _ (k1 : low doc c ≡ 1) where
    pub members_cut : index doc < c + 4 + 4 * (2 * high doc c) → ask (object_here doc c) ≡ refuses 20 c
    unfolding body
    members_cut h = to_members ∙ (pass _ _ _ _ tt (eq→eqb k1) ∙ fail _ _ _ _ tt (over h))

    pub an_object : c + 4 + 4 * (2 * high doc c) ≤ index doc → ask (object_here doc c) ≡ answers (high doc c)
    unfolding body
    an_object h = to_members ∙ (pass _ _ _ _ tt (eq→eqb k1) ∙ pass _ _ _ _ tt (le→leb _ _ h))

pub ruleset kind_here_laws = (body_fits, twice_fits, entries_fit, members_fit, array_fits, object_fits, kind_outside, no_kind, array_cut, array_whole, object_cut, object_whole, scalar_cut, scalar_whole, rules)

pub ruleset element_here_laws = (body_fits, entries_fit, array_fits, element_outside, no_elements, elements_cut, element_past, element_found, rules)

pub ruleset object_here_laws = (body_fits, twice_fits, members_fit, object_fits, object_outside, no_object, members_cut, an_object, rules)

-- ---- member j

-- member j of n members, and of the object that was asked for
pub member_of : List ℕ → ℕ → ℕ → ℕ → Asked MemberAt
member_of doc c j n = ask (need (ltb j n) 22 c >>= λ _. slot_named doc (word doc (c + 4 + 4 * j)) 20 c >>= λ _. answer (record { slot = word doc (c + 4 + 4 * j); entry = c + 4 + 4 * n + 4 * j }))

abbrev pub member_in : List ℕ → ℕ → ℕ → Asked ℕ → Asked MemberAt
member_in doc c j (halt number place u) = refuses number place
member_in doc c j (done n u) = member_of doc c j n

in_object : (doc : List ℕ) (c j : ℕ) (o : Asked ℕ) → ask (object_here doc c) ≡ o → ask (member_here doc c j) ≡ member_in doc c j o
unfolding member_here member_of
in_object doc c j (halt number place u) e = stops _ _ tt e
in_object doc c j (done n u) e = then _ _ tt e

pub member_by_object : (doc : List ℕ) (c j : ℕ) → ask (member_here doc c j) ≡ member_in doc c j (ask (object_here doc c))
member_by_object doc c j = in_object doc c j _ refl

module _ (doc : List ℕ) (c j n : ℕ) where
  pub member_past : n ≤ j → member_of doc c j n ≡ refuses 22 c
  unfolding member_of
  member_past h = fail _ _ _ _ tt (past h)

  module _ (b : j < n) where
    pub key_refused : ask (slot_named doc (word doc (c + 4 + 4 * j)) 20 c) ≡ refuses 20 c → member_of doc c j n ≡ refuses 20 c
    unfolding member_of
    key_refused named = pass _ _ _ _ tt (lt→ltb _ _ b) ∙ stops _ _ tt named

    pub member_found : ask (slot_named doc (word doc (c + 4 + 4 * j)) 20 c) ≡ answers tt
        → member_of doc c j n ≡ answers (record { slot = word doc (c + 4 + 4 * j); entry = c + 4 + 4 * n + 4 * j })
    unfolding member_of
    member_found named = pass _ _ _ _ tt (lt→ltb _ _ b) ∙ then _ _ tt named

pub ruleset member_here_laws = (member_by_object, member_past, key_refused, member_found, rules)

-- ---- each question: opened, and then what it asks

module _ (doc : List ℕ) (c : ℕ) where
  module _ (r : Refusal) (e : ask (opening doc c) ≡ refuses r.number r.place) where
    pub kind_closed : ask (kind_and_size doc c) ≡ refuses r.number r.place
    unfolding kind_and_size
    kind_closed = stops _ _ tt e

    pub element_closed : (i : ℕ) → ask (element doc c i) ≡ refuses r.number r.place
    unfolding element
    element_closed i = stops _ _ tt e

    pub member_closed : (j : ℕ) → ask (member_at doc c j) ≡ refuses r.number r.place
    unfolding member_at
    member_closed j = stops _ _ tt e

  module _ (e : ask (opening doc c) ≡ answers tt) where
    pub kind_opened : ask (kind_and_size doc c) ≡ ask (kind_here doc c)
    unfolding kind_and_size
    kind_opened = then _ _ tt e

    pub element_opened : (i : ℕ) → ask (element doc c i) ≡ ask (element_here doc c i)
    unfolding element
    element_opened i = then _ _ tt e

    pub member_opened : (j : ℕ) → ask (member_at doc c j) ≡ ask (member_here doc c j)
    unfolding member_at
    member_opened j = then _ _ tt e

pub ruleset kind_laws = (kind_closed, kind_opened, rules)

pub ruleset element_laws = (element_closed, element_opened, rules)

pub ruleset member_laws = (member_closed, member_opened, rules)
