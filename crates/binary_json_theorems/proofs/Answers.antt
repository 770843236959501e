-- Questions put to a container or an Entry of a good document are answered from the tree that it stands for.
use mathlib.Core.Path.{◌≡◌, refl, ◌∙◌}
use mathlib.Core.Bool.{Bool, true, false, ◌||◌}
use mathlib.Core.List.{List}
use Prim.Native.Nat.{ℕ, zero, suc, ◌+◌, ◌-◌, ◌*◌, ◌≤◌, ◌<◌}
use native.Mathlib.Omega.{arith}
use native.Mathlib.Decide.{ℕ_discrete}
use lib.Dec.{T, ltb, eqb, le→leb, lt→ltb}
use lib.ListN.{length}
use Rattle.json_model.specs.Choose.{choose}
use Rattle.json_model.specs.Reading.{Reading, answer, ask, answers, refuses, ◌>>=◌, need}
use Rattle.json_model.specs.Bytes.{number, part}
use Rattle.json_model.specs.declared.Span.{Span}
use Rattle.json_model.specs.Tree.{Tree, null, bool, num, str, arr, obj, Trees, Members, member, end, size, sizem, MemberIs, IsContainer, NoNumber, NoString, NoObject, NoContainer}
use Rattle.json_model.proofs.Reading.{eq→eqb, past, then, stops, pass, fail, need_yes}
use Rattle.binary_json_rules.specs.Areas.{word, low, high, index, count, slot, text, content, numbers, Kind, k_array, k_object, k_scalar, k_other, kind_of, EntryType, t_false, t_true, t_null, t_string, t_number, t_container, t_other, type_of}
use Rattle.binary_json_rules.specs.Meaning.{SlotIs, Meta, EntryIs, MembersAre, ContainerIs, Means}
use Rattle.binary_json_rules.specs.Questions.{opening, tree_word, body, body_words, kind_here, kind_and_size, element_here, element, object_here, key_entry_of, entry_of, member_here, member_at, slot_read, text_named, slot_text, slot_bytes, type_here, entry_type, container_here, container_at, string_here, string_at, number_here, number_at}
use Rattle.binary_json_rules.specs.Answers.{sized, sized_as, typed_as}
use Rattle.binary_json_theorems.proofs.Complete.{slot_named_lem, number_named_lem, header_done}
use Rattle.binary_json_theorems.proofs.Trees.{slot_at_lem}
use Rattle.binary_json_theorems.proofs.Nodes.{Aligned, scalar_is}
use Rattle.binary_json_theorems.proofs.Cases.{by_kind, by_type}

-- ---- the numbers of kinds and types

abbrev kind_number : Kind → ℕ
kind_number k_array = 0
kind_number k_object = 1
kind_number k_scalar = 2
kind_number k_other = 3

abbrev Known : Kind → Type 0
Known k_array = Unit {0}
Known k_object = Unit {0}
Known k_scalar = Unit {0}
Known k_other = ⊥

kind_number_lem : (n : ℕ) → Known (kind_of n) → n ≡ kind_number (kind_of n)
kind_number_lem = by_kind (λ n k. Known k → n ≡ kind_number k) (λ o. refl) (λ o. refl) (λ o. refl) (λ n o. absurd o)

kind_is : (doc : List ℕ) (c n w : ℕ) (k : Kind) → Known k → Meta doc c k n w → low doc c ≡ kind_number k
kind_is doc c n w k o h = (rw h.kind_is at (kind_number_lem (low doc c))) o

abbrev type_number : EntryType → ℕ
type_number t_false = 0
type_number t_true = 1
type_number t_null = 2
type_number t_string = 3
type_number t_number = 4
type_number t_container = 5
type_number t_other = 6

abbrev KnownType : EntryType → Type 0
KnownType t_false = Unit {0}
KnownType t_true = Unit {0}
KnownType t_null = Unit {0}
KnownType t_string = Unit {0}
KnownType t_number = Unit {0}
KnownType t_container = Unit {0}
KnownType t_other = ⊥

type_number_lem : (n : ℕ) → KnownType (type_of n) → n ≡ type_number (type_of n)
type_number_lem = by_type (λ n k. KnownType k → n ≡ type_number k) (λ o. refl) (λ o. refl) (λ o. refl) (λ o. refl) (λ o. refl) (λ o. refl) (λ n o. absurd o)

type_is : (doc : List ℕ) (a : ℕ) (k : EntryType) → KnownType k → type_of (low doc a) ≡ k → low doc a ≡ type_number k
type_is doc a k o e = (rw e at (type_number_lem (low doc a))) o

-- the type that an Entry has, from what it stands for
typed : (doc : List ℕ) (a : ℕ) (v : Tree) → EntryIs doc v a → low doc a ≡ typed_as v
unfolding typed_as
typed doc a null h = type_is doc a t_null tt h
typed doc a (bool false) h = type_is doc a t_false tt h
typed doc a (bool true) h = type_is doc a t_true tt h
typed doc a (num s x) h = type_is doc a t_number tt h.1
typed doc a (str s) h = type_is doc a t_string tt h.1
typed doc a (arr ts) h = type_is doc a t_container tt h.0
typed doc a (obj ms) h = type_is doc a t_container tt h.0

module _ (doc : List ℕ) (t : Tree) (m : Means doc t) where
  -- ---- the areas

  -- texts stand one after the other, inside the document
  pub texts_rise : (k j : ℕ) → j ≤ k → k ≤ count doc → text doc j ≤ text doc k
  texts_rise zero j h b = let e : j ≡ 0 = omega arith in rw e (omega arith)
  texts_rise (suc k) j h b =
      let up = (m.slots_good k b).forward in
      cases (ℕ_discrete j (suc k)) up (texts_rise k j)
    where
      cases : Dec (j ≡ suc k) → text doc k < text doc (suc k) → (j ≤ k → k ≤ count doc → text doc j ≤ text doc k) → text doc j ≤ text doc (suc k)
      cases (yes e) up r = rw e (omega arith)
      cases (no n) up r = let x = r (omega arith) (omega arith) in omega arith

  text_inside : (k : ℕ) → k ≤ count doc → text doc k ≤ length doc
  unfolding text
  text_inside zero h = m.slots_inside
  text_inside (suc k) h = (m.slots_good k h).inside

  pub opens : (c : ℕ) → ask (opening doc c) ≡ answers tt
  unfolding opening numbers
  opens c =
      let first : slot doc (count doc) ≤ text doc (count doc) = unfold text in texts_rise (count doc) 0 (omega arith) (omega arith) in
      then _ _ tt (header_done doc tt t m) ∙ (pass _ _ _ _ tt (le→leb _ _ first) ∙ need_yes _ _ _ tt (le→leb _ _ (text_inside (count doc) (omega arith))))

  word_in : (a c : ℕ) → Aligned a → a + 4 ≤ index doc → ask (tree_word doc a c) ≡ answers tt
  unfolding tree_word
  word_in a c z h = pass _ _ _ _ tt (le→leb _ _ z.least) ∙ (pass _ _ _ _ tt (eq→eqb z.step) ∙ need_yes _ _ _ tt (le→leb _ _ h))

  -- every question at a word of the tree comes to what is asked there
  comes_to : {A : Type 0} (c : ℕ) (rest : Reading (Unit {0}) A) → Aligned c → c + 4 ≤ index doc → (opening doc c >>= λ _. tree_word doc c c >>= λ _. rest) tt ≡ rest tt
  comes_to c rest z h = then _ _ tt (opens c) ∙ then _ _ tt (word_in c c z h)

  body_inside : (v : Tree) (c : ℕ) → ContainerIs doc v c → c + 4 ≤ index doc
  body_inside null c h = let fits = h.0.inside in omega arith
  body_inside (bool b) c h = let fits = h.0.inside in omega arith
  body_inside (num s x) c h = let fits = h.0.inside in omega arith
  body_inside (str s) c h = let fits = h.0.inside in omega arith
  body_inside (arr ts) c h = let fits = h.0.inside in omega arith
  body_inside (obj ms) c h = let fits = h.0.inside in omega arith

  -- ---- kind and size

  kind_by_lem : (c n w : ℕ) (k : Kind) → Known k → Meta doc c k n w → Aligned c → T (ltb (kind_number k) 3) → body_words (kind_number k) n ≡ w
      → ask (kind_and_size doc c) ≡ answers (sized (kind_number k) n)
  unfolding kind_and_size kind_here body
  kind_by_lem c n w k o h z b e =
      let fits = h.inside in
      comes_to c _ z (omega arith) ∙ rw (kind_is doc c n w k o h, h.size_is, e) (pass _ _ _ _ tt b ∙ pass _ _ _ _ tt (le→leb _ _ fits))

  pub kind_answer : (c : ℕ) (u : Tree) → ContainerIs doc u c → Aligned c → ask (kind_and_size doc c) ≡ answers (sized_as u)
  unfolding body_words choose sized_as
  kind_answer c null h z = kind_by_lem c 1 1 k_scalar tt h.0 z tt refl
  kind_answer c (bool b) h z = kind_by_lem c 1 1 k_scalar tt h.0 z tt refl
  kind_answer c (num s n) h z = kind_by_lem c 1 1 k_scalar tt h.0 z tt refl
  kind_answer c (str s) h z = kind_by_lem c 1 1 k_scalar tt h.0 z tt refl
  kind_answer c (arr ts) h z = kind_by_lem c (size ts) (size ts) k_array tt h.0 z tt refl
  kind_answer c (obj ms) h z = kind_by_lem c (sizem ms) (2 * sizem ms) k_object tt h.0 z tt refl

  -- ---- element i

  elements : (c i n : ℕ) (k : Kind) → Known k → Meta doc c k n n → Aligned c → T (eqb (kind_number k) 0 || eqb (kind_number k) 2)
      → ask (element doc c i) ≡ ask (need (ltb i n) 22 c >>= λ _. answer (c + 4 + 4 * i))
  unfolding element element_here body
  elements c i n k o h z b =
      let fits = h.inside in
      comes_to c _ z (omega arith) ∙ rw (kind_is doc c n n k o h, h.size_is) (pass _ _ _ _ tt b ∙ pass _ _ _ _ tt (le→leb _ _ fits))

  pub element_answer : (c i : ℕ) (ts : Trees) → ContainerIs doc (arr ts) c → Aligned c → i < size ts → ask (element doc c i) ≡ answers (c + 4 + 4 * i)
  element_answer c i ts h z b = elements c i (size ts) k_array tt h.0 z tt ∙ pass _ _ _ _ tt (lt→ltb _ _ b)

  pub element_past : (c i : ℕ) (ts : Trees) → ContainerIs doc (arr ts) c → Aligned c → size ts ≤ i → ask (element doc c i) ≡ refuses 22 c
  element_past c i ts h z b = elements c i (size ts) k_array tt h.0 z tt ∙ fail _ _ _ _ tt (past b)

  pub element_wrong : (c i : ℕ) (ms : Members) → ContainerIs doc (obj ms) c → Aligned c → ask (element doc c i) ≡ refuses 21 c
  unfolding element element_here
  element_wrong c i ms h z =
      let fits = h.0.inside in
      comes_to c _ z (omega arith) ∙ rw (kind_is doc c _ _ k_object tt h.0) (fail _ _ _ _ tt (λ t. t))

  -- a scalar alone is element 0
  scalar_by : (c i : ℕ) → Meta doc c k_scalar 1 1 → Aligned c → ask (element doc c i) ≡ ask (need (ltb i 1) 22 c >>= λ _. answer (c + 4 + 4 * i))
  scalar_by c i h z = elements c i 1 k_scalar tt h z tt

  pub scalar_answer : (c : ℕ) (u : Tree) → NoContainer u → ContainerIs doc u c → Aligned c → ask (element doc c 0) ≡ answers (c + 4)
  scalar_answer c u n h z =
      let e : c + 4 + 4 * 0 ≡ c + 4 = omega arith in
      scalar_by c 0 (scalar_is doc u c n h).0 z ∙ rw e (pass _ _ _ _ tt tt)

  pub scalar_past : (c i : ℕ) (u : Tree) → NoContainer u → ContainerIs doc u c → Aligned c → 1 ≤ i → ask (element doc c i) ≡ refuses 22 c
  scalar_past c i u n h z b = scalar_by c i (scalar_is doc u c n h).0 z ∙ fail _ _ _ _ tt (past b)

  -- ---- objects: member j, and what both lookups begin with

  object_here_lem : (c : ℕ) (ms : Members) → ContainerIs doc (obj ms) c → Aligned c → ask (object_here doc c) ≡ answers (sizem ms)
  unfolding object_here body
  object_here_lem c ms h z =
      let fits = h.0.inside in
      then _ _ tt (word_in c c z (omega arith)) ∙ rw (kind_is doc c _ _ k_object tt h.0, h.0.size_is) (pass _ _ _ _ tt tt ∙ pass _ _ _ _ tt (le→leb _ _ fits))

  pub object_answer : {A : Type 0} (c : ℕ) (ms : Members) (rest : ℕ → Reading (Unit {0}) A) → ContainerIs doc (obj ms) c → Aligned c
      → ask (opening doc c >>= λ _. object_here doc c >>= rest) ≡ ask (rest (sizem ms))
  object_answer c ms rest h z = then _ _ tt (opens c) ∙ then _ _ tt (object_here_lem c ms h z)

  other_kind : (c : ℕ) (u : Tree) → NoObject u → ContainerIs doc u c → T (eqb (low doc c) 1) → ⊥
  other_kind c null n h = rw (kind_is doc c 1 1 k_scalar tt h.0) (λ t. t)
  other_kind c (bool b) n h = rw (kind_is doc c 1 1 k_scalar tt h.0) (λ t. t)
  other_kind c (num s x) n h = rw (kind_is doc c 1 1 k_scalar tt h.0) (λ t. t)
  other_kind c (str s) n h = rw (kind_is doc c 1 1 k_scalar tt h.0) (λ t. t)
  other_kind c (arr ts) n h = rw (kind_is doc c _ _ k_array tt h.0) (λ t. t)
  other_kind c (obj ms) n h = absurd (n ms refl)

  wrong_here : (c : ℕ) (u : Tree) → NoObject u → ContainerIs doc u c → Aligned c → ask (object_here doc c) ≡ refuses 21 c
  unfolding object_here
  wrong_here c u n h z = then _ _ tt (word_in c c z (body_inside u c h)) ∙ fail _ _ _ _ tt (other_kind c u n h)

  pub object_wrong : {A : Type 0} (c : ℕ) (u : Tree) (rest : ℕ → Reading (Unit {0}) A) → NoObject u → ContainerIs doc u c → Aligned c
      → ask (opening doc c >>= λ _. object_here doc c >>= rest) ≡ refuses 21 c
  object_wrong c u rest n h z = then _ _ tt (opens c) ∙ stops _ _ tt (wrong_here c u n h z)

  -- KeyEntry j is the offset of the slot whose text is the key of member j
  pub key_slot : (ms : Members) (j p q a : ℕ) (x : List ℕ) (v : Tree) → MembersAre doc ms p q a → MemberIs ms j x v
      → (k : ℕ) × SlotIs doc (word doc (q + 4 * j)) k × (x ≡ content doc k)
  key_slot end j p q a x v h y = absurd y
  key_slot (member w t ms) zero p q a x v h y =
      let e : q + 4 * zero ≡ q = omega arith in
      (h.0, rw e h.1, y.0 ∙ h.2)
  key_slot (member w t ms) (suc j) p q a x v h y =
      let e : q + 4 * suc j ≡ q + 4 + 4 * j = omega arith in
      rw e (key_slot ms j (word doc q) (q + 4) (a + 4) x v h.5 y)

  pub member_answer : (c j : ℕ) (ms : Members) (x : List ℕ) (v : Tree) → ContainerIs doc (obj ms) c → Aligned c → j < sizem ms → MemberIs ms j x v
      → ask (member_at doc c j) ≡ answers (record { slot = word doc (key_entry_of c j); entry = entry_of c (sizem ms) j })
  unfolding member_at member_here
  member_answer c j ms x v h z b y =
      let (k, is, e) = key_slot ms j 0 (c + 4) (c + 4 + 4 * sizem ms) x v h.1 y in
      object_answer c ms _ h z ∙ (pass _ _ _ _ tt (lt→ltb _ _ b) ∙ then _ _ tt (slot_named_lem doc tt _ _ _ k is))

  pub member_past : (c j : ℕ) (ms : Members) → ContainerIs doc (obj ms) c → Aligned c → sizem ms ≤ j → ask (member_at doc c j) ≡ refuses 22 c
  unfolding member_at member_here
  member_past c j ms h z b = object_answer c ms _ h z ∙ fail _ _ _ _ tt (past b)

  pub member_wrong : (c j : ℕ) (u : Tree) → NoObject u → ContainerIs doc u c → Aligned c → ask (member_at doc c j) ≡ refuses 21 c
  unfolding member_at member_here
  member_wrong c j u n h z = object_wrong c u _ n h z

  -- ---- slots

  abbrev pub span_of : ℕ → Span
  span_of k = record { place = text doc k; len = text doc (suc k) - 1 - text doc k }

  pub slot_read_lem : (k c : ℕ) → k < count doc → ask (slot_read doc k c) ≡ answers (span_of k)
  unfolding slot_read numbers
  slot_read_lem k c b =
      let first : slot doc (count doc) ≤ text doc k = unfold text in texts_rise k 0 (omega arith) (omega arith) in
      let up = (m.slots_good k b).forward in
      let last = texts_rise (count doc) (suc k) b (omega arith) in
      pass _ _ _ _ tt (le→leb _ _ first) ∙ (pass _ _ _ _ tt (lt→ltb _ _ up) ∙ pass _ _ _ _ tt (le→leb _ _ last))

  pub text_named_lem : (v k c : ℕ) → SlotIs doc v k → ask (text_named doc v c) ≡ answers (span_of k)
  unfolding text_named
  text_named_lem v k c is = then _ _ tt (slot_named_lem doc tt v 20 c k is) ∙ rw (slot_at_lem doc v k is) (slot_read_lem k c is.counted)

  pub span_content : (k : ℕ) → part doc (span_of k).place (span_of k).len ≡ content doc k
  unfolding content
  span_content k = refl

  pub span_inside : (k : ℕ) → k < count doc → (span_of k).place + (span_of k).len ≤ length doc
  span_inside k b =
      let up = (m.slots_good k b).forward in
      let fits = (m.slots_good k b).inside in
      omega arith

  pub slot_answer : (v k : ℕ) → SlotIs doc v k → ask (slot_text doc v) ≡ answers (span_of k)
  unfolding slot_text
  slot_answer v k is = then _ _ tt (opens v) ∙ text_named_lem v k v is

  pub slot_bytes_lem : (v k : ℕ) → SlotIs doc v k → slot_bytes doc v ≡ content doc k
  slot_bytes_lem v k is = rw (slot_answer v k is) (span_content k)

  -- ---- Entries

  known_type : (v : Tree) → T (ltb (typed_as v) 6)
  unfolding typed_as
  known_type null = tt
  known_type (bool false) = tt
  known_type (bool true) = tt
  known_type (num s x) = tt
  known_type (str s) = tt
  known_type (arr ts) = tt
  known_type (obj ms) = tt

  pub type_answer : (a : ℕ) (v : Tree) → EntryIs doc v a → Aligned a → a + 4 ≤ index doc → ask (entry_type doc a) ≡ answers (typed_as v)
  unfolding entry_type type_here
  type_answer a v h z i = comes_to a _ z i ∙ rw (typed doc a v h) (pass _ _ _ _ tt (known_type v))

  -- the container of an Entry

  pub container_named : (a : ℕ) (v : Tree) → IsContainer v → EntryIs doc v a → (type_of (low doc a) ≡ t_container) × ContainerIs doc v (high doc a)
  container_named a null n h = absurd n
  container_named a (bool b) n h = absurd n
  container_named a (num s x) n h = absurd n
  container_named a (str s) n h = absurd n
  container_named a (arr ts) n h = h
  container_named a (obj ms) n h = h

  pub container_answer : (a : ℕ) (v : Tree) → IsContainer v → EntryIs doc v a → Aligned a → a + 4 ≤ index doc → Aligned (high doc a) → ask (container_at doc a) ≡ answers (high doc a)
  unfolding container_at container_here
  container_answer a v n h z i y =
      let (e, is) = container_named a v n h in
      comes_to a _ z i ∙ (pass _ _ _ _ tt (eq→eqb (type_is doc a t_container tt e)) ∙ then _ _ tt (word_in (high doc a) a y (body_inside v (high doc a) is)))

  no_container : (v : Tree) → NoContainer v → T (eqb (typed_as v) 5) → ⊥
  unfolding typed_as
  no_container null n t = t
  no_container (bool false) n t = t
  no_container (bool true) n t = t
  no_container (num s x) n t = t
  no_container (str s) n t = t
  no_container (arr ts) n t = n tt
  no_container (obj ms) n t = n tt

  pub container_wrong : (a : ℕ) (v : Tree) → NoContainer v → EntryIs doc v a → Aligned a → a + 4 ≤ index doc → ask (container_at doc a) ≡ refuses 21 a
  unfolding container_at container_here
  container_wrong a v n h z i = comes_to a _ z i ∙ rw (typed doc a v h) (fail _ _ _ _ tt (no_container v n))

  -- the string of an Entry

  pub string_answer : (a : ℕ) (s : List ℕ) (h : EntryIs doc (str s) a) → Aligned a → a + 4 ≤ index doc → ask (string_at doc a) ≡ answers (span_of h.0)
  unfolding string_at string_here
  string_answer a s h z i = comes_to a _ z i ∙ (pass _ _ _ _ tt (eq→eqb (type_is doc a t_string tt h.1)) ∙ text_named_lem (high doc a) h.0 a h.2)

  no_string : (v : Tree) → NoString v → T (eqb (typed_as v) 3) → ⊥
  unfolding typed_as
  no_string null n t = t
  no_string (bool false) n t = t
  no_string (bool true) n t = t
  no_string (num s x) n t = t
  no_string (str s) n t = n s refl
  no_string (arr ts) n t = t
  no_string (obj ms) n t = t

  pub string_wrong : (a : ℕ) (v : Tree) → NoString v → EntryIs doc v a → Aligned a → a + 4 ≤ index doc → ask (string_at doc a) ≡ refuses 21 a
  unfolding string_at string_here
  string_wrong a v n h z i = comes_to a _ z i ∙ rw (typed doc a v h) (fail _ _ _ _ tt (no_string v n))

  -- the number of an Entry

  pub number_answer : (a : ℕ) (x : Bool) (n : ℕ) → EntryIs doc (num x n) a → Aligned a → a + 4 ≤ index doc → ask (number_at doc a) ≡ answers (number doc (high doc a) 8)
  unfolding number_at number_here
  number_answer a x n h z i =
      comes_to a _ z i ∙ (pass _ _ _ _ tt (eq→eqb (type_is doc a t_number tt h.1)) ∙ then _ _ tt (number_named_lem doc tt (high doc a) 20 a h.0 h.2 h.3))

  no_number : (v : Tree) → NoNumber v → T (eqb (typed_as v) 4) → ⊥
  unfolding typed_as
  no_number null n t = t
  no_number (bool false) n t = t
  no_number (bool true) n t = t
  no_number (num s x) n t = n s x refl
  no_number (str s) n t = t
  no_number (arr ts) n t = t
  no_number (obj ms) n t = t

  pub number_wrong : (a : ℕ) (v : Tree) → NoNumber v → EntryIs doc v a → Aligned a → a + 4 ≤ index doc → ask (number_at doc a) ≡ refuses 21 a
  unfolding number_at number_here
  number_wrong a v n h z i = comes_to a _ z i ∙ rw (typed doc a v h) (fail _ _ _ _ tt (no_number v n))
