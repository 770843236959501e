-- The demands on Fractured JSON, each theorem under the words that it answers. "Document" reads "document and key list".
use Prim.Native.Nat.{ℕ, ◌+◌, ◌*◌, ◌/◌, ◌≤◌, ◌<◌, max, min}
use mathlib.Core.Bool.{Bool}
use mathlib.Core.List.{List, []}
use mathlib.Core.Logic.{◌↔◌}
use mathlib.Core.Path.{◌≡◌, refl, sym, ap, ◌∙◌, subst}
use native.Mathlib.Omega.{arith}
use lib.Dec.{eqb_refl, leb→le, lt→ltb, ltb→lt}
use lib.ListN.{length, get_or}
use Rattle.json_model.specs.Bytes.{Bytes, number, part}
use Rattle.json_model.specs.Limits.{longest, deepest, most_keys}
use Rattle.json_model.specs.Reading.{Outcome, halt, done, Reading, Asked, ask, answers, refuses, ◌>>◌, kept_of}
use Rattle.json_model.specs.Tree.{Tree, num, str, arr, obj, Trees, Members, size, sizem, depth, ElementIs, MemberIs, Lacks, NoNumber, NoString, NoArray, NoObject, Subtree}
use Rattle.json_model.proofs.Reading.{halt≢done, done_answer, past, step, passed, then, stops, pass, fail, need_yes}
use Rattle.json_model.proofs.Tree.{element_at_lem, member_at_lem, element_below, member_below, subtree_depth}
use Rattle.fractured_json_rules.specs.ByteTables.{KeyForm, immediate, back_reference, global_index, k_reserved}
use Rattle.fractured_json_rules.specs.Meaning.{Names, Lists, no_key, Keys, after_length, Means}
use Rattle.fractured_json_rules.specs.Verdict.{Numeral, numeral, key_by, listed_key, check_key, document, check, verdict}
use Rattle.fractured_json_rules.specs.KeyList.{count_in, key_list, no_names, name_of}
use Rattle.fractured_json_rules.specs.KeyTable.{room_of, key_of, checked}
use Rattle.fractured_json_rules.specs.TreeOf.{tree_of, length_in, key_end}
use Rattle.fractured_json_rules.specs.Leads.{element_place, key_place, Leads, element, value, StandsFor}
use Rattle.fractured_json_rules.specs.Questions.{opening, the_list, KeyRead, lent, text_key, back_key, name_key, read_key, pass_key, end_of, kind, number_at, string_at, string_here, string_bytes, element_from, element_at, element_here, MemberAt}
use Rattle.fractured_json_rules.specs.Questions.{member_from, member_at, member_here, Found, value_at, absent, first_member, first_here, key_at, key_bytes}
use Rattle.fractured_json_rules.specs.Answers.{kind_of, value_of}
use Rattle.fractured_json_rules.proofs.Examples as Rows
use Rattle.fractured_json_theorems.proofs.KeyList.{list_step, list_is, name_is}
use Rattle.fractured_json_theorems.proofs.Sound.{sound}
use Rattle.fractured_json_theorems.proofs.Complete.{key_passes}
use Rattle.fractured_json_theorems.proofs.Keys.{first_all, first_trans, first_length, grows, keys_inside}
use Rattle.fractured_json_theorems.proofs.KeyTable.{passed_room, room_words, stored_length, stored_pair, stored_other}
use Rattle.fractured_json_theorems.proofs.Trees.{length_in_lem, tree_at_lem}
use Rattle.fractured_json_theorems.proofs.Nodes as Nodes
use Rattle.fractured_json_theorems.proofs.Nodes.{element_node, MemberStands, member_value, member_node}
use Rattle.fractured_json_theorems.proofs.Readers.{header_is, byte_step, text_step, key_number_step}
use Rattle.fractured_json_theorems.proofs.Walk.{walks}
use Rattle.fractured_json_theorems.proofs.Answers.{Holds, KeyAnswer, reads_key, walks_value, walks_to_element, walks_to_member, Lookup, hit, miss, finds}
use Rattle.fractured_json_theorems.proofs.Questions.{opening_is, kind_is, number_is_lem, string_is, no_number, no_string, no_array, no_object, array_length, object_length}

-- a longer document than the longest is refused at its length, with every key list
pub too_long : (room : ℕ) (doc list : List ℕ) (names : Names) → Lists list names → longest < length doc → verdict room doc list ≡ halt 32 (length doc) []
too_long room doc list names l h = Rows.too_long room doc list (list_is list names [] l) h

-- ---- Demand 2: a document is accepted exactly if it keeps the format's rules, with room for its keys in the table lent.

pub accepted_keys : (room : ℕ) (doc list : List ℕ) (t : Tree) (m : Means doc list t) → length m.keys ≤ room → verdict room doc list ≡ done tt m.keys
unfolding check document
accepted_keys room doc list t m r =
    then _ _ [] (list_is list m.names [] m.listed)
    ∙ (then _ _ [] (header_is doc [] m.headed)
    ∙ rw (← m.listed.count) (then _ _ [] (walks doc m.names (check_key room doc (length m.names)) m.keys (λ ks. ks)
    (λ k o ks e kz h g. let less = first_length g in key_passes room doc m.names k o ks e kz h (omega arith))
    t deepest 3 [] (length doc) m.keys m.root (first_all m.keys) m.nested)
    ∙ need_yes _ _ _ m.keys (eqb_refl (length doc))))

accepted_means : (room : ℕ) (doc list : List ℕ) (ks : Keys) → verdict room doc list ≡ done tt ks → (t : Tree) × (m : Means doc list t) × (length m.keys ≤ room)
accepted_means room doc list ks e =
    let (t, m, same) = sound room doc list ks e in
    let fits : length (kept_of (verdict room doc list)) ≤ room = passed_room room doc list in
    (t, m, rw same (subst (λ (r : Outcome Keys (Unit {0})). length (kept_of r) ≤ room) e fits))

pub accepted_exactly : (room : ℕ) (doc list : List ℕ) → ((ks : Keys) × (verdict room doc list ≡ done tt ks)) ↔ ((t : Tree) × (m : Means doc list t) × (length m.keys ≤ room))
accepted_exactly room doc list = (λ a. accepted_means room doc list a.0 a.1, λ b. (b.1.keys, accepted_keys room doc list b.0 b.1 b.2))

-- ---- Each accepted document means one tree.

pub tree_of_lem : (room : ℕ) (doc list : List ℕ) (t : Tree) (m : Means doc list t) → length m.keys ≤ room → tree_of room doc list ≡ t
unfolding tree_of
tree_of_lem room doc list t m r = rw (accepted_keys room doc list t m r) (tree_at_lem doc m.names list m.listed m.keys t deepest 3 [] (length doc) m.keys m.root (first_all m.keys) m.nested)

pub one_tree : (doc list : List ℕ) (t u : Tree) → Means doc list t → Means doc list u → t ≡ u
one_tree doc list t u m n =
    let room = length m.keys + length n.keys in
    sym (tree_of_lem room doc list t m (omega arith)) ∙ tree_of_lem room doc list u n (omega arith)

-- ---- A bad key list refuses every question with its own number and place.

module _ (doc list : List ℕ) (c n p : ℕ) (e : ask (key_list list) ≡ refuses n p) where
  bad_opening : ask (opening doc list c) ≡ refuses n p
  unfolding opening
  bad_opening = stops _ _ tt e

  pub bad_list_kind : ask (kind doc list c) ≡ refuses n p
  unfolding kind
  bad_list_kind = stops _ _ tt bad_opening

  pub bad_list_number : ask (number_at doc list c) ≡ refuses n p
  unfolding number_at
  bad_list_number = stops _ _ tt bad_opening

  pub bad_list_string : (ask (string_at doc list c) ≡ refuses n p) × (string_bytes doc list c ≡ [])
  unfolding string_at
  bad_list_string = let r = stops _ _ tt bad_opening in (r, rw r)

  module _ (words : List ℕ) (count : ℕ) where
    pub bad_list_end : ask (end_of doc list words count c) ≡ refuses n p
    unfolding end_of
    bad_list_end = stops _ _ tt bad_opening

    pub bad_list_element : (i : ℕ) → ask (element_at doc list words count c i) ≡ refuses n p
    unfolding element_at
    bad_list_element i = stops _ _ tt bad_opening

    pub bad_list_member : (j : ℕ) → ask (member_at doc list words count c j) ≡ refuses n p
    unfolding member_at
    bad_list_member j = stops _ _ tt bad_opening

    pub bad_list_first_member : (x : List ℕ) → ask (first_member doc list words count c x) ≡ refuses n p
    unfolding first_member
    bad_list_first_member x = stops _ _ tt bad_opening

    pub bad_list_key : (ask (key_at doc list words count c) ≡ refuses n p) × (key_bytes doc list words count c ≡ [])
    unfolding key_at
    bad_list_key = let r = stops _ _ tt bad_opening in (r, rw r)

-- ---- A key that is answered lies inside the bytes of its lender, in documents that nobody has checked too.

module _ (doc list words : List ℕ) (count : ℕ) (k : KeyRead) where
  abbrev KeyInside : KeyRead → Type 0
  KeyInside r = r.place + r.len ≤ length (lent doc list r.lender)

  inside_by : (names : Names) → Lists list names → (o : ℕ) (f : KeyForm) → ask (key_by doc o (text_key doc o) (back_key doc words count o) (name_key list o) f) ≡ answers k → KeyInside k
  unfolding key_by text_key back_key name_key
  inside_by names l o (immediate x) e =
      let (n, b, ix, e0) = key_number_step doc o x _ tt e in
      let (fits, e1) = text_step doc o (numeral n b) _ tt e0 in
      subst KeyInside (done_answer e1) fits
  inside_by names l o (back_reference x) e =
      let (n, b, ix, e0) = key_number_step doc o x _ tt e in
      let s1 = passed _ _ _ _ tt e0 in
      let s2 = passed _ _ _ _ tt s1.rest in
      let s3 = passed _ _ _ _ tt s2.rest in
      subst KeyInside (done_answer s3.rest) (leb→le _ _ s3.test)
  inside_by names l o (global_index x) e =
      let (n, b, ix, e0) = key_number_step doc o x _ tt e in
      let s1 = passed _ _ _ _ tt e0 in
      let c = l.count in
      let under = ltb→lt n (count_in list) s1.test in
      subst KeyInside (done_answer s1.rest) (name_is list names l n (omega arith)).1
  inside_by names l o k_reserved e = absurd (halt≢done e)

  pub key_inside : (c : ℕ) → ask (key_at doc list words count c) ≡ answers k → k.place + k.len ≤ length (lent doc list k.lender)
  unfolding key_at opening read_key
  key_inside c e =
      let s = step _ _ tt e in
      let ((names, l), rest) = list_step list _ tt s.first in
      let (i, e1) = byte_step doc c c _ tt s.rest in
      inside_by names l c _ e1

-- ---- 38 for a global index is given exactly if the index is not under the count; so a key list of count 0 means what no list
-- meant. In the check, and in the questions.

pub index_found : (names o : ℕ) (n : Numeral) (ks : Keys) → n.is < names → listed_key names o n ks ≡ done n.past ks
unfolding listed_key
index_found names o n ks h = pass _ _ _ _ ks (lt→ltb _ _ h)

pub index_not_found : (names o : ℕ) (n : Numeral) (ks : Keys) → names ≤ n.is → listed_key names o n ks ≡ halt 38 o ks
unfolding listed_key
index_not_found names o n ks h = fail _ _ _ _ ks (past h)

pub name_found : (list : List ℕ) (o : ℕ) (n : Numeral) → n.is < count_in list
    → ask (name_key list o n) ≡ answers (record { lender = the_list; place = (name_of list n.is).start; len = (name_of list n.is).len; past = n.past })
unfolding name_key
name_found list o n h = pass _ _ _ _ tt (lt→ltb _ _ h)

pub name_not_found : (list : List ℕ) (o : ℕ) (n : Numeral) → count_in list ≤ n.is → ask (name_key list o n) ≡ refuses 38 o
unfolding name_key
name_not_found list o n h = fail _ _ _ _ tt (past h)

pub no_name_found : (o : ℕ) (n : Numeral) (ks : Keys) → (listed_key 0 o n ks ≡ halt 38 o ks) × (ask (name_key no_names o n) ≡ refuses 38 o)
unfolding number
no_name_found o n ks = (index_not_found 0 o n ks (omega arith), name_not_found no_names o n (omega arith))

-- ---- In the key table, each immediate key passed before the end or the refusal has its pair; all other words keep what
-- they held. Beside its verdict the check gives the number of those pairs.

pub record TableKept (doc list words : List ℕ) : Type 0 where
  pub bounded : (checked doc list words).count ≤ room_of words
  pub as_long : length (checked doc list words).words ≡ length words
  pub each_pair : (j : ℕ) → j < (checked doc list words).count → key_of (checked doc list words).words j ≡ get_or (kept_of (verdict (room_of words) doc list)) j no_key
  pub all_others : (i : ℕ) → 2 * (checked doc list words).count ≤ i → get_or (checked doc list words).words i 0 ≡ get_or words i 0

pub table_kept : (doc list words : List ℕ) → TableKept doc list words
table_kept doc list words =
    let ks = kept_of (verdict (room_of words) doc list) in
    let fits = passed_room (room_of words) doc list in
    let room = room_words words (length ks) fits in
    record {
      bounded = fits;
      as_long = stored_length ks words room;
      each_pair = λ j h. stored_pair ks words j h;
      all_others = λ i h. stored_other ks words i h;
    }

-- ---- Every value that the root leads to stands for one subtree of the document's tree.

pub node : (doc list : List ℕ) (t : Tree) (m : Means doc list t) {o : ℕ} → Leads doc o → (u : Tree) × StandsFor doc m.names m.keys o u × Subtree t u
node doc list t m l = let n = Nodes.node doc list t m l in (n.tree, n.stands, n.below)

pub node_one : (doc list : List ℕ) (names : Names) → Lists list names → (ks : Keys) (o : ℕ) (u v : Tree) → StandsFor doc names ks o u → StandsFor doc names ks o v → u ≡ v
node_one doc list names listed ks o u v s r =
    sym (tree_at_lem doc names list listed ks u (max (depth u) (depth v)) o _ _ _ s.value s.first (omega arith))
    ∙ tree_at_lem doc names list listed ks v (max (depth u) (depth v)) o _ _ _ r.value r.first (omega arith)

-- ---- Every question put to a node that its root leads to, with the key table and count its own check gave, is answered
-- from that tree.

-- the answer r is p, the place of element i of ts, which the root leads to
pub record ElementAnswer (doc : List ℕ) (names : Names) (ks : Keys) (ts : Trees) (i p : ℕ) (r : Asked ℕ) : Type 0 where
  pub tree : Tree
  pub answered : r ≡ answers p
  pub led_to : Leads doc p
  pub stands : StandsFor doc names ks p tree
  pub is_element : ElementIs ts i tree

-- the answer r is the places of the key byte, q, and of the value, p, of member j of ms; asked for at its key byte, the
-- key's text is the member's, and its end is where the value stands
pub record MemberAnswer (doc list : List ℕ) (names : Names) (ks : Keys) (words : List ℕ) (count : ℕ) (ms : Members) (j q p : ℕ) (r : Asked MemberAt) : Type 0 where
  pub key : List ℕ
  pub tree : Tree
  pub answered : r ≡ answers (record { key = q; value = p })
  pub key_read : KeyAnswer doc list key p (ask (key_at doc list words count q))
  pub led_to : Leads doc p
  pub stands : StandsFor doc names ks p tree
  pub is_member : MemberIs ms j key tree

-- asked for the second way, it is the key's text itself
pub key_bytes_lem : (doc list words : List ℕ) (count c : ℕ) (t : List ℕ) (e : ℕ) → KeyAnswer doc list t e (ask (key_at doc list words count c)) → key_bytes doc list words count c ≡ t
key_bytes_lem doc list words count c t e k = rw k.answered k.text

-- the answer r is the place of the value of the first member of ms with the key x, or absent where no member has it;
-- the value of member j stands at `p j`
pub data FirstMemberAnswer (doc : List ℕ) (names : Names) (ks : Keys) (ms : Members) (x : List ℕ) (p : ℕ → ℕ) (r : Asked Found) : Type 0 where
  first : (j : ℕ) (v : Tree) → MemberIs ms j x v → ((i : ℕ) (w : Tree) → i < j → MemberIs ms i x w → ⊥)
      → Leads doc (p j) → StandsFor doc names ks (p j) v → r ≡ answers (value_at (p j)) → FirstMemberAnswer doc names ks ms x p r
  none : Lacks ms x → r ≡ answers absent → FirstMemberAnswer doc names ks ms x p r

module _ (doc list : List ℕ) (t : Tree) (m : Means doc list t) {o : ℕ} (l : Leads doc o) where
  below : (u : Tree) → StandsFor doc m.names m.keys o u → (3 ≤ o) × Subtree t u
  below u s =
      let n = Nodes.node doc list t m l in
      (n.after_header, subst (λ (v : Tree). Subtree t v) (node_one doc list m.names m.listed m.keys o n.tree u n.stands s) n.below)

  -- every question put there passes the opening
  opens : {A : Type 0} (rest : Reading (Unit {0}) A) → ask (opening doc list o >> rest) ≡ ask rest
  opens rest = then _ _ tt (opening_is doc m.names list m.listed m.headed o (Nodes.node doc list t m l).after_header)

  -- element i stands at its place, and member j: its key byte, and its value after the key
  pub element_led : (ts : Trees) (i : ℕ) (v : Tree) (s : StandsFor doc m.names m.keys o (arr ts)) → ElementIs ts i v
      → Leads doc (element_place doc o s.value.0 i) × StandsFor doc m.names m.keys (element_place doc o s.value.0 i) v
  element_led ts i v s is =
      let (b, sub) = below (arr ts) s in
      let x = s.value.0 in
      let form = s.value.1.form_is in
      let len : length_in doc o x ≡ size ts = length_in_lem doc o x (size ts) s.value.2 in
      let h = element_below ts i v is in
      (element o x i l form (omega arith), (element_node doc list t m o ts s x i v b sub form is).1)

  pub member_led : (ms : Members) (j : ℕ) (k : List ℕ) (v : Tree) (s : StandsFor doc m.names m.keys o (obj ms)) → MemberIs ms j k v
      → (3 ≤ key_place doc o s.value.0 j) × MemberStands doc m.names m.keys (key_place doc o s.value.0 j) k v × Leads doc (key_end doc (key_place doc o s.value.0 j))
  member_led ms j k v s is =
      let (b, sub) = below (obj ms) s in
      let x = s.value.0 in
      let form = s.value.1.form_is in
      let len : length_in doc o x ≡ sizem ms = length_in_lem doc o x (sizem ms) s.value.2 in
      let h = member_below ms j k v is in
      let (on, r) = member_node doc list t m o ms s x j k v b sub form is in
      (on, r, value o x j l form (omega arith))

  pub kind_answer : (u : Tree) → StandsFor doc m.names m.keys o u → ask (kind doc list o) ≡ answers (kind_of u)
  unfolding kind
  kind_answer u s = opens _ ∙ kind_is doc m.names u o _ _ _ s.value

  -- the type byte is the byte at o; `Bytes doc` says that each item of the document is a byte, as of every lent `&[u8]`
  pub number_answer : Bytes doc → (s : Bool) (k : ℕ) → StandsFor doc m.names m.keys o (num s k)
      → (bits : ℕ) × (ask (number_at doc list o) ≡ answers (record { type = get_or doc o 0; bits = bits })) × (value_of (record { type = get_or doc o 0; bits = bits }) ≡ num s k)
  unfolding number_at
  number_answer bytes s k n = let (b, e, v) = number_is_lem doc m.names bytes s k o _ _ _ n.value in (b, opens _ ∙ e, v)

  pub number_wrong : (u : Tree) → StandsFor doc m.names m.keys o u → NoNumber u → ask (number_at doc list o) ≡ refuses 21 o
  unfolding number_at
  number_wrong u s n = opens _ ∙ no_number doc m.names u o _ _ _ s.value n

  -- the length is the text's, and the text ends where the value does
  pub string_answer : (x : List ℕ) (s : StandsFor doc m.names m.keys o (str x))
      → (p : ℕ) × (ask (string_at doc list o) ≡ answers (record { place = p; len = length x })) × (part doc p (length x) ≡ x) × (p + length x ≡ s.past)
  unfolding string_at
  string_answer x s = let (p, e, v, past) = string_is doc m.names o x _ _ _ s.value in (p, opens _ ∙ e, v, past)

  pub string_bytes_lem : (x : List ℕ) → StandsFor doc m.names m.keys o (str x) → string_bytes doc list o ≡ x
  string_bytes_lem x s = let (p, e, v, past) = string_answer x s in rw e v

  pub string_wrong : (u : Tree) → StandsFor doc m.names m.keys o u → NoString u → ask (string_at doc list o) ≡ refuses 21 o
  unfolding string_at string_here
  string_wrong u s n = opens _ ∙ stops _ _ tt (no_string doc m.names o u _ _ _ s.value n)

  pub string_bytes_wrong : (u : Tree) → StandsFor doc m.names m.keys o u → NoString u → string_bytes doc list o ≡ []
  string_bytes_wrong u s n = rw (string_wrong u s n)

-- with any words lent that have room for the keys
module _ (doc list : List ℕ) (t : Tree) (m : Means doc list t) (words : List ℕ) (roomy : length m.keys ≤ room_of words) where
  holds : Holds doc m.keys (checked doc list words).words (checked doc list words).count
  unfolding room_of
  holds =
      let ks = m.keys in
      let room = room_words words (length ks) roomy in
      let long = stored_length ks words room in
      rw (accepted_keys (room_of words) doc list t m roomy) (record {
        counts = refl;
        roomy = subst (λ (n : ℕ). length ks ≤ min most_keys (n / 2)) (sym long) roomy;
        pair = λ j h. stored_pair ks words j h;
        inside = keys_inside doc m.names t _ _ _ _ m.root tt;
      })

  module _ {o : ℕ} (l : Leads doc o) where
    pub end_answer : (u : Tree) (s : StandsFor doc m.names m.keys o u) → ask (end_of doc list (checked doc list words).words (checked doc list words).count o) ≡ answers s.past
    unfolding end_of
    end_answer u s =
        let (b, sub) = below doc list t m l u s in
        let d = subtree_depth t sub in
        let n = m.nested in
        opens doc list t m l _ ∙ walks_value doc list m.names m.listed m.keys _ _ holds u deepest o _ _ _ s.value s.first (omega arith)

    -- ---- element i

    pub element_answer : (ts : Trees) (i : ℕ) (s : StandsFor doc m.names m.keys o (arr ts)) → i < size ts
        → ElementAnswer doc m.names m.keys ts i (element_place doc o s.value.0 i) (ask (element_at doc list (checked doc list words).words (checked doc list words).count o i))
    unfolding element_at element_here element_from
    element_answer ts i s h =
        let d = subtree_depth t (below doc list t m l (arr ts) s).1 in
        let n = m.nested in
        let (v, is) = element_at_lem ts i h in
        let (led, stands) = element_led doc list t m l ts i v s is in
        record {
          tree = v;
          answered =
              opens doc list t m l _ ∙ (then _ _ tt (array_length doc m.names o ts _ _ _ s.value)
              ∙ (pass _ _ _ _ tt (lt→ltb _ _ h) ∙ walks_to_element doc list m.names m.listed m.keys _ _ holds ts i _ _ _ _ s.value.3 s.first (omega arith) h));
          led_to = led;
          stands = stands;
          is_element = is;
        }

    pub element_past : (ts : Trees) (i : ℕ) → StandsFor doc m.names m.keys o (arr ts) → size ts ≤ i
        → ask (element_at doc list (checked doc list words).words (checked doc list words).count o i) ≡ refuses 22 o
    unfolding element_at element_here element_from
    element_past ts i s h =
        opens doc list t m l _ ∙ (then _ _ tt (array_length doc m.names o ts _ _ _ s.value) ∙ fail _ _ _ _ tt (past h))

    pub element_wrong : (u : Tree) (i : ℕ) → StandsFor doc m.names m.keys o u → NoArray u
        → ask (element_at doc list (checked doc list words).words (checked doc list words).count o i) ≡ refuses 21 o
    unfolding element_at element_here
    element_wrong u i s n = opens doc list t m l _ ∙ stops _ _ tt (no_array doc m.names o u _ _ _ s.value n)

    -- ---- member j

    pub member_answer : (ms : Members) (j : ℕ) (s : StandsFor doc m.names m.keys o (obj ms)) → j < sizem ms
        → MemberAnswer doc list m.names m.keys (checked doc list words).words (checked doc list words).count ms j (key_place doc o s.value.0 j) (key_end doc (key_place doc o s.value.0 j))
        (ask (member_at doc list (checked doc list words).words (checked doc list words).count o j))
    unfolding member_at member_here member_from pass_key key_at
    member_answer ms j s h =
        let d = subtree_depth t (below doc list t m l (obj ms) s).1 in
        let n = m.nested in
        let q = key_place doc o s.value.0 j in
        let (k, v, is) = member_at_lem ms j h in
        let (on, r, led) = member_led doc list t m l ms j k v s is in
        let read = reads_key doc list m.names m.listed m.keys _ _ holds k q _ _ _ r.key_is_lem (first_trans (grows doc m.names v _ _ _ _ r.value_is) r.first) in
        record {
          key = k;
          tree = v;
          answered =
              opens doc list t m l _ ∙ (then _ _ tt (object_length doc m.names o ms _ _ _ s.value)
              ∙ (pass _ _ _ _ tt (lt→ltb _ _ h) ∙ (then _ _ tt (walks_to_member doc list m.names m.listed m.keys _ _ holds ms j _ _ _ _ s.value.3 s.first (omega arith) h)
              ∙ (then _ _ tt (then _ _ tt read.answered) ∙ ap (λ p. answers (record { key = q; value = p })) read.ends))));
          key_read = record {
            read = read.read;
            answered = then _ _ tt (opening_is doc m.names list m.listed m.headed _ on) ∙ read.answered;
            inside = read.inside;
            text = read.text;
            ends = read.ends;
          };
          led_to = led;
          stands = member_value doc m.names r;
          is_member = is;
        }

    pub member_past : (ms : Members) (j : ℕ) → StandsFor doc m.names m.keys o (obj ms) → sizem ms ≤ j
        → ask (member_at doc list (checked doc list words).words (checked doc list words).count o j) ≡ refuses 22 o
    unfolding member_at member_here member_from
    member_past ms j s h =
        opens doc list t m l _ ∙ (then _ _ tt (object_length doc m.names o ms _ _ _ s.value) ∙ fail _ _ _ _ tt (past h))

    pub member_wrong : (u : Tree) (j : ℕ) → StandsFor doc m.names m.keys o u → NoObject u
        → ask (member_at doc list (checked doc list words).words (checked doc list words).count o j) ≡ refuses 21 o
    unfolding member_at member_here
    member_wrong u j s n = opens doc list t m l _ ∙ stops _ _ tt (no_object doc m.names o u _ _ _ s.value n)

    -- ---- the first member by key

    pub first_member_answer : (ms : Members) (x : List ℕ) (s : StandsFor doc m.names m.keys o (obj ms))
        → FirstMemberAnswer doc m.names m.keys ms x (λ j. key_end doc (key_place doc o s.value.0 j)) (ask (first_member doc list (checked doc list words).words (checked doc list words).count o x))
    unfolding first_member first_here
    first_member_answer ms x s =
        let d = subtree_depth t (below doc list t m l (obj ms) s).1 in
        let n = m.nested in
        let begins = opens doc list t m l _ ∙ then _ _ tt (object_length doc m.names o ms _ _ _ s.value) in
        led begins (finds doc list m.names m.listed m.keys _ _ holds x ms (after_length o s.value.0) _ _ _ s.value.3 s.first (omega arith))
      where
        led : {r q : Asked Found} → r ≡ q → Lookup doc list m.names m.listed m.keys (checked doc list words).words (checked doc list words).count holds x ms (after_length o s.value.0) q
            → FirstMemberAnswer doc m.names m.keys ms x (λ j. key_end doc (key_place doc o s.value.0 j)) r
        led begins (hit j v is earlier e) = let (on, r, to) = member_led doc list t m l ms j x v s is in first j v is earlier to (member_value doc m.names r) (begins ∙ e)
        led begins (miss lacks e) = none lacks (begins ∙ e)

    pub first_member_wrong : (u : Tree) (x : List ℕ) → StandsFor doc m.names m.keys o u → NoObject u
        → ask (first_member doc list (checked doc list words).words (checked doc list words).count o x) ≡ refuses 21 o
    unfolding first_member first_here
    first_member_wrong u x s n = opens doc list t m l _ ∙ stops _ _ tt (no_object doc m.names o u _ _ _ s.value n)
