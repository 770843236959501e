-- The demands on Fractured JSON, of the code's own answers. Each takes the equation that a call's contract ensures, and says of
-- the answer what the theorems over the rules say of the rule. "Document" reads "document and key list".
use Prim.Native.Nat.{ℕ, ◌+◌, ◌*◌, ◌≤◌, ◌<◌}
use mathlib.Core.Bool.{Bool, true, false}
use mathlib.Core.List.{List, []}
use mathlib.Core.Logic.{◌↔◌}
use mathlib.Core.Path.{◌≡◌, refl, sym, ap, ◌∙◌}
use lib.ListN.{length, get_or}
use Rattle.json_model.specs.Bytes.{Bytes, part}
use Rattle.json_model.specs.Reading.{Outcome, halt, done, Asked, ask, answers, refuses, told_by, told, kept_of}
use Rattle.json_model.specs.declared.Span.{Span}
use Rattle.json_model.specs.Tree.{Tree, null, bool, num, str, arr, obj, Trees, Members, size, sizem, ElementIs, MemberIs, Lacks, NoNumber, NoString, NoArray, NoObject}
use Rattle.json_model.specs.declared.Refusal.{Refusal}
use Rattle.std.specs.Prelude.{Option, Some, None, Result, Ok, Err}
use Rattle.json_model.proofs.Cases.{refusal, verdict_is, verdict_is_lem, answered_exactly}
use Rattle.json_model.proofs.Reading.{halt≢done}
use Rattle.fractured_json_rules.specs.Meaning.{Names, Lists, no_key, Keys, Means}
use Rattle.fractured_json_rules.specs.KeyList.{key_list}
use Rattle.fractured_json_rules.specs.Verdict.{verdict}
use Rattle.fractured_json_rules.specs.KeyTable.{room_of, key_of, checked_by, checked}
use Rattle.fractured_json_rules.specs.Leads.{Leads, StandsFor}
use Rattle.fractured_json_rules.specs.Questions.{Lender, the_document, the_list, KeyRead, lent, end_of, kind, number_at, string_at, string_bytes, element_at, member_at, first_member, key_at, key_bytes}
use Rattle.fractured_json_rules.specs.Questions as Questions
use Rattle.fractured_json_rules.specs.Answers.{kind_of, value_of}
use Rattle.fractured_json_theorems.proofs.KeyList.{list_exactly}
use Rattle.fractured_json_theorems.proofs.Answers.{KeyAnswer}
use Rattle.fractured_json_theorems.proofs.Demands as Rules
use Rattle.fractured_json_check.specs.Told.{told_checked}
use Rattle.fractured_json_check.proofs.Checks.{bad_list}
use Rattle.fractured_json_answers.specs.Told.{told_place, kind_of as kind_says, told_kind, told_number, told_text, told_member, found_of, told_found, key_of as key_says, told_key}
use Rattle.fractured_json_check.specs.declared.answers.Checked.{Checked}
use Rattle.fractured_json_answers.specs.declared.Kind.{Kind}
use Rattle.fractured_json_answers.specs.declared.Number.{Number}
use Rattle.fractured_json_answers.specs.declared.Member.{Member}
use Rattle.fractured_json_answers.specs.declared.Key.{Key}

-- ---- the answer, from what it says

module _ {T A : Type 0} (says : T → A) (back : A → T) (same : (t : T) → back (says t) ≡ t) where
  abbrev answer_is : Asked A → Result T Refusal
  answer_is (halt n p u) = Err (refusal n p)
  answer_is (done a u) = Ok (back a)

  answer_is_lem : (r : Result T Refusal) → answer_is (told_by says r) ≡ r
  answer_is_lem (Ok t) = ap Ok (same t)
  answer_is_lem (Err r) = refl

  -- refused exactly if the rule is
  refused_exactly : {q : Asked A} (r : Result T Refusal) → told_by says r ≡ q → (n p : ℕ) → (r ≡ Err (refusal n p)) ↔ (q ≡ refuses n p)
  refused_exactly r e n p = answered_exactly (told_by says) answer_is answer_is_lem r e (Err (refusal n p))

  -- what the rule answers
  answered : {q : Asked A} (r : Result T Refusal) → told_by says r ≡ q → (a : A) → q ≡ answers a → r ≡ Ok (back a)
  answered r e a h = sym (answer_is_lem r) ∙ ap answer_is (e ∙ h)

  -- and what it refuses
  refused : {q : Asked A} (r : Result T Refusal) → told_by says r ≡ q → (n p : ℕ) → q ≡ refuses n p → r ≡ Err (refusal n p)
  refused r e n p h = (refused_exactly r e n p).1 h

abbrev kind_is : Questions.Kind → Kind
kind_is Questions.is_null = Kind.Null
kind_is Questions.is_false = Kind.False
kind_is Questions.is_true = Kind.True
kind_is Questions.is_number = Kind.Number
kind_is (Questions.is_string n) = Kind.String n
kind_is (Questions.is_object n) = Kind.Object n
kind_is (Questions.is_array n) = Kind.Array n

kind_is_lem : (k : Kind) → kind_is (kind_says k) ≡ k
kind_is_lem Kind.Null = refl
kind_is_lem Kind.False = refl
kind_is_lem Kind.True = refl
kind_is_lem Kind.Number = refl
kind_is_lem (Kind.String n) = refl
kind_is_lem (Kind.Object n) = refl
kind_is_lem (Kind.Array n) = refl

abbrev number_is : Questions.Bits → Number
number_is b = record { type_byte = b.type; bits = b.bits }

abbrev member_is : Questions.MemberAt → Member
member_is m = record { key = m.key; value = m.value }

abbrev found_is : Questions.Found → Option ℕ
found_is (Questions.value_at o) = Some o
found_is Questions.absent = None

found_is_lem : (o : Option ℕ) → found_is (found_of o) ≡ o
found_is_lem (Some o) = refl
found_is_lem None = refl

-- a key by its lender
abbrev pub key_by : Lender → ℕ → ℕ → ℕ → Key
key_by the_document place len past = Key.Document place len past
key_by the_list place len past = Key.List place len past

abbrev pub key_case : KeyRead → Key
key_case k = key_by k.lender k.place k.len k.past

key_told_by : (l : Lender) (p n e : ℕ) → key_says (key_by l p n e) ≡ record { lender = l; place = p; len = n; past = e }
key_told_by the_document p n e = refl
key_told_by the_list p n e = refl

told_case : (k : KeyRead) → told_key (Ok (key_case k)) ≡ answers k
told_case k = ap answers (key_told_by k.lender k.place k.len k.past)

key_case_lem : (k : Key) → key_case (key_says k) ≡ k
key_case_lem (Key.Document p n e) = refl
key_case_lem (Key.List p n e) = refl

-- what a tree says to the question for its kind
abbrev pub kind_case : Tree → Kind
kind_case null = Kind.Null
kind_case (bool false) = Kind.False
kind_case (bool true) = Kind.True
kind_case (num s m) = Kind.Number
kind_case (str t) = Kind.String (length t)
kind_case (obj ms) = Kind.Object (sizem ms)
kind_case (arr ts) = Kind.Array (size ts)

kind_case_lem : (u : Tree) → kind_is (kind_of u) ≡ kind_case u
unfolding kind_of
kind_case_lem null = refl
kind_case_lem (bool false) = refl
kind_case_lem (bool true) = refl
kind_case_lem (num s m) = refl
kind_case_lem (str t) = refl
kind_case_lem (obj ms) = refl
kind_case_lem (arr ts) = refl

-- ---- A key list is accepted by `check_list` exactly if it keeps the rules, and refused with the number and place that request L1
-- fixes.

module _ (list : List ℕ) (r : Result (Unit {0}) Refusal) (contract : told r ≡ ask (key_list list)) where
  pub list_accepted : (r ≡ Ok tt) ↔ ((names : Names) × Lists list names)
  list_accepted = (
    λ a. (list_exactly list).0 (sym contract ∙ ap told a),
    λ b. sym (verdict_is_lem r) ∙ ap verdict_is (contract ∙ (list_exactly list).1 b),
  )

  pub list_refused : (n p : ℕ) → (r ≡ Err (refusal n p)) ↔ (ask (key_list list) ≡ refuses n p)
  list_refused n p = answered_exactly told verdict_is verdict_is_lem r contract (Err (refusal n p))

-- ---- Demand 2: `check` accepts exactly the documents that keep the format's rules, with room for their keys in the table lent.

accepted_keys : (words : List ℕ) (q : Outcome Keys (Unit {0})) → answers tt ≡ (checked_by words q).verdict → (ks : Keys) × (q ≡ done tt ks)
accepted_keys words (halt n p ks) e = absurd (halt≢done (sym e))
accepted_keys words (done tt ks) e = (ks, refl)

module _ (doc list words after : List ℕ) (r : Checked) (contract : told_checked r after ≡ checked doc list words) where
  verdict_says : told r.verdict ≡ (checked doc list words).verdict
  verdict_says = ap (λ c. c.verdict) contract

  pub check_accepts : (r.verdict ≡ Ok tt) ↔ ((t : Tree) × (m : Means doc list t) × (length m.keys ≤ room_of words))
  check_accepts = (
    λ a. (Rules.accepted_exactly (room_of words) doc list).0 (accepted_keys words (verdict (room_of words) doc list) (sym (ap told a) ∙ verdict_says)),
    λ b. let k = (Rules.accepted_exactly (room_of words) doc list).1 b in
        sym (verdict_is_lem r.verdict) ∙ ap verdict_is (verdict_says ∙ ap (λ q. (checked_by words q).verdict) k.1),
  )

  -- ---- Demand 1: "Bad input is refused with the number and place that document 01 fixes; 01 says what the lent key table holds
  -- afterwards": `check` refuses with a number and place exactly if the rule does; each immediate key passed has its pair, and
  -- all other words keep what they held.

  pub refused_as_fixed : (n p : ℕ) → (r.verdict ≡ Err (refusal n p)) ↔ ((checked doc list words).verdict ≡ refuses n p)
  refused_as_fixed n p = answered_exactly told verdict_is verdict_is_lem r.verdict verdict_says (Err (refusal n p))

  pub count_is : r.count ≡ (checked doc list words).count
  count_is = ap (λ c. c.count) contract

  pub words_are : after ≡ (checked doc list words).words
  words_are = ap (λ c. c.words) contract

  -- a bad key list refuses the whole check with its own number and place, and leaves the key table as it was
  pub bad_list_refused : (n p : ℕ) → ask (key_list list) ≡ refuses n p → (r.verdict ≡ Err (refusal n p)) × (r.count ≡ 0) × (after ≡ words)
  bad_list_refused n p e =
      let c = bad_list doc list words n p e in (
        sym (verdict_is_lem r.verdict) ∙ ap verdict_is (verdict_says ∙ ap (λ x. x.verdict) c),
        count_is ∙ ap (λ x. x.count) c,
        words_are ∙ ap (λ x. x.words) c,
      )

  pub check_keeps : (length after ≡ length words)
      × ((j : ℕ) → j < r.count → key_of after j ≡ get_or (kept_of (verdict (room_of words) doc list)) j no_key)
      × ((i : ℕ) → 2 * r.count ≤ i → get_or after i 0 ≡ get_or words i 0)
  check_keeps =
      let k = Rules.table_kept doc list words in (
        ap length words_are ∙ k.as_long,
        λ j h. ap (λ w. key_of w j) words_are ∙ k.each_pair j (rw count_is at h),
        λ i h. ap (λ w. get_or w i 0) words_are ∙ k.all_others i (rw count_is at h),
      )

-- ---- Demand 1: "Bad input is refused with the number and place that document 01 fixes", of the questions, for all bytes, cursors,
-- key tables and counts: each refuses with a number and place exactly if its rule does. A text is empty at a refusal.

module _ (doc list : List ℕ) (c n p : ℕ) where
  pub kind_refused : (r : Result Kind Refusal) → told_kind r ≡ ask (kind doc list c) → (r ≡ Err (refusal n p)) ↔ (ask (kind doc list c) ≡ refuses n p)
  kind_refused r e = refused_exactly kind_says kind_is kind_is_lem r e n p

  pub number_refused : (r : Result Number Refusal) → told_number r ≡ ask (number_at doc list c) → (r ≡ Err (refusal n p)) ↔ (ask (number_at doc list c) ≡ refuses n p)
  number_refused r e = refused_exactly _ number_is (λ x. refl) r e n p

  pub string_refused : (r : Result Span Refusal) → told_text r ≡ ask (string_at doc list c) → (r ≡ Err (refusal n p)) ↔ (ask (string_at doc list c) ≡ refuses n p)
  string_refused r e = refused_exactly _ (λ s. s) (λ s. refl) r e n p

  pub string_text_refused : (r : List ℕ) → r ≡ string_bytes doc list c → ask (string_at doc list c) ≡ refuses n p → r ≡ []
  string_text_refused r e h = e ∙ rw h

  module _ (words : List ℕ) (count : ℕ) where
    pub end_refused : (r : Result ℕ Refusal) → told_place r ≡ ask (end_of doc list words count c) → (r ≡ Err (refusal n p)) ↔ (ask (end_of doc list words count c) ≡ refuses n p)
    end_refused r e = refused_exactly _ (λ o. o) (λ o. refl) r e n p

    pub element_refused : (i : ℕ) (r : Result ℕ Refusal) → told_place r ≡ ask (element_at doc list words count c i)
        → (r ≡ Err (refusal n p)) ↔ (ask (element_at doc list words count c i) ≡ refuses n p)
    element_refused i r e = refused_exactly _ (λ o. o) (λ o. refl) r e n p

    pub member_refused : (j : ℕ) (r : Result Member Refusal) → told_member r ≡ ask (member_at doc list words count c j)
        → (r ≡ Err (refusal n p)) ↔ (ask (member_at doc list words count c j) ≡ refuses n p)
    member_refused j r e = refused_exactly _ member_is (λ m. refl) r e n p

    pub first_member_refused : (x : List ℕ) (r : Result (Option ℕ) Refusal) → told_found r ≡ ask (first_member doc list words count c x)
        → (r ≡ Err (refusal n p)) ↔ (ask (first_member doc list words count c x) ≡ refuses n p)
    first_member_refused x r e = refused_exactly found_of found_is found_is_lem r e n p

    pub key_refused : (r : Result Key Refusal) → told_key r ≡ ask (key_at doc list words count c) → (r ≡ Err (refusal n p)) ↔ (ask (key_at doc list words count c) ≡ refuses n p)
    key_refused r e = refused_exactly key_says key_case key_case_lem r e n p

    pub key_text_refused : (r : List ℕ) → r ≡ key_bytes doc list words count c → ask (key_at doc list words count c) ≡ refuses n p → r ≡ []
    key_text_refused r e h = e ∙ rw h

    -- a text that is answered lies inside the bytes of its lender
    pub key_inside_document : (r : Result Key Refusal) → told_key r ≡ ask (key_at doc list words count c) → (place len past : ℕ) → r ≡ Ok (Key.Document place len past) → place + len ≤ length doc
    key_inside_document r e place len past q = Rules.key_inside doc list words count (record { lender = the_document; place = place; len = len; past = past }) c (sym e ∙ ap told_key q)

    pub key_inside_list : (r : Result Key Refusal) → told_key r ≡ ask (key_at doc list words count c) → (place len past : ℕ) → r ≡ Ok (Key.List place len past) → place + len ≤ length list
    key_inside_list r e place len past q = Rules.key_inside doc list words count (record { lender = the_list; place = place; len = len; past = past }) c (sym e ∙ ap told_key q)

    -- the text is a part of the bytes of the lender that `key` names
    pub key_text_lent : (k : KeyRead) (r : Result Key Refusal) → told_key r ≡ ask (key_at doc list words count c) → r ≡ Ok (key_case k) → (t : List ℕ) → t ≡ key_bytes doc list words count c
        → t ≡ part (lent doc list k.lender) k.place k.len
    key_text_lent k r e q t h = h ∙ rw (sym e ∙ (ap told_key q ∙ told_case k))

-- ---- A key that the rule answers with a text and an end (the key of a member, by `member_told`): so do `key` and `key_text`.

module _ (doc list words : List ℕ) (count c : ℕ) (x : List ℕ) (past : ℕ) (a : KeyAnswer doc list x past (ask (key_at doc list words count c))) where
  pub key_told : (r : Result Key Refusal) → told_key r ≡ ask (key_at doc list words count c) → r ≡ Ok (key_case a.read)
  key_told r e = answered key_says key_case key_case_lem r e a.read a.answered

  pub key_text_told : (r : List ℕ) → r ≡ key_bytes doc list words count c → r ≡ x
  key_text_told r e = e ∙ Rules.key_bytes_lem doc list words count c x past a

-- ---- Demand 2: every question put to a node that the root leads to is answered from the tree; the questions that go by keys,
-- with the very words and count that `check` left.

module _ (doc list : List ℕ) (t : Tree) (m : Means doc list t) {o : ℕ} (l : Leads doc o) where
  pub kind_told : (u : Tree) → StandsFor doc m.names m.keys o u → (r : Result Kind Refusal) → told_kind r ≡ ask (kind doc list o) → r ≡ Ok (kind_case u)
  kind_told u s r e = answered kind_says kind_is kind_is_lem r e _ (Rules.kind_answer doc list t m l u s) ∙ ap Ok (kind_case_lem u)

  -- every lent `&[u8]` has `Bytes doc`: a function that is lent the document has it as `λ i. (c.shared-slice-known.given i).fits`
  pub number_told : Bytes doc → (s : Bool) (k : ℕ) → StandsFor doc m.names m.keys o (num s k) → (r : Result Number Refusal) → told_number r ≡ ask (number_at doc list o)
      → (bits : ℕ) × (r ≡ Ok (record { type_byte = get_or doc o 0; bits = bits })) × (value_of (record { type = get_or doc o 0; bits = bits }) ≡ num s k)
  number_told bytes s k n r e =
      let (b, a, v) = Rules.number_answer doc list t m l bytes s k n in
      (b, answered _ number_is (λ x. refl) r e _ a, v)

  pub number_told_wrong : (u : Tree) → StandsFor doc m.names m.keys o u → NoNumber u → (r : Result Number Refusal) → told_number r ≡ ask (number_at doc list o) → r ≡ Err (refusal 21 o)
  number_told_wrong u s n r e = refused _ number_is (λ x. refl) r e 21 o (Rules.number_wrong doc list t m l u s n)

  -- the length is the text's, and the text ends where the value does
  pub string_told : (x : List ℕ) (s : StandsFor doc m.names m.keys o (str x)) (r : Result Span Refusal) → told_text r ≡ ask (string_at doc list o)
      → (p : ℕ) × (r ≡ Ok (record { place = p; len = length x })) × (part doc p (length x) ≡ x) × (p + length x ≡ s.past)
  string_told x s r e =
      let (p, a, v, past) = Rules.string_answer doc list t m l x s in
      (p, answered _ (λ s. s) (λ s. refl) r e _ a, v, past)

  pub string_told_wrong : (u : Tree) → StandsFor doc m.names m.keys o u → NoString u → (r : Result Span Refusal) → told_text r ≡ ask (string_at doc list o) → r ≡ Err (refusal 21 o)
  string_told_wrong u s n r e = refused _ (λ s. s) (λ s. refl) r e 21 o (Rules.string_wrong doc list t m l u s n)

  pub string_text_told : (x : List ℕ) → StandsFor doc m.names m.keys o (str x) → (r : List ℕ) → r ≡ string_bytes doc list o → r ≡ x
  string_text_told x s r e = e ∙ Rules.string_bytes_lem doc list t m l x s

  pub string_text_wrong : (u : Tree) → StandsFor doc m.names m.keys o u → NoString u → (r : List ℕ) → r ≡ string_bytes doc list o → r ≡ []
  string_text_wrong u s n r e = e ∙ Rules.string_bytes_wrong doc list t m l u s n

-- the words and the count that a check left
module _ (doc list : List ℕ) (t : Tree) (m : Means doc list t) (words : List ℕ) (roomy : length m.keys ≤ room_of words)
    (after : List ℕ) (count : ℕ) (ws : after ≡ (checked doc list words).words) (cs : count ≡ (checked doc list words).count) {o : ℕ} (l : Leads doc o) where
  pub end_told : (u : Tree) (s : StandsFor doc m.names m.keys o u) (r : Result ℕ Refusal) → told_place r ≡ ask (end_of doc list after count o) → r ≡ Ok s.past
  end_told u s r e = answered _ (λ o. o) (λ o. refl) r (rw (ws, cs) at e) _ (Rules.end_answer doc list t m words roomy l u s)

  -- ---- element i

  pub element_told : (ts : Trees) (i : ℕ) → StandsFor doc m.names m.keys o (arr ts) → i < size ts → (r : Result ℕ Refusal) → told_place r ≡ ask (element_at doc list after count o i)
      → (p : ℕ) × (v : Tree) × (r ≡ Ok p) × Leads doc p × StandsFor doc m.names m.keys p v × ElementIs ts i v
  element_told ts i s h r e =
      let a = Rules.element_answer doc list t m words roomy l ts i s h in
      (_, a.tree, answered _ (λ o. o) (λ o. refl) r (rw (ws, cs) at e) _ a.answered, a.led_to, a.stands, a.is_element)

  pub element_told_past : (ts : Trees) (i : ℕ) → StandsFor doc m.names m.keys o (arr ts) → size ts ≤ i → (r : Result ℕ Refusal) → told_place r ≡ ask (element_at doc list after count o i)
      → r ≡ Err (refusal 22 o)
  element_told_past ts i s h r e = refused _ (λ o. o) (λ o. refl) r (rw (ws, cs) at e) 22 o (Rules.element_past doc list t m words roomy l ts i s h)

  pub element_told_wrong : (u : Tree) (i : ℕ) → StandsFor doc m.names m.keys o u → NoArray u → (r : Result ℕ Refusal) → told_place r ≡ ask (element_at doc list after count o i)
      → r ≡ Err (refusal 21 o)
  element_told_wrong u i s n r e = refused _ (λ o. o) (λ o. refl) r (rw (ws, cs) at e) 21 o (Rules.element_wrong doc list t m words roomy l u i s n)

  -- ---- member j: asked for at the key byte that it names, the key's text is the member's, and lies inside the bytes of its lender

  pub member_told : (ms : Members) (j : ℕ) → StandsFor doc m.names m.keys o (obj ms) → j < sizem ms → (r : Result Member Refusal) → told_member r ≡ ask (member_at doc list after count o j)
      → (k : ℕ) × (p : ℕ) × (x : List ℕ) × (v : Tree) × (r ≡ Ok (record { key = k; value = p })) × KeyAnswer doc list x p (ask (key_at doc list after count k))
      × Leads doc p × StandsFor doc m.names m.keys p v × MemberIs ms j x v
  member_told ms j s h r e =
      let a = Rules.member_answer doc list t m words roomy l ms j s h in (
        _,
        _,
        a.key,
        a.tree,
        answered _ member_is (λ m. refl) r (rw (ws, cs) at e) _ a.answered,
        rw (ws, cs) a.key_read,
        a.led_to,
        a.stands,
        a.is_member,
      )

  pub member_told_past : (ms : Members) (j : ℕ) → StandsFor doc m.names m.keys o (obj ms) → sizem ms ≤ j → (r : Result Member Refusal) → told_member r ≡ ask (member_at doc list after count o j)
      → r ≡ Err (refusal 22 o)
  member_told_past ms j s h r e = refused _ member_is (λ m. refl) r (rw (ws, cs) at e) 22 o (Rules.member_past doc list t m words roomy l ms j s h)

  pub member_told_wrong : (u : Tree) (j : ℕ) → StandsFor doc m.names m.keys o u → NoObject u → (r : Result Member Refusal) → told_member r ≡ ask (member_at doc list after count o j)
      → r ≡ Err (refusal 21 o)
  member_told_wrong u j s n r e = refused _ member_is (λ m. refl) r (rw (ws, cs) at e) 21 o (Rules.member_wrong doc list t m words roomy l u j s n)

  -- ---- the first member by key

  -- the answer r names the value of the first member of ms with the key x, or absent where no member has it
  pub data FirstIs (ms : Members) (x : List ℕ) (r : Result (Option ℕ) Refusal) : Type 0 where
    first : (j : ℕ) (v : Tree) (p : ℕ) → MemberIs ms j x v → ((i : ℕ) (w : Tree) → i < j → MemberIs ms i x w → ⊥)
        → Leads doc p → StandsFor doc m.names m.keys p v → r ≡ Ok (Some p) → FirstIs ms x r
    none : Lacks ms x → r ≡ Ok None → FirstIs ms x r

  first_by : (ms : Members) (x : List ℕ) (p : ℕ → ℕ) (r : Result (Option ℕ) Refusal) (q : Asked Questions.Found) → told_found r ≡ q → Rules.FirstMemberAnswer doc m.names m.keys ms x p q → FirstIs ms x r
  first_by ms x p r q e (Rules.first j v is earlier on stands a) = first j v (p j) is earlier on stands (answered found_of found_is found_is_lem r e _ a)
  first_by ms x p r q e (Rules.none lacks a) = none lacks (answered found_of found_is found_is_lem r e _ a)

  pub first_member_told : (ms : Members) (x : List ℕ) → StandsFor doc m.names m.keys o (obj ms) → (r : Result (Option ℕ) Refusal) → told_found r ≡ ask (first_member doc list after count o x) → FirstIs ms x r
  first_member_told ms x s r e = first_by ms x _ r _ (rw (ws, cs) at e) (Rules.first_member_answer doc list t m words roomy l ms x s)

  pub first_member_told_wrong : (u : Tree) (x : List ℕ) → StandsFor doc m.names m.keys o u → NoObject u → (r : Result (Option ℕ) Refusal) → told_found r ≡ ask (first_member doc list after count o x)
      → r ≡ Err (refusal 21 o)
  first_member_told_wrong u x s n r e = refused found_of found_is found_is_lem r (rw (ws, cs) at e) 21 o (Rules.first_member_wrong doc list t m words roomy l u x s n)
