-- Demands 1 to 3 of the code's own answers. A premise such as `told_sized r ≡ ask (kind_and_size doc c)` is the contract
-- of the call that answered r; what follows, of r itself, is what the caller may rely on. Each is the contract put
-- together with a theorem about the rules.
use mathlib.Core.Path.{◌≡◌, refl, sym, ap, ◌∙◌}
use mathlib.Core.Logic.{◌↔◌}
use mathlib.Core.Bool.{Bool, true, false}
use mathlib.Core.List.{List, []}
use Prim.Native.Nat.{ℕ, zero, suc, ◌+◌, ◌*◌, ◌≤◌, ◌<◌}
use lib.ListN.{length}
use Rattle.json_model.specs.Bytes.{part}
use Rattle.json_model.specs.Number.{binary64, float_tree}
use Rattle.json_model.specs.Reading.{halt, done, Asked, ask, answers, refuses, verdict_of, told, told_by}
use Rattle.json_model.specs.declared.Span.{Span}
use Rattle.json_model.specs.declared.Refusal.{Refusal}
use Rattle.std.specs.Prelude.{Option, Some, None, Result, Ok, Err}
use Rattle.json_model.specs.Tree.{Tree, null, bool, num, str, arr, obj, Trees, Members, size, sizem, ElementIs, MemberIs, IsContainer, NoNumber, NoString, NoObject, NoContainer}
use Rattle.json_model.proofs.Cases.{refusal, verdict_is, verdict_is_lem, answered_exactly}
use Rattle.binary_json_rules.specs.Areas.{word, high, count, slot, content}
use Rattle.binary_json_rules.specs.Meaning.{EntryIs, ContainerIs, Means}
use Rattle.binary_json_rules.specs.Marks.{words, fill}
use Rattle.binary_json_rules.specs.Verdict.{verdict}
use Rattle.binary_json_rules.specs.Leads.{EntryOf, Leads}
use Rattle.binary_json_rules.specs.Questions.{kind_and_size, element, key_entry_of, entry_of, member_at, slot_text, slot_bytes, entry_type, container_at, string_at, string_bytes, number_at}
use Rattle.binary_json_rules.specs.Questions as Questions
use Rattle.binary_json_rules.specs.Halving.{digits, turns_of}
use Rattle.binary_json_rules.specs.Lookup.{Found, entry, absent, Counted, counted, quick_lookup, Lookup, lookup, lookup_of, text_halving, key_turns, plain_scan}
use Rattle.binary_json_rules.specs.Answers.{sized_as, typed_as}
use Rattle.binary_json_theorems.proofs.Afterwards.{Ends, AtRefusal, Walked}
use Rattle.binary_json_theorems.proofs.Demands as Rules
use Rattle.binary_json_check.specs.Told.{told_marks}
use Rattle.binary_json_check.proofs.Told.{verdict_told}
use Rattle.binary_json_areas.specs.declared.offsets.TreeOffset.{TreeOffset}
use Rattle.binary_json_areas.specs.declared.offsets.SlotOffset.{SlotOffset}
use Rattle.binary_json_answers.specs.Told.{sized_of, told_sized, told_tree, told_member, type_of, told_type, told_span, told_bits, found_of, told_scan, told_lookup}
use Rattle.binary_json_answers.specs.declared.Sized.{Sized}
use Rattle.binary_json_answers.specs.declared.MemberAt.{MemberAt}
use Rattle.binary_json_answers.specs.declared.Typed.{Typed}
use Rattle.binary_json_answers.specs.declared.Looked.{Looked}

-- ---- the case of an answer, from what it says

abbrev pub tree_offset : ℕ → TreeOffset
tree_offset o = record { 0 = o }

abbrev pub slot_offset : ℕ → SlotOffset
slot_offset o = record { 0 = o }

abbrev case_by : {T A : Type 0} → (A → T) → Asked A → Result T Refusal
case_by back (halt n p u) = Err (refusal n p)
case_by back (done a u) = Ok (back a)

case_by_lem : {T A : Type 0} (says : T → A) (back : A → T) → ((t : T) → back (says t) ≡ t) → (r : Result T Refusal) → case_by back (told_by says r) ≡ r
case_by_lem says back same (Ok t) = ap Ok (same t)
case_by_lem says back same (Err r) = refl

abbrev sized_kind : ℕ → ℕ → Sized
sized_kind zero n = Sized.Array n
sized_kind (suc zero) n = Sized.Object n
sized_kind (suc (suc k)) n = Sized.Scalar n

abbrev sized_by : Questions.Sized → Sized
sized_by s = sized_kind s.kind s.size

abbrev sized_is : Asked Questions.Sized → Result Sized Refusal
sized_is = case_by sized_by

sized_same : (s : Sized) → sized_by (sized_of s) ≡ s
sized_same (Sized.Array n) = refl
sized_same (Sized.Object n) = refl
sized_same (Sized.Scalar n) = refl

sized_is_lem : (r : Result Sized Refusal) → sized_is (told_sized r) ≡ r
sized_is_lem = case_by_lem sized_of sized_by sized_same

abbrev tree_is : Asked ℕ → Result TreeOffset Refusal
tree_is = case_by tree_offset

tree_is_lem : (r : Result TreeOffset Refusal) → tree_is (told_tree r) ≡ r
tree_is_lem = case_by_lem (λ o. o.0) tree_offset (λ o. refl)

abbrev pub member_by : ℕ → ℕ → MemberAt
member_by s e = record { slot = slot_offset s; entry = tree_offset e }

abbrev member_is : Asked Questions.MemberAt → Result MemberAt Refusal
member_is = case_by (λ m. member_by m.slot m.entry)

member_is_lem : (r : Result MemberAt Refusal) → member_is (told_member r) ≡ r
member_is_lem = case_by_lem (λ m. record { slot = m.slot.0; entry = m.entry.0 }) (λ m. member_by m.slot m.entry) (λ m. refl)

abbrev typed_by : ℕ → Typed
typed_by zero = Typed.False
typed_by (suc zero) = Typed.True
typed_by (suc (suc zero)) = Typed.Null
typed_by (suc (suc (suc zero))) = Typed.String
typed_by (suc (suc (suc (suc zero)))) = Typed.Number
typed_by (suc (suc (suc (suc (suc k))))) = Typed.Container

abbrev typed_is : Asked ℕ → Result Typed Refusal
typed_is = case_by typed_by

typed_same : (t : Typed) → typed_by (type_of t) ≡ t
typed_same Typed.False = refl
typed_same Typed.True = refl
typed_same Typed.Null = refl
typed_same Typed.String = refl
typed_same Typed.Number = refl
typed_same Typed.Container = refl

typed_is_lem : (r : Result Typed Refusal) → typed_is (told_type r) ≡ r
typed_is_lem = case_by_lem type_of typed_by typed_same

abbrev span_is : Asked Span → Result Span Refusal
span_is = case_by (λ s. s)

span_is_lem : (r : Result Span Refusal) → span_is (told_span r) ≡ r
span_is_lem = case_by_lem (λ s. s) (λ s. s) (λ s. refl)

abbrev bits_is : Asked ℕ → Result ℕ Refusal
bits_is = case_by (λ b. b)

bits_is_lem : (r : Result ℕ Refusal) → bits_is (told_bits r) ≡ r
bits_is_lem = case_by_lem (λ b. b) (λ b. b) (λ b. refl)

abbrev pub entry_by : Found → Option TreeOffset
entry_by (entry o) = Some (tree_offset o)
entry_by absent = None

entry_same : (o : Option TreeOffset) → entry_by (found_of o) ≡ o
entry_same (Some o) = refl
entry_same None = refl

abbrev scanned_is : Asked Found → Result (Option TreeOffset) Refusal
scanned_is = case_by entry_by

scanned_is_lem : (r : Result (Option TreeOffset) Refusal) → scanned_is (told_scan r) ≡ r
scanned_is_lem = case_by_lem found_of entry_by entry_same

abbrev pub looked_by : Found → ℕ → ℕ → Looked
looked_by found first second = record { entry = entry_by found; first = first; second = second }

abbrev looked_is : Lookup → Result Looked Refusal
looked_is l = case_by (λ f. looked_by f l.first l.second) l.answer

looked_is_lem : (r : Result Looked Refusal) → looked_is (told_lookup r) ≡ r
looked_is_lem (Ok l) = ap (λ e. Ok (record { entry = e; first = l.first; second = l.second })) (entry_same l.entry)
looked_is_lem (Err r) = refl

-- nothing of a rule's answer is lost in `lookup_of`
abbrev counted_as : ℕ → ℕ → Asked Found → Asked Counted
counted_as first second (halt n p u) = refuses n p
counted_as first second (done f u) = answers (counted f first second)

counted_as_lem : (q : Asked Counted) → counted_as (lookup_of q).first (lookup_of q).second (lookup_of q).answer ≡ q
unfolding lookup_of
counted_as_lem (halt n p u) = refl
counted_as_lem (done a u) = refl

-- what a tree says to the questions for its container's kind and size, and for its Entry's type
abbrev pub sized_case : Tree → Sized
sized_case null = Sized.Scalar 1
sized_case (bool b) = Sized.Scalar 1
sized_case (num s m) = Sized.Scalar 1
sized_case (str s) = Sized.Scalar 1
sized_case (arr ts) = Sized.Array (size ts)
sized_case (obj ms) = Sized.Object (sizem ms)

sized_case_lem : (u : Tree) → sized_is (answers (sized_as u)) ≡ Ok (sized_case u)
unfolding sized_as
sized_case_lem null = refl
sized_case_lem (bool b) = refl
sized_case_lem (num s m) = refl
sized_case_lem (str s) = refl
sized_case_lem (arr ts) = refl
sized_case_lem (obj ms) = refl

abbrev pub typed_case : Tree → Typed
typed_case null = Typed.Null
typed_case (bool false) = Typed.False
typed_case (bool true) = Typed.True
typed_case (num s m) = Typed.Number
typed_case (str s) = Typed.String
typed_case (arr ts) = Typed.Container
typed_case (obj ms) = Typed.Container

typed_case_lem : (u : Tree) → typed_is (answers (typed_as u)) ≡ Ok (typed_case u)
unfolding typed_as
typed_case_lem null = refl
typed_case_lem (bool false) = refl
typed_case_lem (bool true) = refl
typed_case_lem (num s m) = refl
typed_case_lem (str s) = refl
typed_case_lem (arr ts) = refl
typed_case_lem (obj ms) = refl

-- ---- Demand 1: "Bad input is refused with the number and place that document 01 fixes": the check and each question refuse with
-- a number and place exactly if their rule does, for all bytes, marks, cursors, indices and keys. A text is empty at a refusal.

pub refused_as_fixed : (doc marks after : List ℕ) (n p : ℕ) (r : Result (Unit {0}) Refusal) → told_marks r after ≡ verdict doc marks
    → (r ≡ Err (refusal n p)) ↔ (verdict_of (verdict doc marks) ≡ refuses n p)
refused_as_fixed doc marks after n p r e = answered_exactly told verdict_is verdict_is_lem r (verdict_told r after ∙ ap verdict_of e) (Err (refusal n p))

-- what the lent marks hold after the check, whatever its answer: as they were after 1 to 7 and 15; after 8 to 14 and
-- where the document is accepted, those of the tree are 0 or 1, and those beyond are as they were
pub marks_left : (doc marks after : List ℕ) (r : Result (Unit {0}) Refusal) → told_marks r after ≡ verdict doc marks → Ends (AtRefusal doc marks) (Walked doc marks) (told_marks r after)
marks_left doc marks after r e = rw e (Rules.marks_afterwards doc marks)

-- what they held before is never asked: with marks enough in both buffers, both calls give the same answer
pub marks_never_asked : (doc ms ns before after : List ℕ) (r q : Result (Unit {0}) Refusal) → words doc ≤ length ms → words doc ≤ length ns → told_marks r before ≡ verdict doc ms → told_marks q after ≡ verdict doc ns
    → r ≡ q
marks_never_asked doc ms ns before after r q a b e f =
    sym (verdict_is_lem r)
    ∙ (ap verdict_is (verdict_told r before ∙ (ap verdict_of e ∙ (Rules.same_verdict doc ms ns a b ∙ (sym (ap verdict_of f) ∙ sym (verdict_told q after))))) ∙ verdict_is_lem q)

module _ (doc : List ℕ) (c n p : ℕ) where
  -- at a Meta
  pub kind_refused : (r : Result Sized Refusal) → told_sized r ≡ ask (kind_and_size doc c) → (r ≡ Err (refusal n p)) ↔ (ask (kind_and_size doc c) ≡ refuses n p)
  kind_refused r e = answered_exactly told_sized sized_is sized_is_lem r e (Err (refusal n p))

  pub element_refused : (i : ℕ) (r : Result TreeOffset Refusal) → told_tree r ≡ ask (element doc c i) → (r ≡ Err (refusal n p)) ↔ (ask (element doc c i) ≡ refuses n p)
  element_refused i r e = answered_exactly told_tree tree_is tree_is_lem r e (Err (refusal n p))

  pub member_refused : (j : ℕ) (r : Result MemberAt Refusal) → told_member r ≡ ask (member_at doc c j) → (r ≡ Err (refusal n p)) ↔ (ask (member_at doc c j) ≡ refuses n p)
  member_refused j r e = answered_exactly told_member member_is member_is_lem r e (Err (refusal n p))

  -- a refused quick lookup has the counts 0 and 0
  pub quick_lookup_refused : (x : List ℕ) (r : Result Looked Refusal) → told_lookup r ≡ lookup_of (ask (quick_lookup doc c x))
      → ((r ≡ Err (refusal n p)) ↔ (ask (quick_lookup doc c x) ≡ refuses n p)) × ((r ≡ Err (refusal n p)) ↔ (told_lookup r ≡ lookup (refuses n p) 0 0))
  unfolding lookup_of
  quick_lookup_refused x r e =
      let said : lookup (refuses n p) 0 0 ≡ told_lookup r → r ≡ Err (refusal n p) = λ h. sym (looked_is_lem r) ∙ ap looked_is (sym h) in (
        (λ h. sym (counted_as_lem (ask (quick_lookup doc c x))) ∙ ap (λ l. counted_as l.first l.second l.answer) (sym e ∙ ap told_lookup h), λ h. said (sym (e ∙ ap lookup_of h))),
        (λ h. ap told_lookup h, λ h. said (sym h)),
      )

  pub plain_scan_refused : (x : List ℕ) (r : Result (Option TreeOffset) Refusal) → told_scan r ≡ ask (plain_scan doc c x) → (r ≡ Err (refusal n p)) ↔ (ask (plain_scan doc c x) ≡ refuses n p)
  plain_scan_refused x r e = answered_exactly told_scan scanned_is scanned_is_lem r e (Err (refusal n p))

  -- at an Entry
  pub type_refused : (r : Result Typed Refusal) → told_type r ≡ ask (entry_type doc c) → (r ≡ Err (refusal n p)) ↔ (ask (entry_type doc c) ≡ refuses n p)
  type_refused r e = answered_exactly told_type typed_is typed_is_lem r e (Err (refusal n p))

  pub container_refused : (r : Result TreeOffset Refusal) → told_tree r ≡ ask (container_at doc c) → (r ≡ Err (refusal n p)) ↔ (ask (container_at doc c) ≡ refuses n p)
  container_refused r e = answered_exactly told_tree tree_is tree_is_lem r e (Err (refusal n p))

  pub string_refused : (r : Result Span Refusal) → told_span r ≡ ask (string_at doc c) → (r ≡ Err (refusal n p)) ↔ (ask (string_at doc c) ≡ refuses n p)
  string_refused r e = answered_exactly told_span span_is span_is_lem r e (Err (refusal n p))

  pub string_text_refused : (bytes : List ℕ) → bytes ≡ string_bytes doc c → ask (string_at doc c) ≡ refuses n p → bytes ≡ []
  string_text_refused bytes e h = e ∙ rw h

  pub number_refused : (r : Result ℕ Refusal) → told_bits r ≡ ask (number_at doc c) → (r ≡ Err (refusal n p)) ↔ (ask (number_at doc c) ≡ refuses n p)
  number_refused r e = answered_exactly told_bits bits_is bits_is_lem r e (Err (refusal n p))

  -- at a slot
  pub slot_refused : (r : Result Span Refusal) → told_span r ≡ ask (slot_text doc c) → (r ≡ Err (refusal n p)) ↔ (ask (slot_text doc c) ≡ refuses n p)
  slot_refused r e = answered_exactly told_span span_is span_is_lem r e (Err (refusal n p))

  pub slot_text_refused : (bytes : List ℕ) → bytes ≡ slot_bytes doc c → ask (slot_text doc c) ≡ refuses n p → bytes ≡ []
  slot_text_refused bytes e h = e ∙ rw h

-- ---- Demand 2: "A document is accepted exactly if it keeps the format's rules", with marks enough. "Each accepted document means one tree."

pub accepted_exactly : (doc marks after : List ℕ) (r : Result (Unit {0}) Refusal) → told_marks r after ≡ verdict doc marks → (r ≡ Ok tt) ↔ ((words doc ≤ length marks) × ((t : Tree) × Means doc t))
accepted_exactly doc marks after r e =
    let (to, from) = answered_exactly told verdict_is verdict_is_lem r (verdict_told r after ∙ ap verdict_of e) (Ok tt) in
    let (sound, complete) = Rules.accepted_exactly doc marks in (
      λ a. let d : verdict doc marks ≡ done tt after = sym e ∙ ap (λ v. told_marks v after) a in sound (d ∙ ap (λ z. done tt z) (Rules.accepted_marks doc marks after d)),
      λ m. from (ap verdict_of (complete m)),
    )

-- each mark of the tree is then 1, and those beyond are as they were
pub accepted_marks : (doc marks after : List ℕ) (r : Result (Unit {0}) Refusal) → told_marks r after ≡ verdict doc marks → r ≡ Ok tt → after ≡ fill marks 0 (words doc) 1
accepted_marks doc marks after r e a = Rules.accepted_marks doc marks after (sym e ∙ ap (λ v. told_marks v after) a)

pub one_tree : (doc : List ℕ) (t u : Tree) → Means doc t → Means doc u → t ≡ u
one_tree doc t u m n = Rules.one_tree doc t u m n

-- ---- "Every question put to a node that its root leads to is answered from that tree."

module _ (doc : List ℕ) (t : Tree) (m : Means doc t) (c : ℕ) (l : Leads doc c) where
  pub kind_and_size_lem : (u : Tree) (r : Result Sized Refusal) → ContainerIs doc u c → told_sized r ≡ ask (kind_and_size doc c) → r ≡ Ok (sized_case u)
  kind_and_size_lem u r h e = sym (sized_is_lem r) ∙ (ap sized_is (e ∙ Rules.kind_and_size_lem doc t m c l u h) ∙ sized_case_lem u)

  pub element_of_array : (ts : Trees) (i : ℕ) (v : Tree) (r : Result TreeOffset Refusal) → ContainerIs doc (arr ts) c → ElementIs ts i v → told_tree r ≡ ask (element doc c i)
      → (r ≡ Ok (tree_offset (c + 4 + 4 * i))) × EntryIs doc v (c + 4 + 4 * i)
  element_of_array ts i v r h x e = let (q, p, s) = Rules.element_of_array doc t m c l ts i v h x in (sym (tree_is_lem r) ∙ ap tree_is (e ∙ q), s)

  pub element_past_end : (ts : Trees) (i : ℕ) (r : Result TreeOffset Refusal) → ContainerIs doc (arr ts) c → size ts ≤ i → told_tree r ≡ ask (element doc c i) → r ≡ Err (refusal 22 c)
  element_past_end ts i r h b e = sym (tree_is_lem r) ∙ ap tree_is (e ∙ Rules.element_past_end doc t m c l ts i h b)

  pub element_of_object : (ms : Members) (i : ℕ) (r : Result TreeOffset Refusal) → ContainerIs doc (obj ms) c → told_tree r ≡ ask (element doc c i) → r ≡ Err (refusal 21 c)
  element_of_object ms i r h e = sym (tree_is_lem r) ∙ ap tree_is (e ∙ Rules.element_of_object doc t m c l ms i h)

  pub element_of_scalar : (u : Tree) (r : Result TreeOffset Refusal) → NoContainer u → ContainerIs doc u c → told_tree r ≡ ask (element doc c 0) → (r ≡ Ok (tree_offset (c + 4))) × EntryIs doc u (c + 4)
  element_of_scalar u r n h e = let (q, p, s) = Rules.element_of_scalar doc t m c l u n h in (sym (tree_is_lem r) ∙ ap tree_is (e ∙ q), s)

  pub element_past_scalar : (u : Tree) (i : ℕ) (r : Result TreeOffset Refusal) → NoContainer u → ContainerIs doc u c → 1 ≤ i → told_tree r ≡ ask (element doc c i) → r ≡ Err (refusal 22 c)
  element_past_scalar u i r n h b e = sym (tree_is_lem r) ∙ ap tree_is (e ∙ Rules.element_past_scalar doc t m c l u i n h b)

  pub member_of_object : (ms : Members) (j : ℕ) (x : List ℕ) (v : Tree) (r : Result MemberAt Refusal) (bytes : List ℕ) → ContainerIs doc (obj ms) c → MemberIs ms j x v
      → told_member r ≡ ask (member_at doc c j) → bytes ≡ slot_bytes doc (word doc (key_entry_of c j))
      → (r ≡ Ok (member_by (word doc (key_entry_of c j)) (entry_of c (sizem ms) j))) × (bytes ≡ x) × EntryIs doc v (entry_of c (sizem ms) j)
  member_of_object ms j x v r bytes h y e w = let (q, k, p, s) = Rules.member_of_object doc t m c l ms j x v h y in (sym (member_is_lem r) ∙ ap member_is (e ∙ q), w ∙ k, s)

  pub member_past_end : (ms : Members) (j : ℕ) (r : Result MemberAt Refusal) → ContainerIs doc (obj ms) c → sizem ms ≤ j → told_member r ≡ ask (member_at doc c j) → r ≡ Err (refusal 22 c)
  member_past_end ms j r h b e = sym (member_is_lem r) ∙ ap member_is (e ∙ Rules.member_past_end doc t m c l ms j h b)

  pub member_of_other : (u : Tree) (j : ℕ) (r : Result MemberAt Refusal) → NoObject u → ContainerIs doc u c → told_member r ≡ ask (member_at doc c j) → r ≡ Err (refusal 21 c)
  member_of_other u j r n h e = sym (member_is_lem r) ∙ ap member_is (e ∙ Rules.member_of_other doc t m c l u j n h)

  pub quick_lookup_of_other : (u : Tree) (x : List ℕ) (r : Result Looked Refusal) → NoObject u → ContainerIs doc u c → told_lookup r ≡ lookup_of (ask (quick_lookup doc c x)) → r ≡ Err (refusal 21 c)
  unfolding lookup_of
  quick_lookup_of_other u x r n h e = sym (looked_is_lem r) ∙ ap looked_is (e ∙ ap lookup_of (Rules.quick_lookup_of_other doc t m c l u x n h))

  pub plain_scan_of_other : (u : Tree) (x : List ℕ) (r : Result (Option TreeOffset) Refusal) → NoObject u → ContainerIs doc u c → told_scan r ≡ ask (plain_scan doc c x) → r ≡ Err (refusal 21 c)
  plain_scan_of_other u x r n h e = sym (scanned_is_lem r) ∙ ap scanned_is (e ∙ Rules.plain_scan_of_other doc t m c l u x n h)

  module _ (a : ℕ) (o : EntryOf doc c a) where
    pub entry_type_lem : (v : Tree) (r : Result Typed Refusal) → EntryIs doc v a → told_type r ≡ ask (entry_type doc a) → r ≡ Ok (typed_case v)
    entry_type_lem v r h e = sym (typed_is_lem r) ∙ (ap typed_is (e ∙ Rules.entry_type_lem doc t m c l a o v h) ∙ typed_case_lem v)

    pub container_of_entry : (v : Tree) (r : Result TreeOffset Refusal) → IsContainer v → EntryIs doc v a → told_tree r ≡ ask (container_at doc a)
        → (r ≡ Ok (tree_offset (high doc a))) × Leads doc (high doc a) × ContainerIs doc v (high doc a)
    container_of_entry v r n h e = let (q, s, w) = Rules.container_of_entry doc t m c l a o v n h in (sym (tree_is_lem r) ∙ ap tree_is (e ∙ q), s, w)

    pub container_of_scalar : (v : Tree) (r : Result TreeOffset Refusal) → NoContainer v → EntryIs doc v a → told_tree r ≡ ask (container_at doc a) → r ≡ Err (refusal 21 a)
    container_of_scalar v r n h e = sym (tree_is_lem r) ∙ ap tree_is (e ∙ Rules.container_of_scalar doc t m c l a o v n h)

    pub string_of_entry : (s : List ℕ) (r : Result Span Refusal) → EntryIs doc (str s) a → told_span r ≡ ask (string_at doc a) → (p : Span) × (r ≡ Ok p) × (part doc p.place p.len ≡ s)
    string_of_entry s r h e = let (p, q, w) = Rules.string_of_entry doc t m c l a o s h in (p, sym (span_is_lem r) ∙ ap span_is (e ∙ q), w)

    pub text_of_entry : (s bytes : List ℕ) → EntryIs doc (str s) a → bytes ≡ string_bytes doc a → bytes ≡ s
    text_of_entry s bytes h e = e ∙ Rules.text_of_entry doc t m c l a o s h

    pub string_of_other : (v : Tree) (r : Result Span Refusal) (bytes : List ℕ) → NoString v → EntryIs doc v a → told_span r ≡ ask (string_at doc a) → bytes ≡ string_bytes doc a
        → (r ≡ Err (refusal 21 a)) × (bytes ≡ [])
    string_of_other v r bytes n h e w = let (q, k) = Rules.string_of_other doc t m c l a o v n h in (sym (span_is_lem r) ∙ ap span_is (e ∙ q), w ∙ k)

    pub number_of_entry : (s : Bool) (n : ℕ) (r : Result ℕ Refusal) → EntryIs doc (num s n) a → told_bits r ≡ ask (number_at doc a) → (bits : ℕ) × (r ≡ Ok bits) × (float_tree binary64 bits ≡ num s n)
    number_of_entry s n r h e = let (b, q, w) = Rules.number_of_entry doc t m c l a o s n h in (b, sym (bits_is_lem r) ∙ ap bits_is (e ∙ q), w)

    pub number_of_other : (v : Tree) (r : Result ℕ Refusal) → NoNumber v → EntryIs doc v a → told_bits r ≡ ask (number_at doc a) → r ≡ Err (refusal 21 a)
    number_of_other v r n h e = sym (bits_is_lem r) ∙ ap bits_is (e ∙ Rules.number_of_other doc t m c l a o v n h)

pub text_of_slot : (doc : List ℕ) (t : Tree) (m : Means doc t) (k : ℕ) (r : Result Span Refusal) → k < count doc → told_span r ≡ ask (slot_text doc (slot doc k))
    → (p : Span) × (r ≡ Ok p) × (part doc p.place p.len ≡ content doc k)
text_of_slot doc t m k r b e = let (p, q, w) = Rules.text_of_slot doc t m k b in (p, sym (span_is_lem r) ∙ ap span_is (e ∙ q), w)

pub bytes_of_slot : (doc : List ℕ) (t : Tree) (m : Means doc t) (k : ℕ) (bytes : List ℕ) → k < count doc → bytes ≡ slot_bytes doc (slot doc k) → bytes ≡ content doc k
bytes_of_slot doc t m k bytes b e = e ∙ Rules.bytes_of_slot doc t m k b

-- ---- Demand 3: "quick lookup and plain scan give the same answer: the Entry of the member with exactly that key, whose value
-- is the one the tree holds under it, or absent exactly when no member has it. The quick lookup's two counts equal 01's
-- halving rule, and together never exceed the binary digits of the string count plus those of the object's size."

pub record LookedUp (doc : List ℕ) (t : Tree) (m : Means doc t) (c : ℕ) (ms : Members) (x : List ℕ) (quick : Result Looked Refusal) (scan : Result (Option TreeOffset) Refusal) : Type 0 where
  pub answer : Found
  pub right : Rules.Answered doc t m c ms x answer
  pub by_scan : scan ≡ Ok (entry_by answer)
  pub first : ℕ
  pub second : ℕ
  pub by_halving : quick ≡ Ok (looked_by answer first second)
  pub first_is : first ≡ turns_of (text_halving doc x)
  pub second_is : second ≡ key_turns doc c (sizem ms) (text_halving doc x)
  pub few : first + second ≤ digits (count doc) + digits (sizem ms)

pub lookups_agree : (doc : List ℕ) (t : Tree) (m : Means doc t) (c : ℕ) (ms : Members) (x : List ℕ) (quick : Result Looked Refusal) (scan : Result (Option TreeOffset) Refusal) → Leads doc c → ContainerIs doc (obj ms) c
    → told_lookup quick ≡ lookup_of (ask (quick_lookup doc c x)) → told_scan scan ≡ ask (plain_scan doc c x) → LookedUp doc t m c ms x quick scan
unfolding lookup_of
lookups_agree doc t m c ms x quick scan l h p q =
    let r = Rules.lookups_agree doc t m c ms x l h in
    record {
      answer = r.answer;
      right = r.right;
      by_scan = sym (scanned_is_lem scan) ∙ ap scanned_is (q ∙ r.by_scan);
      first = r.first;
      second = r.second;
      by_halving = sym (looked_is_lem quick) ∙ ap looked_is (p ∙ ap lookup_of r.by_halving);
      first_is = r.first_is;
      second_is = r.second_is;
      few = r.few;
    }
