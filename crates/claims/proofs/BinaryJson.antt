-- BinaryJson: demand 1 is the contracts of the calls put side by side; with the theorems over the rules, the rest
-- follows from it.
use mathlib.Core.Path.{◌≡◌, refl, sym, ap, ◌∙◌, subst}
use mathlib.Core.Logic.{◌⊎◌, inl, inr}
use mathlib.Core.List.{List}
use native.Mathlib.Omega.{arith}
use Prim.Native.Nat.{ℕ, ◌+◌, ◌*◌, ◌≤◌, ◌<◌}
use borrow.Author.Rules.{rules}
use lib.ListN.{length, get_or}
use Rattle.json_model.specs.Reading.{Outcome, halt, done, Asked, ask, answers, refuses, told, verdict_of, kept_of}
use Rattle.std.specs.Prelude.{Option, Result, Ok, Err}
use Rattle.json_model.specs.declared.Refusal.{Refusal}
use Rattle.json_model.specs.Tree.{Tree, null, bool, num, str, arr, obj, Trees, Members, sizem, IsContainer, NoContainer, NoObject, Subtree, whole}
use Rattle.json_model.specs.Tree as Tree
use Rattle.json_model.proofs.Alike.{Alike}
use Rattle.json_model.proofs.Reading.{halt≢done}
use Rattle.binary_json_rules.specs.Areas.{count, slot, content}
use Rattle.binary_json_rules.specs.Meaning.{EntryIs, ContainerIs, Means}
use Rattle.binary_json_rules.specs.Marks.{words}
use Rattle.binary_json_rules.specs.Leads.{EntryOf, Leads, root}
use Rattle.binary_json_rules.specs.Questions.{kind_and_size, element, member_at, entry_type, container_at, string_at, number_at, slot_text, string_bytes, slot_bytes, entry_of}
use Rattle.binary_json_rules.specs.Lookup.{Found, quick_lookup, lookup, lookup_of, plain_scan}
use Rattle.binary_json_rules.specs.Answers.{sized, sized_as}
use Rattle.binary_json_rules.specs.Verdict.{verdict}
use Rattle.binary_json_check.specs.Told.{told_marks}
use Rattle.binary_json_check.proofs.Told.{verdict_told, marks_told}
use Rattle.binary_json_answers.specs.Told.{told_sized, told_tree, told_member, told_type, told_span, told_bits, told_scan, told_lookup}
use Rattle.binary_json_answers.specs.declared.Sized.{Sized}
use Rattle.binary_json_areas.specs.declared.offsets.TreeOffset.{TreeOffset}
use Rattle.json_model.specs.declared.Span.{Span}
use Rattle.binary_json_answers.specs.declared.MemberAt.{MemberAt}
use Rattle.binary_json_answers.specs.declared.Typed.{Typed}
use Rattle.binary_json_answers.specs.declared.Looked.{Looked}
use Rattle.binary_json_entries.proofs.Entries.{string_inside, slot_text_inside}
use Rattle.binary_json_theorems.proofs.Afterwards.{Ends, AtRefusal, Walked}
use Rattle.binary_json_theorems.proofs.Afterwards as Afterwards
use Rattle.binary_json_theorems.proofs.Before.{Like, Kept}
use Rattle.binary_json_theorems.proofs.Before as Before
use Rattle.binary_json_theorems.proofs.Marks.{fill_in}
use Rattle.binary_json_theorems.proofs.Demands as Rules
use Rattle.claims.specs.declared.BinaryAnswers.{BinaryAnswers}
use Rattle.claims.specs.Promises.{BinaryFixed, MarksLeft, BinaryAccepts, Spans, OfArray, OfObject, OfScalar, OfContainer, OfEntry}
use Rattle.claims.specs.Promises.{RightAnswer, the_member, no_member, LookupsAgree, CheckBinary, CheckBinaryTwice, AskBinary, LookUpBinary, BinaryStringText, BinarySlotText}

-- ---- the check, and the marks afterwards

refused_marks : (doc lent after : List ℕ) (v : Result (Unit {0}) Refusal) → Ends (AtRefusal doc lent) (Walked doc lent) (told_marks v after) → (n p : ℕ) → told v ≡ refuses n p → AtRefusal doc lent n after
refused_marks doc lent after (Ok tt) h n p e = absurd (halt≢done (sym e))
refused_marks doc lent after (Err r) h n p e = subst (λ (q : ℕ). AtRefusal doc lent q after) (ap number e) h
  where
    number : Asked (Unit {0}) → ℕ
    number (halt n p u) = n
    number (done a u) = 0

-- whatever the verdict: as long as they were, and those beyond the tree as they were
kept_marks : (doc lent after : List ℕ) (v : Result (Unit {0}) Refusal) → Ends (AtRefusal doc lent) (Walked doc lent) (told_marks v after)
    → (length after ≡ length lent) × ((k : ℕ) → words doc ≤ k → get_or after k 0 ≡ get_or lent k 0)
kept_marks doc lent after (Ok tt) w = (w.long, w.beyond)
kept_marks doc lent after (Err r) (Afterwards.untouched n e) = (ap length e, λ k h. ap (λ z. get_or z k 0) e)
kept_marks doc lent after (Err r) (Afterwards.walked l h m w) = (w.long, w.beyond)

module _ (doc lent after : List ℕ) (v : Result (Unit {0}) Refusal) (fixed : told_marks v after ≡ verdict doc lent) where
  says : told v ≡ verdict_of (verdict doc lent)
  says = verdict_told v after ∙ ap verdict_of fixed

  accepted_so : told v ≡ answers tt → verdict doc lent ≡ done tt after
  accepted_so e = sym fixed ∙ go v e
    where
      go : (w : Result (Unit {0}) Refusal) → told w ≡ answers tt → told_marks w after ≡ done tt after
      go (Ok tt) e = refl
      go (Err r) e = absurd (halt≢done e)

  accepts : BinaryAccepts doc lent v
  accepts = record {
    accepted = (
      λ e. let d = accepted_so e in (Rules.accepted_exactly doc lent).0 (d ∙ ap (λ z. done tt z) (Rules.accepted_marks doc lent after d)),
      λ m. says ∙ ap verdict_of ((Rules.accepted_exactly doc lent).1 m),
    );
    one_tree = λ t u m n. Rules.one_tree doc t u m n;
  }

  marks_left : MarksLeft doc lent after v
  marks_left =
      let ends : Ends (AtRefusal doc lent) (Walked doc lent) (told_marks v after) = rw fixed (Rules.marks_afterwards doc lent) in
      let (long, beyond) = kept_marks doc lent after v ends in
      let at = refused_marks doc lent after v ends in
      record {
        as_long = long;
        beyond = beyond;
        all_marked = λ e k h. let many = (accepts.accepted.0 e).0 in rw (Rules.accepted_marks doc lent after (accepted_so e)) (fill_in lent 0 (words doc) 1 k (omega arith) (omega arith) (omega arith));
        refused = λ n p e. few n (at n p e);
        unchanged = λ n p e h. same n h (at n p e);
        bits = λ n p e l m. zero_or_one n l m (at n p e);
      }
    where
      few : (n : ℕ) → AtRefusal doc lent n after → n ≤ 15
      few n (Afterwards.untouched (inl h) e) = omega arith
      few n (Afterwards.untouched (inr h) e) = omega arith
      few n (Afterwards.walked l h m w) = omega arith

      same : (n : ℕ) → (n ≤ 7) ⊎ (n ≡ 15) → AtRefusal doc lent n after → after ≡ lent
      same n h (Afterwards.untouched g e) = e
      same n (inl h) (Afterwards.walked l g m w) = absurd (omega arith)
      same n (inr h) (Afterwards.walked l g m w) = absurd (omega arith)

      zero_or_one : (n : ℕ) → 8 ≤ n → n ≤ 14 → AtRefusal doc lent n after → (k : ℕ) → k < words doc → get_or after k 0 ≤ 1
      zero_or_one n l h (Afterwards.untouched (inl g) e) = absurd (omega arith)
      zero_or_one n l h (Afterwards.untouched (inr g) e) = absurd (omega arith)
      zero_or_one n l h (Afterwards.walked a b m w) = w.bits

scalar_reached : (doc : List ℕ) (t : Tree) (m : Means doc t) (u : Tree) → Subtree t u → NoContainer u → (c a : ℕ) × Leads doc c × EntryOf doc c a × EntryIs doc u a
scalar_reached doc t m u whole n = let (q, o, h) = Rules.element_of_scalar doc t m 4 root t n m.root in (4, 8, root, o, h)
scalar_reached doc t m u (Tree.element ts i s x) n =
    let (c, l, h) = Rules.reached doc t m (arr ts) s tt in
    let (q, o, is) = Rules.element_of_array doc t m c l ts i u h x in
    (c, c + 4 + 4 * i, l, o, is)
scalar_reached doc t m u (Tree.value ms j x s y) n =
    let (c, l, h) = Rules.reached doc t m (obj ms) s tt in
    let (q, b, o, is) = Rules.member_of_object doc t m c l ms j x u h y in
    (c, entry_of c (sizem ms) j, l, o, is)

pub check_kept : (doc lent after : List ℕ) (v : Result (Unit {0}) Refusal) → told_marks v after ≡ verdict doc lent → CheckBinary doc lent after v
check_kept doc lent after v fixed = record {
  fixed = fixed;
  marks_left = marks_left doc lent after v fixed;
  accepts = accepts doc lent after v fixed;
  nodes = λ t m. record {
    root_stands = m.root;
    container_stands = λ c l. Rules.container_stands doc t m c l;
    container_one = λ c u w p q. Rules.container_one doc t m c u w p q;
    entry_stands = λ c a l o. Rules.entry_stands doc t m c a l o;
    entry_one = λ a u w p q. Rules.entry_one doc t m a u w p q;
    containers_reached = λ u s n. Rules.reached doc t m u s n;
    scalars_reached = λ u s n. scalar_reached doc t m u s n;
  };
}

same_ends : (doc lent other : List ℕ) (l : words doc ≤ length lent) (r : words doc ≤ length other) (p q : Outcome (List ℕ) (Unit {0})) → Alike (Kept doc lent other l r) (Like doc) p q
    → ((kept_of p ≡ lent) × (kept_of q ≡ other)) ⊎ ((k : ℕ) → k < words doc → get_or (kept_of p) k 0 ≡ get_or (kept_of q) k 0)
same_ends doc lent other l r (halt n p y) (halt m q z) (a, b, Before.untouched e f) = inl (e, f)
same_ends doc lent other l r (halt n p y) (halt m q z) (a, b, Before.walked w) = inr w.same
same_ends doc lent other l r (halt n p y) (done b z) h = absurd h
same_ends doc lent other l r (done a y) (halt m q z) h = absurd h
same_ends doc lent other l r (done a y) (done b z) (e, w) = inr w.same

pub twice_kept : (doc lent after other otherAfter : List ℕ) {v w : Result (Unit {0}) Refusal} → told_marks v after ≡ verdict doc lent → told_marks w otherAfter ≡ verdict doc other
    → CheckBinaryTwice doc lent after other otherAfter (record { first = v; second = w })
twice_kept doc lent after other otherAfter {v} {w} e f l r = record {
  same_verdict = says doc lent after v e ∙ (Rules.same_verdict doc lent other l r ∙ sym (says doc other otherAfter w f));
  same_marks = rw (marks_told v after ∙ ap kept_of e, marks_told w otherAfter ∙ ap kept_of f) (same_ends doc lent other l r (verdict doc lent) (verdict doc other) (Rules.never_asked doc lent other l r));
}

-- ---- the questions

-- what is no container is no object, and an array is none
abbrev NotObject : Tree → Type 0
NotObject null = Unit {0}
NotObject (bool b) = Unit {0}
NotObject (num s m) = Unit {0}
NotObject (str s) = Unit {0}
NotObject (arr ts) = Unit {0}
NotObject (obj ms) = ⊥

scalar_no_object : (u : Tree) → NoContainer u → NoObject u
scalar_no_object u n ms e = n (subst IsContainer (sym e) tt)

array_no_object : (ts : Trees) → NoObject (arr ts)
array_no_object ts ms e = subst NotObject e tt

module _ (doc : List ℕ) (c i a s : ℕ) (r : BinaryAnswers) (fixed : BinaryFixed doc c i a s r) where
  slot_spans : (t : Tree) → Means doc t → (k : ℕ) → k < count doc → s ≡ slot doc k → Spans doc r.slot (content doc k)
  slot_spans t m k b e = let (p, q, w) = Rules.text_of_slot doc t m k b in (p, fixed.slot_is ∙ rw e q, w)

  module _ (t : Tree) (m : Means doc t) where
    module _ (l : Leads doc c) where
      of_array : (ts : Trees) → ContainerIs doc (arr ts) c → OfArray doc c i ts r
      unfolding sized_as
      of_array ts h = record {
        kind_size = fixed.sized_is ∙ Rules.kind_and_size_lem doc t m c l (arr ts) h;
        element_i = λ v y. let (q, o, w) = Rules.element_of_array doc t m c l ts i v h y in (fixed.element_is ∙ q, o, w);
        past_end = λ b. fixed.element_is ∙ Rules.element_past_end doc t m c l ts i h b;
        no_member = fixed.member_is ∙ Rules.member_of_other doc t m c l (arr ts) i (array_no_object ts) h;
      }

      of_object : (ms : Members) → ContainerIs doc (obj ms) c → OfObject doc c i s ms r
      unfolding sized_as
      of_object ms h = record {
        kind_size = fixed.sized_is ∙ Rules.kind_and_size_lem doc t m c l (obj ms) h;
        member_i = λ k v y.
            let (q, same, o, w) = Rules.member_of_object doc t m c l ms i k v h y in
            let (p, f, g, inside) = Rules.key_span doc t m c l ms i k v h y in
            (fixed.member_is ∙ q, λ z. (p, fixed.slot_is ∙ rw z f, g), o, w);
        past_end = λ b. fixed.member_is ∙ Rules.member_past_end doc t m c l ms i h b;
        no_element = fixed.element_is ∙ Rules.element_of_object doc t m c l ms i h;
      }

      of_scalar : (u : Tree) → NoContainer u → ContainerIs doc u c → ask (kind_and_size doc c) ≡ answers (sized 2 1) → OfScalar doc c i u r
      of_scalar u n h k = record {
        kind_size = fixed.sized_is ∙ k;
        element_0 = λ z. let (q, o, w) = Rules.element_of_scalar doc t m c l u n h in ((rw z at fixed.element_is) ∙ q, o, w);
        past_end = λ b. fixed.element_is ∙ Rules.element_past_scalar doc t m c l u i n h b;
        no_member = fixed.member_is ∙ Rules.member_of_other doc t m c l u i (scalar_no_object u n) h;
      }

      of_container : (u : Tree) → ContainerIs doc u c → OfContainer doc c i s u r
      unfolding sized_as
      of_container null h = of_scalar null (λ z. z) h (Rules.kind_and_size_lem doc t m c l null h)
      of_container (bool b) h = of_scalar (bool b) (λ z. z) h (Rules.kind_and_size_lem doc t m c l (bool b) h)
      of_container (num p n) h = of_scalar (num p n) (λ z. z) h (Rules.kind_and_size_lem doc t m c l (num p n) h)
      of_container (str y) h = of_scalar (str y) (λ z. z) h (Rules.kind_and_size_lem doc t m c l (str y) h)
      of_container (arr ts) h = of_array ts h
      of_container (obj ms) h = of_object ms h

    of_entry : (d : ℕ) (v : Tree) → Leads doc d → EntryOf doc d a → EntryIs doc v a → OfEntry doc a v r
    of_entry d v l o h = record {
      type_of = fixed.type_is ∙ Rules.entry_type_lem doc t m d l a o v h;
      container_of = λ n. let (q, z, w) = Rules.container_of_entry doc t m d l a o v n h in (fixed.container_is ∙ q, z, w);
      no_container = λ n. fixed.container_is ∙ Rules.container_of_scalar doc t m d l a o v n h;
      string_of = λ y e. let (p, q, w) = Rules.string_of_entry doc t m d l a o y (subst (λ (z : Tree). EntryIs doc z a) e h) in (p, fixed.string_is ∙ q, w);
      no_string = λ n. fixed.string_is ∙ (Rules.string_of_other doc t m d l a o v n h).0;
      number_of = λ p n e. let (b, q, w) = Rules.number_of_entry doc t m d l a o p n (subst (λ (z : Tree). EntryIs doc z a) e h) in (b, fixed.number_is ∙ q, w);
      no_number = λ n. fixed.number_is ∙ Rules.number_of_other doc t m d l a o v n h;
    }

-- from the contracts of the calls, as the function that makes them has them
pub ask_kept : (doc : List ℕ) (c i a s : ℕ) {z : Result Sized Refusal} {e : Result TreeOffset Refusal} {m : Result MemberAt Refusal} {y : Result Typed Refusal} {o : Result TreeOffset Refusal} {t : Result Span Refusal} {b : Result ℕ Refusal} {w : Result Span Refusal}
    → told_sized z ≡ ask (kind_and_size doc c) → told_tree e ≡ ask (element doc c i) → told_member m ≡ ask (member_at doc c i) → told_type y ≡ ask (entry_type doc a)
    → told_tree o ≡ ask (container_at doc a) → told_span t ≡ ask (string_at doc a) → told_bits b ≡ ask (number_at doc a) → told_span w ≡ ask (slot_text doc s)
    → AskBinary doc c i a s (record { sized = z; element = e; member = m; typed = y; container = o; string = t; number = b; slot = w })
ask_kept doc c i a s {z} {e} {m} {y} {o} {t} {b} {w} h1 h2 h3 h4 h5 h6 h7 h8 =
    let fixed : BinaryFixed doc c i a s (record { sized = z; element = e; member = m; typed = y; container = o; string = t; number = b; slot = w }) = record {
      sized_is = h1;
      element_is = h2;
      member_is = h3;
      type_is = h4;
      container_is = h5;
      string_is = h6;
      number_is = h7;
      slot_is = h8;
      string_inside = string_inside doc a t h6;
      slot_inside = slot_text_inside doc s w h8;
    } in
    record {
      fixed = fixed;
      answered = λ t m. record {
        container_answers = λ u l h. of_container doc c i a s _ fixed t m l u h;
        entry_answers = λ d v l o h. of_entry doc c i a s _ fixed t m d v l o h;
        slot_answers = λ k n e. slot_spans doc c i a s _ fixed t m k n e;
      };
    }

-- ---- both lookups

module _ (doc : List ℕ) (c : ℕ) (x : List ℕ) (q : Result Looked Refusal) (f : Result (Option TreeOffset) Refusal) (quick : told_lookup q ≡ lookup_of (ask (quick_lookup doc c x))) (scan : told_scan f ≡ ask (plain_scan doc c x)) where
  agree : (t : Tree) → Means doc t → Leads doc c → (ms : Members) → ContainerIs doc (obj ms) c → LookupsAgree doc c ms x (record { quick = q; scan = f })
  unfolding lookup_of
  agree t m l ms h =
      let z = Rules.lookups_agree doc t m c ms x l h in
      record {
        answer = z.answer;
        right = right z.answer z.right;
        by_scan = scan ∙ z.by_scan;
        by_halving = rw (← z.first_is, ← z.second_is) (quick ∙ ap lookup_of z.by_halving);
        few = rw (← z.first_is, ← z.second_is) z.few;
      }
    where
      right : (f : Found) → Rules.Answered doc t m c ms x f → RightAnswer doc c ms x f
      right f (Rules.at_entry j v y only e o w) = the_member j v y only e o w
      right f (Rules.nowhere n e) = no_member n e

  no_object : (t u : Tree) → Means doc t → Leads doc c → ContainerIs doc u c → NoObject u → (told_lookup q ≡ lookup (refuses 21 c) 0 0) × (told_scan f ≡ refuses 21 c)
  unfolding lookup_of
  no_object t u m l h n = (quick ∙ ap lookup_of (Rules.quick_lookup_of_other doc t m c l u x n h), scan ∙ Rules.plain_scan_of_other doc t m c l u x n h)

  pub look_up_kept : LookUpBinary doc c x (record { quick = q; scan = f })
  look_up_kept = record { fixed = record { quick_is = quick; scan_is = scan }; agree = agree; no_object = no_object }

-- ---- the texts

pub string_text_kept : (doc : List ℕ) (a : ℕ) (bytes : List ℕ) → bytes ≡ string_bytes doc a → BinaryStringText doc a bytes
string_text_kept doc a bytes e = record {
  fixed = e;
  empty = λ n p h. e ∙ rw h;
  from_tree = λ t m c l o x h. e ∙ Rules.text_of_entry doc t m c l a o x h;
  no_string = λ t m c l o v h n. e ∙ (Rules.string_of_other doc t m c l a o v n h).1;
}

pub slot_text_kept : (doc : List ℕ) (s : ℕ) (bytes : List ℕ) → bytes ≡ slot_bytes doc s → BinarySlotText doc s bytes
slot_text_kept doc s bytes e = record {
  fixed = e;
  empty = λ n p h. e ∙ rw h;
  from_tree = λ t m k b z. e ∙ (ap (slot_bytes doc) z ∙ Rules.bytes_of_slot doc t m k b);
}

pub ruleset binary_laws = (check_kept, twice_kept, ask_kept, look_up_kept, string_text_kept, slot_text_kept, rules)
