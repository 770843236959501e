-- Fractured JSON: demand 1 is the contracts of the calls put side by side; with the theorems over the rules, demand 2
-- follows from it.
use mathlib.Core.Path.{◌≡◌, refl, sym, ap, ◌∙◌, subst}
use mathlib.Core.List.{List}
use Prim.Native.Nat.{ℕ, ◌+◌, ◌≤◌}
use lib.ListN.{length, get_or}
use borrow.Author.Rules.{rules}
use Rattle.json_model.specs.Bytes.{Bytes, part}
use Rattle.json_model.specs.Reading.{Outcome, halt, done, Asked, ask, answers, told, kept_of, verdict_of}
use Rattle.json_model.specs.declared.Span.{Span}
use Rattle.std.specs.Prelude.{Option, Result, Ok, Err}
use Rattle.json_model.specs.declared.Refusal.{Refusal}
use Rattle.json_model.specs.Tree.{Tree, arr, obj, Members, Subtree, whole}
use Rattle.json_model.specs.Tree as Tree
use Rattle.json_model.proofs.Reading.{halt≢done, done_answer, step}
use Rattle.fractured_json_rules.specs.ByteTables.{Len, f_object, form_of}
use Rattle.fractured_json_rules.specs.Meaning.{Keys, Means}
use Rattle.fractured_json_rules.specs.KeyList.{key_list}
use Rattle.fractured_json_rules.specs.Verdict.{verdict}
use Rattle.fractured_json_rules.specs.KeyTable.{room_of, key_of, checked}
use Rattle.fractured_json_rules.specs.TreeOf.{key_end}
use Rattle.fractured_json_rules.specs.Leads.{element_place, key_place, Leads, root, StandsFor}
use Rattle.fractured_json_rules.specs.Questions.{Found, MemberAt, end_of, kind, number_at, string_at, string_here, string_bytes, element_at, member_at, first_member, key_at, key_bytes}
use Rattle.fractured_json_theorems.proofs.KeyList.{list_exactly}
use Rattle.fractured_json_theorems.proofs.Nodes.{root_stands, member_value}
use Rattle.fractured_json_theorems.proofs.Readers.{text_step}
use Rattle.fractured_json_theorems.proofs.Demands as Rules
use Rattle.fractured_json_check.specs.Told.{told_checked}
use Rattle.fractured_json_check.proofs.Checks as Checks
use Rattle.fractured_json_check.specs.declared.answers.Checked.{Checked}
use Rattle.fractured_json_answers.specs.Told.{told_place, told_kind, told_number, told_text, told_member, told_found, told_key}
use Rattle.fractured_json_answers.specs.declared.Kind.{Kind}
use Rattle.fractured_json_answers.specs.declared.Number.{Number}
use Rattle.fractured_json_answers.specs.declared.Member.{Member}
use Rattle.fractured_json_answers.specs.declared.Key.{Key}
use Rattle.claims.specs.declared.FracturedAnswers.{FracturedAnswers}
use Rattle.claims.specs.Promises.{TextInside, KeyInside, FracturedFixed, TableLeft, FracturedAccepts, FracturedNodes, FirstAnswer, first, none, FracturedAnswered}
use Rattle.claims.specs.Promises.{CheckList, AskFractured, CheckAndAskFractured, FracturedStringText, FracturedKeyText, MemberKeyText}

-- ---- the checks

pub list_kept : (list : List ℕ) (v : Result (Unit {0}) Refusal) → told v ≡ ask (key_list list) → CheckList list v
list_kept list v e = record { fixed = e; accepted = (λ a. (list_exactly list).0 (sym e ∙ a), λ b. e ∙ (list_exactly list).1 b) }

accepted_keys : (q : Outcome Keys (Unit {0})) → answers tt ≡ verdict_of q → (ks : Keys) × (q ≡ done tt ks)
accepted_keys (halt n p ks) e = absurd (halt≢done (sym e))
accepted_keys (done tt ks) e = (ks, refl)

module _ (doc list lent after : List ℕ) (r : Checked) (contract : told_checked r after ≡ checked doc list lent) where
  verdict_is : told r.verdict ≡ verdict_of (verdict (room_of lent) doc list)
  verdict_is = ap (λ c. c.verdict) contract

  count_is : r.count ≡ (checked doc list lent).count
  count_is = ap (λ c. c.count) contract

  words_are : after ≡ (checked doc list lent).words
  words_are = ap (λ c. c.words) contract

  table_left : TableLeft doc list lent after r.verdict r.count
  table_left =
      let k = Rules.table_kept doc list lent in
      record {
        verdict_is = verdict_is;
        count_is = count_is;
        as_long = ap length words_are ∙ k.as_long;
        each_pair = λ j h. ap (λ w. key_of w j) words_are ∙ k.each_pair j (rw count_is at h);
        all_others = λ i h. ap (λ w. get_or w i 0) words_are ∙ k.all_others i (rw count_is at h);
        bad_list = λ n p e. let c = contract ∙ Checks.bad_list doc list lent n p e in (ap (λ z. z.verdict) c, ap (λ z. z.count) c, ap (λ z. z.words) c);
      }

  accepts : FracturedAccepts doc list lent r.verdict
  accepts = record {
    accepted = (
      λ a. (Rules.accepted_exactly (room_of lent) doc list).0 (accepted_keys (verdict (room_of lent) doc list) (sym a ∙ verdict_is)),
      λ b. verdict_is ∙ ap verdict_of ((Rules.accepted_exactly (room_of lent) doc list).1 b).1,
    );
    one_tree = λ t u m n. Rules.one_tree doc list t u m n;
    pairs_are = λ t m h. ap kept_of (Rules.accepted_keys (room_of lent) doc list t m h);
  }

-- ---- the nodes

reached : (doc list : List ℕ) (t : Tree) (m : Means doc list t) (u : Tree) → Subtree t u → (o : ℕ) × Leads doc o × StandsFor doc m.names m.keys o u
reached doc list t m u whole = (3, root, root_stands doc list t m)
reached doc list t m u (Tree.element ts i s x) =
    let (o, l, h) = reached doc list t m (arr ts) s in
    let (k, w) = Rules.element_led doc list t m l ts i u h x in
    (element_place doc o h.value.0 i, k, w)
reached doc list t m u (Tree.value ms j x s y) =
    let (o, l, h) = reached doc list t m (obj ms) s in
    let (b, r, k) = Rules.member_led doc list t m l ms j x u h y in
    (key_end doc (key_place doc o h.value.0 j), k, member_value doc m.names r)

nodes : (doc list : List ℕ) (t : Tree) (m : Means doc list t) → FracturedNodes doc list t m
nodes doc list t m = record {
  root_stands = root_stands doc list t m;
  value_stands = λ o l. Rules.node doc list t m l;
  value_one = λ o u v p q. Rules.node_one doc list m.names m.listed m.keys o u v p q;
  values_reached = λ u s. reached doc list t m u s;
}

-- ---- the questions

span_inside : (doc list : List ℕ) (o : ℕ) (p : Span) → ask (string_at doc list o) ≡ answers p → p.place + p.len ≤ length doc
unfolding string_at string_here
span_inside doc list o p e =
    let opened = step _ _ tt e in
    let n = step _ _ tt opened.rest in
    let (fits, rest) = text_step doc o n.got _ tt n.rest in
    subst (λ (q : Span). q.place + q.len ≤ length doc) (done_answer rest) fits

string_inside : (doc list : List ℕ) (o : ℕ) (r : Result Span Refusal) → told_text r ≡ ask (string_at doc list o) → TextInside doc r
string_inside doc list o (Ok s) e = span_inside doc list o _ (sym e)
string_inside doc list o (Err r) e = tt

key_inside : (doc list words : List ℕ) (count k : ℕ) (r : Result Key Refusal) → told_key r ≡ ask (key_at doc list words count k) → KeyInside doc list r
key_inside doc list words count k (Ok (Key.Document p n past)) e = Rules.key_inside doc list words count _ k (sym e)
key_inside doc list words count k (Ok (Key.List p n past)) e = Rules.key_inside doc list words count _ k (sym e)
key_inside doc list words count k (Err r) e = tt

pub ask_kept : (doc list words : List ℕ) (count o i : ℕ) (x : List ℕ) (k : ℕ) {a : Result ℕ Refusal} {b : Result Kind Refusal} {c : Result Number Refusal} {d : Result Span Refusal} {e : Result ℕ Refusal} {f : Result Member Refusal} {g : Result (Option ℕ) Refusal} {h : Result Key Refusal}
    → told_place a ≡ ask (end_of doc list words count o) → told_kind b ≡ ask (kind doc list o) → told_number c ≡ ask (number_at doc list o)
    → told_text d ≡ ask (string_at doc list o) → told_place e ≡ ask (element_at doc list words count o i) → told_member f ≡ ask (member_at doc list words count o i)
    → told_found g ≡ ask (first_member doc list words count o x) → told_key h ≡ ask (key_at doc list words count k)
    → AskFractured doc list words count o i x k (record { end = a; kind = b; number = c; string = d; element = e; member = f; first = g; key = h })
ask_kept doc list words count o i x k {a} {b} {c} {d} {e} {f} {g} {h} h1 h2 h3 h4 h5 h6 h7 h8 = record {
  fixed = record {
    end_is = h1;
    kind_is = h2;
    number_is = h3;
    string_is = h4;
    element_is = h5;
    member_is = h6;
    first_is = h7;
    key_is = h8;
    string_inside = string_inside doc list o d h4;
    key_inside = key_inside doc list words count k h h8;
  };
  bad_list = λ n p bad. record {
    end_refused = h1 ∙ Rules.bad_list_end doc list o n p bad words count;
    kind_refused = h2 ∙ Rules.bad_list_kind doc list o n p bad;
    number_refused = h3 ∙ Rules.bad_list_number doc list o n p bad;
    string_refused = h4 ∙ (Rules.bad_list_string doc list o n p bad).0;
    element_refused = h5 ∙ Rules.bad_list_element doc list o n p bad words count i;
    member_refused = h6 ∙ Rules.bad_list_member doc list o n p bad words count i;
    first_refused = h7 ∙ Rules.bad_list_first_member doc list o n p bad words count x;
    key_refused = h8 ∙ (Rules.bad_list_key doc list k n p bad words count).0;
  };
}

-- with the words and the count that the check leaves
module _ (doc list lent : List ℕ) (bytes : Bytes doc) (o i : ℕ) (x : List ℕ) (k : ℕ) (r : FracturedAnswers)
    (fixed : FracturedFixed doc list (checked doc list lent).words (checked doc list lent).count o i x k r) where
  of_value : FracturedAnswered doc list lent o i x k r
  of_value t u m roomy l s =
      let same : (v : Tree) → u ≡ v → StandsFor doc m.names m.keys o v = λ v e. subst (λ (z : Tree). StandsFor doc m.names m.keys o z) e s in
      record {
        the_end = fixed.end_is ∙ Rules.end_answer doc list t m lent roomy l u s;
        the_kind = fixed.kind_is ∙ Rules.kind_answer doc list t m l u s;
        number_of = λ p n e. let (b, q, w) = Rules.number_answer doc list t m l bytes p n (same _ e) in (record { type = get_or doc o 0; bits = b }, fixed.number_is ∙ q, refl, w);
        no_number = λ n. fixed.number_is ∙ Rules.number_wrong doc list t m l u s n;
        string_of = λ y e.
            subst (λ (v : Tree). (z : StandsFor doc m.names m.keys o v)
            → (p : ℕ) × (told_text r.string ≡ answers (record { place = p; len = length y })) × (part doc p (length y) ≡ y) × (p + length y ≡ z.past))
            (sym e) (λ z. let (p, q, w, ends) = Rules.string_answer doc list t m l y z in (p, fixed.string_is ∙ q, w, ends)) s;
        no_string = λ n. fixed.string_is ∙ Rules.string_wrong doc list t m l u s n;
        element_i = λ ts e h.
            let a = Rules.element_answer doc list t m lent roomy l ts i (same _ e) h in
            record {
              len = (same _ e).value.0;
              is_array = (same _ e).value.1.form_is;
              answered = fixed.element_is ∙ a.answered;
              led_to = a.led_to;
              tree = a.tree;
              stands = a.stands;
              is_element = a.is_element;
            };
        past_array = λ ts e h. fixed.element_is ∙ Rules.element_past doc list t m lent roomy l ts i (same _ e) h;
        no_array = λ n. fixed.element_is ∙ Rules.element_wrong doc list t m lent roomy l u i s n;
        member_i = λ ms e h.
            let a = Rules.member_answer doc list t m lent roomy l ms i (same _ e) h in
            record {
              len = (same _ e).value.0;
              is_object = (same _ e).value.1.form_is;
              answered = fixed.member_is ∙ a.answered;
              led_to = a.led_to;
              key = a.key;
              tree = a.tree;
              stands = a.stands;
              is_member = a.is_member;
              key_read = λ z. (
                a.key_read.read,
                fixed.key_is ∙ (ap (λ b. ask (key_at doc list (checked doc list lent).words (checked doc list lent).count b)) z ∙ a.key_read.answered),
                a.key_read.text,
                a.key_read.ends,
              );
            };
        past_object = λ ms e h. fixed.member_is ∙ Rules.member_past doc list t m lent roomy l ms i (same _ e) h;
        the_first = λ ms e.
            let is = same _ e in
            subst (λ (q : Asked Found). FirstAnswer doc m.names m.keys o ms x q) (sym fixed.first_is)
            (first_is ms is.value.0 is.value.1.form_is _ (Rules.first_member_answer doc list t m lent roomy l ms x is));
        no_object = λ n. (fixed.member_is ∙ Rules.member_wrong doc list t m lent roomy l u i s n, fixed.first_is ∙ Rules.first_member_wrong doc list t m lent roomy l u x s n);
      }
    where
      first_is : (ms : Members) (len : Len) → form_of (get_or doc o 0) ≡ f_object len → (q : Asked Found)
          → Rules.FirstMemberAnswer doc m.names m.keys ms x (λ j. key_end doc (key_place doc o len j)) q → FirstAnswer doc m.names m.keys o ms x q
      first_is ms len form q (Rules.first j v is earlier on stands a) = first len form j v is earlier a on stands
      first_is ms len form q (Rules.none lacks a) = none lacks a

pub checked_kept : (doc list lent after : List ℕ) (o i : ℕ) (x : List ℕ) (k : ℕ) {c : Checked} {a : FracturedAnswers} → Bytes doc
    → told_checked c after ≡ checked doc list lent → AskFractured doc list after c.count o i x k a
    → CheckAndAskFractured doc list lent after o i x k (record { verdict = c.verdict; count = c.count; answers = a })
checked_kept doc list lent after o i x k {c} {a} bytes e asked = record {
  table_left = table_left doc list lent after c e;
  accepts = accepts doc list lent after c e;
  nodes = nodes doc list;
  answered = of_value doc list lent bytes o i x k a (rw (← words_are doc list lent after c e, ← count_is doc list lent after c e) asked.fixed);
}

-- ---- the texts

pub string_text_kept : (doc list : List ℕ) (o : ℕ) (bytes : List ℕ) → bytes ≡ string_bytes doc list o → FracturedStringText doc list o bytes
string_text_kept doc list o bytes e = record {
  fixed = e;
  empty = λ n p h. e ∙ rw h;
  from_tree = λ t m l y s. e ∙ Rules.string_bytes_lem doc list t m l y s;
  no_string = λ t u m l s n. e ∙ Rules.string_bytes_wrong doc list t m l u s n;
}

pub key_text_kept : (doc list words : List ℕ) (count k : ℕ) (bytes : List ℕ) → bytes ≡ key_bytes doc list words count k → FracturedKeyText doc list words count k bytes
key_text_kept doc list words count k bytes e = record { from_lender = λ b h. e ∙ rw h; empty = λ n p h. e ∙ rw h }

-- the place of the key byte that `member` gives
abbrev key_answered : Asked MemberAt → ℕ
key_answered (halt n p u) = 0
key_answered (done q u) = q.key

module _ (doc list lent after : List ℕ) (o j : ℕ) (c : Checked) (a : Result Member Refusal) (checks : told_checked c after ≡ checked doc list lent)
    (asks : told_member a ≡ ask (member_at doc list after c.count o j)) where
  asked : told_member a ≡ ask (member_at doc list (checked doc list lent).words (checked doc list lent).count o j)
  asked = asks ∙ rw (words_are doc list lent after c checks, count_is doc list lent after c checks)

  pub member_key_kept : (q : Member) (bytes : List ℕ) → a ≡ Ok q → bytes ≡ key_bytes doc list after c.count q.key → MemberKeyText doc list lent o j bytes
  member_key_kept q bytes at text t m roomy l ms s h =
      let z = Rules.member_answer doc list t m lent roomy l ms j s h in
      let here : q.key ≡ key_place doc o s.value.0 j = ap key_answered (sym (ap told_member at) ∙ (asked ∙ z.answered)) in
      let same : bytes ≡ z.key =
      text ∙ (rw (words_are doc list lent after c checks, count_is doc list lent after c checks, here) (Rules.key_bytes_lem doc list _ _ _ z.key _ z.key_read)) in
      (z.tree, rw same z.is_member)

  pub member_key_refused : (bytes : List ℕ) (q : Refusal) → a ≡ Err q → MemberKeyText doc list lent o j bytes
  member_key_refused bytes q at t m roomy l ms s h =
      let z = Rules.member_answer doc list t m lent roomy l ms j s h in absurd (halt≢done (sym (ap told_member at) ∙ (asked ∙ z.answered)))

pub ruleset fractured_laws = (list_kept, ask_kept, checked_kept, string_text_kept, key_text_kept, member_key_kept, member_key_refused, rules)
