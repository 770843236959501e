-- Demands 2 and 3 over the rules of BinaryJson, each theorem under the demand's words. Demand 1 is the code's: `check` and
-- every question are total functions of all bytes, marks, cursors and keys, and the reader is proved equal to them.
use mathlib.Core.Path.{◌≡◌, refl, sym, ap, ◌∙◌}
use mathlib.Core.Logic.{◌↔◌}
use mathlib.Core.Bool.{Bool}
use mathlib.Core.List.{List, []}
use Prim.Native.Nat.{ℕ, ◌+◌, ◌*◌, ◌^◌, ◌≤◌, ◌<◌}
use native.Mathlib.Omega.{arith}
use lib.ListN.{length, get_or}
use Rattle.json_model.specs.Reading.{done, ask, answers, refuses, verdict_of}
use Rattle.json_model.specs.Bytes.{number, part}
use Rattle.json_model.specs.Number.{binary64, float_tree}
use Rattle.json_model.specs.declared.Span.{Span}
use Rattle.json_model.specs.Texts.{compare_numbers}
use Rattle.json_model.specs.Tree.{Tree, num, str, arr, obj, Trees, Members, size, sizem, ElementIs, MemberIs, Lacks, IsContainer, NoNumber, NoString, NoObject, NoContainer, Subtree, whole}
use Rattle.json_model.specs.Tree as Tree
use Rattle.json_model.proofs.Alike.{Alike, alike_verdict}
use Rattle.json_model.proofs.Tree.{element_below, member_below}
use Rattle.binary_json_rules.specs.Areas.{word, high, count, slot, content}
use Rattle.binary_json_rules.specs.Meaning.{EntryIs, ContainerIs, Means}
use Rattle.binary_json_rules.specs.Marks.{words, fill, unmarked}
use Rattle.binary_json_rules.specs.Verdict.{verdict}
use Rattle.binary_json_rules.specs.TreeOf.{tree_of}
use Rattle.binary_json_rules.specs.Leads.{EntryOf, of_array, of_scalar, of_object, Leads, root, named}
use Rattle.binary_json_rules.specs.Questions.{kind_and_size, element, key_entry_of, entry_of, member_at, slot_text, slot_bytes, entry_type, container_at, string_at, string_bytes, number_at}
use Rattle.binary_json_rules.specs.Halving.{digits, turns_of, Halved, found, missed, broken}
use Rattle.binary_json_rules.specs.Lookup.{Found, entry, absent, key_item, keys, counted, quick_here, quick_lookup, content_item, text_halving, key_turns, scan_here, plain_scan}
use Rattle.binary_json_rules.specs.Answers.{sized_as, typed_as}
use Rattle.binary_json_theorems.proofs.Sound.{sound}
use Rattle.binary_json_theorems.proofs.Complete.{complete}
use Rattle.binary_json_theorems.proofs.Afterwards.{Ends, AtRefusal, Walked, afterwards}
use Rattle.binary_json_theorems.proofs.Marks.{unmarked_first}
use Rattle.binary_json_theorems.proofs.Before.{Like, Kept, whatever_before}
use Rattle.binary_json_theorems.proofs.Trees.{means_tree}
use Rattle.binary_json_theorems.proofs.Nodes as Nodes
use Rattle.binary_json_theorems.proofs.Answers as Answers
use Rattle.binary_json_theorems.proofs.Halves.{halving_turns, never_broken}
use Rattle.binary_json_theorems.proofs.Halves as Halves
use Rattle.binary_json_theorems.proofs.Lookups.{has, lacks}
use Rattle.binary_json_theorems.proofs.Lookups as Lookups

-- ---- The second halving compares numbers: it is never broken off, in any bytes.

pub keys_never_broken : (doc : List ℕ) (c n v : ℕ) → keys doc c n v ≡ broken → ⊥
keys_never_broken doc c n v = never_broken (key_item doc c v) n (λ j. (compare_numbers (word doc (key_entry_of c j)) v, refl))

-- ---- What the binary digits of a number are, which demand 3 counts: a number of d of them lies below 2 ^ d, and, unless it is
-- zero, not below half of that.

pub below_digits : (m : ℕ) → m < 2 ^ digits m
below_digits m = Halves.below_digits m

pub digits_exact : (m : ℕ) → 0 < m → 2 ^ digits m ≤ 2 * m
digits_exact m p = Halves.digits_exact m p

-- ---- Demand 2: "A document is accepted exactly if it keeps the format's rules as condensed in 01", with marks enough for
-- the words of its tree. Afterwards each of these marks is 1, and those beyond are as they were.

pub accepted_exactly : (doc marks : List ℕ) → (verdict doc marks ≡ done tt (fill marks 0 (words doc) 1)) ↔ ((words doc ≤ length marks) × ((t : Tree) × Means doc t))
accepted_exactly doc marks = (
  λ a. let x = sound doc marks a in (x.many, (x.tree, x.means)),
  λ m. let (after, e) = complete doc m.1.0 m.1.1 marks m.0 in let f = (sound doc marks e).after in rw (← f) e,
)

-- whatever the marks are afterwards, a document that is accepted leaves those
pub accepted_marks : (doc marks after : List ℕ) → verdict doc marks ≡ done tt after → after ≡ fill marks 0 (words doc) 1
accepted_marks doc marks after a = (sound doc marks a).after

-- with fewer marks it never is
pub too_few_marks : (doc marks after : List ℕ) → length marks < words doc → verdict doc marks ≡ done tt after → ⊥
too_few_marks doc marks after h a = let m = (sound doc marks a).many in omega arith

-- ---- "After 7 and 15 all marks are set to 0, and then 1 exactly for words of bodies marked; before that, and beyond the tree's
-- marks, the buffer is unchanged": after any verdict. Which of them are 1 is what `verdict` itself says.

pub marks_afterwards : (doc marks : List ℕ) → Ends (AtRefusal doc marks) (Walked doc marks) (verdict doc marks)
marks_afterwards doc marks = afterwards doc marks

-- What they held before is never asked: with marks enough in both, two buffers get the same number and place; and at the end
-- those of the tree are the same in both, or at a refusal both are as they were lent (by `marks_afterwards`, after 1 to 7).
module _ (doc ms ns : List ℕ) (left : words doc ≤ length ms) (right : words doc ≤ length ns) where
  pub never_asked : Alike (Kept doc ms ns left right) (Like doc) (verdict doc ms) (verdict doc ns)
  never_asked = whatever_before doc ms ns left right

  pub same_verdict : verdict_of (verdict doc ms) ≡ verdict_of (verdict doc ns)
  same_verdict = alike_verdict (Kept doc ms ns left right) (Like doc) (verdict doc ms) (verdict doc ns) never_asked

-- ---- "Afterwards 13 stands at the first unmarked word": the word whose place 13 is given at is the first whose mark is 0

pub first_unmarked : (marks : List ℕ) (n : ℕ) → unmarked marks 0 n < n
    → (get_or marks (unmarked marks 0 n) 0 ≡ 0) × ((k : ℕ) → k < unmarked marks 0 n → get_or marks k 0 ≡ 0 → ⊥)
first_unmarked marks n h =
    let f = unmarked_first marks 0 n (omega arith) in
    (f.0, λ k b. f.1 k (omega arith) b)

-- ---- "Each accepted document means one tree."

pub tree_of_lem : (doc : List ℕ) (t : Tree) → Means doc t → tree_of doc ≡ t
tree_of_lem doc t m = means_tree doc t m

pub one_tree : (doc : List ℕ) (t u : Tree) → Means doc t → Means doc u → t ≡ u
one_tree doc t u m n = sym (tree_of_lem doc t m) ∙ tree_of_lem doc u n

-- ---- What a container stands for has its Entries there: one for each element and member, and one for a scalar alone.

module _ (doc : List ℕ) (c : ℕ) where
  pub element_entry : (ts : Trees) (i : ℕ) (v : Tree) → ContainerIs doc (arr ts) c → ElementIs ts i v → EntryOf doc c (c + 4 + 4 * i)
  element_entry ts i v h x = of_array i h.0.kind_is (rw h.0.size_is (element_below ts i v x)) refl

  pub member_entry : (ms : Members) (j : ℕ) (x : List ℕ) (v : Tree) → ContainerIs doc (obj ms) c → MemberIs ms j x v → EntryOf doc c (entry_of c (sizem ms) j)
  member_entry ms j x v h y = of_object j h.0.kind_is (rw h.0.size_is (member_below ms j x v y)) (rw h.0.size_is)

  pub scalar_entry : (u : Tree) → NoContainer u → ContainerIs doc u c → EntryOf doc c (c + 4)
  scalar_entry u n h =
      let s = (Nodes.scalar_is doc u c n h).0 in
      let one = s.size_is in
      of_scalar 0 s.kind_is (omega arith) (omega arith)

module _ (doc : List ℕ) (t : Tree) (m : Means doc t) where
  -- ---- Each container that the root leads to, and each Entry of it, stands for one subtree of that tree.

  pub container_stands : (c : ℕ) → Leads doc c → (u : Tree) × ContainerIs doc u c × Subtree t u
  container_stands c l = let x = Nodes.container_at_lem doc t m l in (x.tree, x.is, x.within)

  pub container_one : (c : ℕ) (u v : Tree) → ContainerIs doc u c → ContainerIs doc v c → u ≡ v
  container_one c u v p q = Nodes.container_one doc c u v p q

  pub entry_stands : (c a : ℕ) → Leads doc c → EntryOf doc c a → (v : Tree) × EntryIs doc v a × Subtree t v
  entry_stands c a l o = let x = Nodes.entry_in doc t c a (Nodes.container_at_lem doc t m l) o in (x.tree, x.is, x.within)

  pub entry_one : (a : ℕ) (u v : Tree) → EntryIs doc u a → EntryIs doc v a → u ≡ v
  entry_one a u v p q = Nodes.entry_one doc a u v p q

  -- ---- "Every question put to a node that its root leads to is answered from that tree." At a container:

  module _ (c : ℕ) (l : Leads doc c) where
    aligned : Nodes.Aligned c
    aligned = (Nodes.container_at_lem doc t m l).aligned

    -- kind and size
    pub kind_and_size_lem : (u : Tree) → ContainerIs doc u c → ask (kind_and_size doc c) ≡ answers (sized_as u)
    kind_and_size_lem u h = Answers.kind_answer doc t m c u h aligned

    -- element i of an array: an Entry of it, which stands for value i; past the end 22; of an object 21
    pub element_of_array : (ts : Trees) (i : ℕ) (v : Tree) → ContainerIs doc (arr ts) c → ElementIs ts i v
        → (ask (element doc c i) ≡ answers (c + 4 + 4 * i)) × EntryOf doc c (c + 4 + 4 * i) × EntryIs doc v (c + 4 + 4 * i)
    element_of_array ts i v h x =
        (Answers.element_answer doc t m c i ts h aligned (element_below ts i v x), element_entry doc c ts i v h x, Nodes.element_is doc ts i (c + 4) v h.1 x)

    pub element_past_end : (ts : Trees) (i : ℕ) → ContainerIs doc (arr ts) c → size ts ≤ i → ask (element doc c i) ≡ refuses 22 c
    element_past_end ts i h b = Answers.element_past doc t m c i ts h aligned b

    pub element_of_object : (ms : Members) (i : ℕ) → ContainerIs doc (obj ms) c → ask (element doc c i) ≡ refuses 21 c
    element_of_object ms i h = Answers.element_wrong doc t m c i ms h aligned

    -- a scalar alone is element 0 of its container of kind 2
    pub element_of_scalar : (u : Tree) → NoContainer u → ContainerIs doc u c → (ask (element doc c 0) ≡ answers (c + 4)) × EntryOf doc c (c + 4) × EntryIs doc u (c + 4)
    element_of_scalar u n h = (Answers.scalar_answer doc t m c u n h aligned, scalar_entry doc c u n h, (Nodes.scalar_is doc u c n h).1)

    pub element_past_scalar : (u : Tree) (i : ℕ) → NoContainer u → ContainerIs doc u c → 1 ≤ i → ask (element doc c i) ≡ refuses 22 c
    element_past_scalar u i n h b = Answers.scalar_past doc t m c i u n h aligned b

    -- member j of an object: its slot's text is the key, and its Entry, one of the object's, stands for the value; past the
    -- end 22; of anything else 21
    pub member_of_object : (ms : Members) (j : ℕ) (x : List ℕ) (v : Tree) → ContainerIs doc (obj ms) c → MemberIs ms j x v
        → (ask (member_at doc c j) ≡ answers (record { slot = word doc (key_entry_of c j); entry = entry_of c (sizem ms) j }))
        × (slot_bytes doc (word doc (key_entry_of c j)) ≡ x) × EntryOf doc c (entry_of c (sizem ms) j) × EntryIs doc v (entry_of c (sizem ms) j)
    member_of_object ms j x v h y =
        let (k, is, e) = Answers.key_slot doc t m ms j 0 (c + 4) (c + 4 + 4 * sizem ms) x v h.1 y in (
          Answers.member_answer doc t m c j ms x v h aligned (member_below ms j x v y) y,
          Answers.slot_bytes_lem doc t m _ k is ∙ sym e,
          member_entry doc c ms j x v h y,
          Nodes.member_is_lem doc ms j 0 (c + 4) _ x v h.1 y,
        )

    -- asked at that slot, the key of member j is the text at a place and a length that lie in the document
    pub key_span : (ms : Members) (j : ℕ) (x : List ℕ) (v : Tree) → ContainerIs doc (obj ms) c → MemberIs ms j x v
        → (p : Span) × (ask (slot_text doc (word doc (key_entry_of c j))) ≡ answers p) × (part doc p.place p.len ≡ x) × (p.place + p.len ≤ length doc)
    key_span ms j x v h y =
        let (k, is, e) = Answers.key_slot doc t m ms j 0 (c + 4) (c + 4 + 4 * sizem ms) x v h.1 y in
        (Answers.span_of doc t m k, Answers.slot_answer doc t m _ k is, Answers.span_content doc t m k ∙ sym e, Answers.span_inside doc t m k is.counted)

    pub member_past_end : (ms : Members) (j : ℕ) → ContainerIs doc (obj ms) c → sizem ms ≤ j → ask (member_at doc c j) ≡ refuses 22 c
    member_past_end ms j h b = Answers.member_past doc t m c j ms h aligned b

    pub member_of_other : (u : Tree) (j : ℕ) → NoObject u → ContainerIs doc u c → ask (member_at doc c j) ≡ refuses 21 c
    member_of_other u j n h = Answers.member_wrong doc t m c j u n h aligned

    -- lookups asked of anything but an object
    pub quick_lookup_of_other : (u : Tree) (x : List ℕ) → NoObject u → ContainerIs doc u c → ask (quick_lookup doc c x) ≡ refuses 21 c
    unfolding quick_lookup quick_here
    quick_lookup_of_other u x n h = Answers.object_wrong doc t m c u _ n h aligned

    pub plain_scan_of_other : (u : Tree) (x : List ℕ) → NoObject u → ContainerIs doc u c → ask (plain_scan doc c x) ≡ refuses 21 c
    unfolding plain_scan scan_here
    plain_scan_of_other u x n h = Answers.object_wrong doc t m c u _ n h aligned

    -- ---- At an Entry of it:

    module _ (a : ℕ) (o : EntryOf doc c a) where
      at : Nodes.Entry doc t a
      at = Nodes.entry_in doc t c a (Nodes.container_at_lem doc t m l) o

      -- its type
      pub entry_type_lem : (v : Tree) → EntryIs doc v a → ask (entry_type doc a) ≡ answers (typed_as v)
      entry_type_lem v h = Answers.type_answer doc t m a v h at.aligned at.inside

      -- its container, which stands for the same tree; 21 of a scalar
      pub container_of_entry : (v : Tree) → IsContainer v → EntryIs doc v a
          → (ask (container_at doc a) ≡ answers (high doc a)) × Leads doc (high doc a) × ContainerIs doc v (high doc a)
      container_of_entry v n h =
          let (k, s) = Answers.container_named doc t m a v n h in
          (Answers.container_answer doc t m a v n h at.aligned at.inside (Nodes.entry_named doc t a at k).aligned, named c a l o k, s)

      pub container_of_scalar : (v : Tree) → NoContainer v → EntryIs doc v a → ask (container_at doc a) ≡ refuses 21 a
      container_of_scalar v n h = Answers.container_wrong doc t m a v n h at.aligned at.inside

      -- its string, both ways; 21, and no text, of anything else
      pub string_of_entry : (s : List ℕ) → EntryIs doc (str s) a → (p : Span) × (ask (string_at doc a) ≡ answers p) × (part doc p.place p.len ≡ s)
      string_of_entry s h =
          (Answers.span_of doc t m h.0, Answers.string_answer doc t m a s h at.aligned at.inside, Answers.span_content doc t m h.0 ∙ sym h.3)

      pub text_of_entry : (s : List ℕ) → EntryIs doc (str s) a → string_bytes doc a ≡ s
      text_of_entry s h = let (p, e, f) = string_of_entry s h in rw e f

      pub string_of_other : (v : Tree) → NoString v → EntryIs doc v a → (ask (string_at doc a) ≡ refuses 21 a) × (string_bytes doc a ≡ [])
      string_of_other v n h = let e = Answers.string_wrong doc t m a v n h at.aligned at.inside in (e, rw e)

      -- its number: 64 bits of exactly that value; 21 of anything else
      pub number_of_entry : (s : Bool) (n : ℕ) → EntryIs doc (num s n) a → (bits : ℕ) × (ask (number_at doc a) ≡ answers bits) × (float_tree binary64 bits ≡ num s n)
      number_of_entry s n h = (number doc (high doc a) 8, Answers.number_answer doc t m a s n h at.aligned at.inside, sym h.4)

      pub number_of_other : (v : Tree) → NoNumber v → EntryIs doc v a → ask (number_at doc a) ≡ refuses 21 a
      number_of_other v n h = Answers.number_wrong doc t m a v n h at.aligned at.inside

  -- ---- Each container of the tree stands at a container that the root leads to, and so each value of it at an Entry of one
  -- (by element_entry, member_entry and scalar_entry).

  pub reached : (u : Tree) → Subtree t u → IsContainer u → (c : ℕ) × Leads doc c × ContainerIs doc u c
  reached u whole n = (4, root, m.root)
  reached u (Tree.element ts i s x) n =
      let (c, l, h) = reached (arr ts) s tt in
      let (q, o, is) = element_of_array c l ts i u h x in
      let (a, k, w) = container_of_entry c l (c + 4 + 4 * i) o u n is in
      (high doc (c + 4 + 4 * i), k, w)
  reached u (Tree.value ms j x s y) n =
      let (c, l, h) = reached (obj ms) s tt in
      let (q, b, o, is) = member_of_object c l ms j x u h y in
      let (a, k, w) = container_of_entry c l (entry_of c (sizem ms) j) o u n is in
      (high doc (entry_of c (sizem ms) j), k, w)

  -- ---- At a slot: its text, both ways

  pub text_of_slot : (k : ℕ) → k < count doc → (p : Span) × (ask (slot_text doc (slot doc k)) ≡ answers p) × (part doc p.place p.len ≡ content doc k)
  text_of_slot k b = (Answers.span_of doc t m k, Answers.slot_answer doc t m (slot doc k) k (record { counted = b; place = refl }), Answers.span_content doc t m k)

  pub bytes_of_slot : (k : ℕ) → k < count doc → slot_bytes doc (slot doc k) ≡ content doc k
  bytes_of_slot k b = Answers.slot_bytes_lem doc t m (slot doc k) k (record { counted = b; place = refl })

  -- ---- Demand 3: "For every accepted BinaryJson document, every object its root leads to and every key, quick lookup and
  -- plain scan give the same answer: the Entry of the member with exactly that key, whose value is the one the tree holds
  -- under it, or absent exactly when no member has it. The quick lookup's two counts equal 01's halving rule, and together
  -- never exceed the binary digits of the string count plus those of the object's size."

  -- what the one answer r to the key x says, at the object at c with the members ms
  pub data Answered (c : ℕ) (ms : Members) (x : List ℕ) (r : Found) : Type 0 where
    at_entry : (j : ℕ) (v : Tree) → MemberIs ms j x v → ((i : ℕ) (w : Tree) → MemberIs ms i x w → i ≡ j)
        → r ≡ entry (entry_of c (sizem ms) j) → EntryOf doc c (entry_of c (sizem ms) j) → EntryIs doc v (entry_of c (sizem ms) j) → Answered c ms x r
    nowhere : Lacks ms x → r ≡ absent → Answered c ms x r

  pub record LookedUp (c : ℕ) (ms : Members) (x : List ℕ) : Type 0 where
    pub answer : Found
    pub right : Answered c ms x answer
    pub by_scan : ask (plain_scan doc c x) ≡ answers answer
    pub first : ℕ
    pub second : ℕ
    pub by_halving : ask (quick_lookup doc c x) ≡ answers (counted answer first second)
    pub first_is : first ≡ turns_of (text_halving doc x)
    pub second_is : second ≡ key_turns doc c (sizem ms) (text_halving doc x)
    pub few : first + second ≤ digits (count doc) + digits (sizem ms)

  second_few : (c n : ℕ) (h : Halved) → key_turns doc c n h ≤ digits n
  second_few c n (found k turns) = halving_turns _ n
  second_few c n (missed k turns) = omega arith
  second_few c n broken = omega arith

  pub lookups_agree : (c : ℕ) (ms : Members) (x : List ℕ) → Leads doc c → ContainerIs doc (obj ms) c → LookedUp c ms x
  lookups_agree c ms x l h =
      let z = aligned c l in
      let q = Lookups.quick_right doc t m c ms h z x in
      let (r, right, scanned) = Lookups.scan_right doc t m c ms h z x in
      let same : r ≡ q.found_is_lem = Lookups.right_one doc t m c ms h x r q.found_is_lem right q.right in
      let a = halving_turns (content_item doc x) (count doc) in
      let b = second_few c (sizem ms) (text_halving doc x) in
      record {
        answer = q.found_is_lem;
        right = go q.found_is_lem q.right;
        by_scan = scanned ∙ ap answers same;
        first = turns_of (text_halving doc x);
        second = key_turns doc c (sizem ms) (text_halving doc x);
        by_halving = q.same;
        first_is = refl;
        second_is = refl;
        few = omega arith;
      }
    where
      go : (f : Found) → Lookups.Right doc t m c ms h x f → Answered c ms x f
      go f (has j v y e) = at_entry j v y (λ i w g. Lookups.key_once doc t m c ms h i j x w v g y) e (member_entry doc c ms j x v h y) (Nodes.member_is_lem doc ms j 0 (c + 4) _ x v h.1 y)
      go f (lacks n e) = nowhere n e
