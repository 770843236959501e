-- START HERE. Every promise of both readers, in the order of the three demands, each under the demand's own words.
--
-- A document is a list of bytes in one of two formats: BinaryJson, or Fractured JSON (FJ), which has a key list beside
-- it. A check accepts or refuses it; an accepted document means one tree; questions put to it at a place, the cursor,
-- are answered from that tree. The promises speak of what the readers' own calls answered: each function of src/lib.rt
-- makes such calls, for any bytes and numbers, and one of the definitions at the end of this file is its contract. So
-- they are proved of the code itself, and if the contract of a call said less, they would fail.
--
-- They are made of definitions alone, whose rules docs/format has in words:
--   Means doc t                       the document keeps the rules of its format and means the tree t
--   Leads doc o                       the root leads to the node at o, by the bytes alone
--   ContainerIs, EntryIs, StandsFor   for which tree a node stands
--   verdict, and a rule a question    the answer, or the number and the place of the first rule that fails
--   told..                            what each case of an answer of the code says, in numbers and values
-- "01" and "02" are the papers that the demands name; docs/format/README.md says where their rules stand.
use Rattle.std.specs.Prelude.{ℕ, ◌+◌, ◌*◌, ◌≤◌, ◌<◌, Bool, List, [], ◌↔◌, ◌⊎◌, ◌≡◌, length, get_or, Result, Ok, Err}
use Rattle.json_model.specs.Bytes.{part}
use Rattle.json_model.specs.Number.{binary64, float_tree}
use Rattle.json_model.specs.Reading.{Asked, ask, answers, refuses, told, kept_of, verdict_of}
use Rattle.json_model.specs.declared.Span.{Span}
use Rattle.json_model.specs.Texts.{compare_texts, is_equal}
use Rattle.json_model.specs.Tree.{Tree, null, bool, num, str, arr, obj, Trees, Members, size, sizem, ElementIs, MemberIs, Lacks, IsContainer, NoContainer, NoNumber, NoString, NoArray, NoObject, Subtree}
use Rattle.json_model.specs.declared.Refusal.{Refusal}
use Rattle.text.specs.Steps.{compare_steps}
use Rattle.text.specs.Hash.{hash_of}
use Rattle.binary_json_rules.specs.Areas.{word, high, count, slot, content}
use Rattle.binary_json_rules.specs.Meaning.{EntryIs, ContainerIs, Means}
use Rattle.binary_json_rules.specs.Marks.{words}
use Rattle.binary_json_rules.specs.Verdict.{verdict}
use Rattle.binary_json_rules.specs.Leads.{EntryOf, Leads}
use Rattle.binary_json_rules.specs.Questions.{kind_and_size, element, key_entry_of, entry_of, member_at, slot_text, slot_bytes, entry_type, container_at, string_at, string_bytes, number_at}
use Rattle.binary_json_rules.specs.Halving.{digits, turns_of}
use Rattle.binary_json_rules.specs.Lookup.{Found, entry, absent, quick_lookup, lookup, lookup_of, text_halving, key_turns, plain_scan}
use Rattle.binary_json_rules.specs.Answers.{sized, typed_as}
use Rattle.binary_json_check.specs.Told.{told_marks}
use Rattle.binary_json_answers.specs.Told.{SpanInside, told_sized, told_tree, told_member, told_type, told_span, told_bits, told_scan, told_lookup}
use Rattle.fractured_json_rules.specs.ByteTables.{Len, f_object, f_array, form_of}
use Rattle.fractured_json_rules.specs.Meaning.{Names, Lists, no_key, Keys, Means as FjMeans}
use Rattle.fractured_json_rules.specs.KeyList.{key_list}
use Rattle.fractured_json_rules.specs.Verdict.{verdict as fjVerdict}
use Rattle.fractured_json_rules.specs.KeyTable.{room_of, key_of}
use Rattle.fractured_json_rules.specs.TreeOf.{key_end}
use Rattle.fractured_json_rules.specs.Leads.{element_place, key_place, Leads as FjLeads, StandsFor}
use Rattle.fractured_json_rules.specs.Questions as Fj
use Rattle.fractured_json_rules.specs.Answers.{kind_of, value_of}
use Rattle.fractured_json_answers.specs.Told.{told_place, told_kind, told_number, told_text, told_member as fjToldMember, told_found, told_key}
use Rattle.fractured_json_answers.specs.declared.Key.{Key}
use Rattle.frame_rules.specs.Frame.{answer_of}
use Rattle.frame_rules.specs.Texts.{answer_text, total_text}
use Rattle.frame.specs.Written.{Written}
use Rattle.claims.specs.declared.BinaryAnswers.{BinaryAnswers}
use Rattle.claims.specs.declared.BothLookups.{BothLookups}
use Rattle.claims.specs.declared.TwoVerdicts.{TwoVerdicts}
use Rattle.claims.specs.declared.FracturedAnswers.{FracturedAnswers}
use Rattle.claims.specs.declared.FracturedChecked.{FracturedChecked}
use Rattle.claims.specs.declared.TextAnswers.{TextAnswers}

-- ==== DEMAND 1. "Whatever bytes, cursors, keys and key tables are handed over, each public entry point ends and stays
-- inside them." That is proved of every function by the language, and no function of src/lib.rt has a `requires`, so
-- none of the calls that it makes has one. "Bad input is refused with the number and place that document 01 fixes.
-- Nobody has to have checked first." Refused or not, each answer is the one that its rule gives.

-- ---- BinaryJson: the questions, put to any bytes doc at any Meta cursor c with any index i, at any Entry cursor a and
-- at any slot cursor s; r is what they answered

pub record BinaryFixed (doc : List ℕ) (c i a s : ℕ) (r : BinaryAnswers) : Type 0 where
  pub sized_is : told_sized r.sized ≡ ask (kind_and_size doc c)
  pub element_is : told_tree r.element ≡ ask (element doc c i)
  pub member_is : told_member r.member ≡ ask (member_at doc c i)
  pub type_is : told_type r.typed ≡ ask (entry_type doc a)
  pub container_is : told_tree r.container ≡ ask (container_at doc a)
  pub string_is : told_span r.string ≡ ask (string_at doc a)
  pub number_is : told_bits r.number ≡ ask (number_at doc a)
  pub slot_is : told_span r.slot ≡ ask (slot_text doc s)
  -- a text that is answered lies inside the document
  pub string_inside : SpanInside doc r.string
  pub slot_inside : SpanInside doc r.slot

-- both lookups, at any Meta cursor c with any key x
pub record LookupsFixed (doc : List ℕ) (c : ℕ) (x : List ℕ) (r : BothLookups) : Type 0 where
  pub quick_is : told_lookup r.quick ≡ lookup_of (ask (quick_lookup doc c x))
  pub scan_is : told_scan r.scan ≡ ask (plain_scan doc c x)

-- 02, L4, says what the lent marks hold afterwards: "After 7 and 15 all marks are set to 0, and then 1 exactly for
-- words of bodies marked; before that, and beyond the tree's marks, the buffer is unchanged." Which of them are 1 at a
-- refusal is what `verdict` says; of an accepted document all are.
pub record MarksLeft (doc lent after : List ℕ) (v : Result (Unit {0}) Refusal) : Type 0 where
  pub as_long : length after ≡ length lent
  pub beyond : (k : ℕ) → words doc ≤ k → get_or after k 0 ≡ get_or lent k 0
  pub all_marked : told v ≡ answers tt → (k : ℕ) → k < words doc → get_or after k 0 ≡ 1
  pub refused : (n p : ℕ) → told v ≡ refuses n p → n ≤ 15
  pub unchanged : (n p : ℕ) → told v ≡ refuses n p → (n ≤ 7) ⊎ (n ≡ 15) → after ≡ lent
  pub bits : (n p : ℕ) → told v ≡ refuses n p → 8 ≤ n → n ≤ 14 → (k : ℕ) → k < words doc → get_or after k 0 ≤ 1

-- What the marks held before is never asked: two checks with marks enough say the same, and leave the same marks of the
-- tree, or both leave what they were lent.
pub record MarksNeverAsked (doc lent after other otherAfter : List ℕ) (r : TwoVerdicts) : Type 0 where
  pub same_verdict : told r.first ≡ told r.second
  pub same_marks : ((after ≡ lent) × (otherAfter ≡ other)) ⊎ ((k : ℕ) → k < words doc → get_or after k 0 ≡ get_or otherAfter k 0)

-- ---- FJ: the questions, with any key list, any words as the key table and any count, at any cursor o with any index i
-- and key x, and at any key byte k

abbrev pub TextInside : List ℕ → Result Span Refusal → Type 0
TextInside doc (Ok s) = s.place + s.len ≤ length doc
TextInside doc (Err r) = Unit {0}

-- inside the bytes of its lender
abbrev pub KeyInside : List ℕ → List ℕ → Result Key Refusal → Type 0
KeyInside doc list (Ok (Key.Document place len past)) = place + len ≤ length doc
KeyInside doc list (Ok (Key.List place len past)) = place + len ≤ length list
KeyInside doc list (Err r) = Unit {0}

pub record FracturedFixed (doc list words : List ℕ) (count o i : ℕ) (x : List ℕ) (k : ℕ) (r : FracturedAnswers) : Type 0 where
  pub end_is : told_place r.end ≡ ask (Fj.end_of doc list words count o)
  pub kind_is : told_kind r.kind ≡ ask (Fj.kind doc list o)
  pub number_is : told_number r.number ≡ ask (Fj.number_at doc list o)
  pub string_is : told_text r.string ≡ ask (Fj.string_at doc list o)
  pub element_is : told_place r.element ≡ ask (Fj.element_at doc list words count o i)
  pub member_is : fjToldMember r.member ≡ ask (Fj.member_at doc list words count o i)
  pub first_is : told_found r.first ≡ ask (Fj.first_member doc list words count o x)
  pub key_is : told_key r.key ≡ ask (Fj.key_at doc list words count k)
  -- a text that is answered lies inside the bytes that hold it
  pub string_inside : TextInside doc r.string
  pub key_inside : KeyInside doc list r.key

-- 02, L1: "A bad table refuses the whole call with its own number before 31 is tried."
pub record BadList (n p : ℕ) (r : FracturedAnswers) : Type 0 where
  pub end_refused : told_place r.end ≡ refuses n p
  pub kind_refused : told_kind r.kind ≡ refuses n p
  pub number_refused : told_number r.number ≡ refuses n p
  pub string_refused : told_text r.string ≡ refuses n p
  pub element_refused : told_place r.element ≡ refuses n p
  pub member_refused : fjToldMember r.member ≡ refuses n p
  pub first_refused : told_found r.first ≡ refuses n p
  pub key_refused : told_key r.key ≡ refuses n p

-- "01 says what the lent key table holds afterwards": each immediate key passed before the end or the refusal has its
-- pair, all other words keep what they held, and the number of those pairs is given. A bad key list leaves the table as
-- it was.
pub record TableLeft (doc list lent after : List ℕ) (v : Result (Unit {0}) Refusal) (count : ℕ) : Type 0 where
  pub verdict_is : told v ≡ verdict_of (fjVerdict (room_of lent) doc list)
  pub count_is : count ≡ length (kept_of (fjVerdict (room_of lent) doc list))
  pub as_long : length after ≡ length lent
  pub each_pair : (j : ℕ) → j < count → key_of after j ≡ get_or (kept_of (fjVerdict (room_of lent) doc list)) j no_key
  pub all_others : (i : ℕ) → 2 * count ≤ i → get_or after i 0 ≡ get_or lent i 0
  pub bad_list : (n p : ℕ) → ask (key_list list) ≡ refuses n p → (told v ≡ refuses n p) × (count ≡ 0) × (after ≡ lent)

-- ==== DEMAND 2. "A document is accepted exactly if it keeps the format's rules as condensed in 01, with room for its
-- keys in the table lent. Each accepted document means one tree. Every question put to a node that its root leads to,
-- with the key table and count its own check gave, is answered from that tree."

-- ---- BinaryJson, "with marks enough" (02, L4)

pub record BinaryAccepts (doc lent : List ℕ) (v : Result (Unit {0}) Refusal) : Type 0 where
  pub accepted : (told v ≡ answers tt) ↔ ((words doc ≤ length lent) × ((t : Tree) × Means doc t))
  pub one_tree : (t u : Tree) → Means doc t → Means doc u → t ≡ u

-- The root container stands for the tree. Each container that the root leads to, and each Entry of one, stands for one
-- subtree; and every subtree is reached so.
pub record BinaryNodes (doc : List ℕ) (t : Tree) : Type 0 where
  pub root_stands : ContainerIs doc t 4
  pub container_stands : (c : ℕ) → Leads doc c → (u : Tree) × ContainerIs doc u c × Subtree t u
  pub container_one : (c : ℕ) (u v : Tree) → ContainerIs doc u c → ContainerIs doc v c → u ≡ v
  pub entry_stands : (c a : ℕ) → Leads doc c → EntryOf doc c a → (v : Tree) × EntryIs doc v a × Subtree t v
  pub entry_one : (a : ℕ) (u v : Tree) → EntryIs doc u a → EntryIs doc v a → u ≡ v
  pub containers_reached : (u : Tree) → Subtree t u → IsContainer u → (c : ℕ) × Leads doc c × ContainerIs doc u c
  pub scalars_reached : (u : Tree) → Subtree t u → NoContainer u → (c a : ℕ) × Leads doc c × EntryOf doc c a × EntryIs doc u a

-- an answer that gives the text x as a part of the document
abbrev pub Spans : List ℕ → Result Span Refusal → List ℕ → Type 0
Spans doc r x = (p : Span) × (told_span r ≡ answers p) × (part doc p.place p.len ≡ x)

-- asked at the container at c, an array answers so,
pub record OfArray (doc : List ℕ) (c i : ℕ) (ts : Trees) (r : BinaryAnswers) : Type 0 where
  pub kind_size : told_sized r.sized ≡ answers (sized 0 (size ts))
  pub element_i : (v : Tree) → ElementIs ts i v
      → (told_tree r.element ≡ answers (c + 4 + 4 * i)) × EntryOf doc c (c + 4 + 4 * i) × EntryIs doc v (c + 4 + 4 * i)
  pub past_end : size ts ≤ i → told_tree r.element ≡ refuses 22 c
  pub no_member : told_member r.member ≡ refuses 21 c

-- an object so (its lookups are demand 3's); asked at the slot that `member` gives, a member's key is the slot's text,
pub record OfObject (doc : List ℕ) (c i s : ℕ) (ms : Members) (r : BinaryAnswers) : Type 0 where
  pub kind_size : told_sized r.sized ≡ answers (sized 1 (sizem ms))
  pub member_i : (k : List ℕ) (v : Tree) → MemberIs ms i k v
      → (told_member r.member ≡ answers (record { slot = word doc (key_entry_of c i); entry = entry_of c (sizem ms) i }))
      × (s ≡ word doc (key_entry_of c i) → Spans doc r.slot k)
      × EntryOf doc c (entry_of c (sizem ms) i) × EntryIs doc v (entry_of c (sizem ms) i)
  pub past_end : sizem ms ≤ i → told_member r.member ≡ refuses 22 c
  pub no_element : told_tree r.element ≡ refuses 21 c

-- and a scalar, alone in a container of kind 2, so
pub record OfScalar (doc : List ℕ) (c i : ℕ) (u : Tree) (r : BinaryAnswers) : Type 0 where
  pub kind_size : told_sized r.sized ≡ answers (sized 2 1)
  pub element_0 : i ≡ 0 → (told_tree r.element ≡ answers (c + 4)) × EntryOf doc c (c + 4) × EntryIs doc u (c + 4)
  pub past_end : 1 ≤ i → told_tree r.element ≡ refuses 22 c
  pub no_member : told_member r.member ≡ refuses 21 c

abbrev pub OfContainer : List ℕ → ℕ → ℕ → ℕ → Tree → BinaryAnswers → Type 0
OfContainer doc c i s null r = OfScalar doc c i null r
OfContainer doc c i s (bool b) r = OfScalar doc c i (bool b) r
OfContainer doc c i s (num m n) r = OfScalar doc c i (num m n) r
OfContainer doc c i s (str x) r = OfScalar doc c i (str x) r
OfContainer doc c i s (arr ts) r = OfArray doc c i ts r
OfContainer doc c i s (obj ms) r = OfObject doc c i s ms r

-- asked at the Entry at a, which stands for v
pub record OfEntry (doc : List ℕ) (a : ℕ) (v : Tree) (r : BinaryAnswers) : Type 0 where
  pub type_of : told_type r.typed ≡ answers (typed_as v)
  pub container_of : IsContainer v → (told_tree r.container ≡ answers (high doc a)) × Leads doc (high doc a) × ContainerIs doc v (high doc a)
  pub no_container : NoContainer v → told_tree r.container ≡ refuses 21 a
  pub string_of : (x : List ℕ) → v ≡ str x → Spans doc r.string x
  pub no_string : NoString v → told_span r.string ≡ refuses 21 a
  pub number_of : (m : Bool) (n : ℕ) → v ≡ num m n → (bits : ℕ) × (told_bits r.number ≡ answers bits) × (float_tree binary64 bits ≡ num m n)
  pub no_number : NoNumber v → told_bits r.number ≡ refuses 21 a

-- the container at c, each Entry of a container, and each slot answer from what they stand for
pub record BinaryAnswered (doc : List ℕ) (t : Tree) (c i a s : ℕ) (r : BinaryAnswers) : Type 0 where
  pub container_answers : (u : Tree) → Leads doc c → ContainerIs doc u c → OfContainer doc c i s u r
  pub entry_answers : (d : ℕ) (v : Tree) → Leads doc d → EntryOf doc d a → EntryIs doc v a → OfEntry doc a v r
  pub slot_answers : (k : ℕ) → k < count doc → s ≡ slot doc k → Spans doc r.slot (content doc k)

-- ---- FJ, "document and table" (02, L1)

pub record FracturedAccepts (doc list lent : List ℕ) (v : Result (Unit {0}) Refusal) : Type 0 where
  pub accepted : (told v ≡ answers tt) ↔ ((t : Tree) × (m : FjMeans doc list t) × (length m.keys ≤ room_of lent))
  pub one_tree : (t u : Tree) → FjMeans doc list t → FjMeans doc list u → t ≡ u
  -- the pairs of an accepted document are its immediate keys
  pub pairs_are : (t : Tree) (m : FjMeans doc list t) → length m.keys ≤ room_of lent → kept_of (fjVerdict (room_of lent) doc list) ≡ m.keys

-- The root value stands for the tree. Each value that the root leads to stands for one subtree; and every subtree is
-- reached so.
pub record FracturedNodes (doc list : List ℕ) (t : Tree) (m : FjMeans doc list t) : Type 0 where
  pub root_stands : StandsFor doc m.names m.keys 3 t
  pub value_stands : (o : ℕ) → FjLeads doc o → (u : Tree) × StandsFor doc m.names m.keys o u × Subtree t u
  pub value_one : (o : ℕ) (u v : Tree) → StandsFor doc m.names m.keys o u → StandsFor doc m.names m.keys o v → u ≡ v
  pub values_reached : (u : Tree) → Subtree t u → (o : ℕ) × FjLeads doc o × StandsFor doc m.names m.keys o u

-- r gives the place of element i of the array at o, whose values are ts
pub record ElementAnswer (doc : List ℕ) (names : Names) (ks : Keys) (o i : ℕ) (ts : Trees) (r : Asked ℕ) : Type 0 where
  pub len : Len
  pub is_array : form_of (get_or doc o 0) ≡ f_array len
  pub answered : r ≡ answers (element_place doc o len i)
  pub led_to : FjLeads doc (element_place doc o len i)
  pub tree : Tree
  pub stands : StandsFor doc names ks (element_place doc o len i) tree
  pub is_element : ElementIs ts i tree

-- r gives the places of the key byte and of the value of member i of the object at o, whose members are ms; asked at
-- that key byte, q gives the member's key as a part of the document or of the key list, and where it ends, which is
-- where the value starts
pub record MemberAnswer (doc list : List ℕ) (names : Names) (ks : Keys) (o i k : ℕ) (ms : Members) (r : Asked Fj.MemberAt) (q : Asked Fj.KeyRead) : Type 0 where
  pub len : Len
  pub is_object : form_of (get_or doc o 0) ≡ f_object len
  pub answered : r ≡ answers (record { key = key_place doc o len i; value = key_end doc (key_place doc o len i) })
  pub led_to : FjLeads doc (key_end doc (key_place doc o len i))
  pub key : List ℕ
  pub tree : Tree
  pub stands : StandsFor doc names ks (key_end doc (key_place doc o len i)) tree
  pub is_member : MemberIs ms i key tree
  pub key_read : k ≡ key_place doc o len i
      → (b : Fj.KeyRead) × (q ≡ answers b) × (Fj.text_in doc list b ≡ key) × (b.past ≡ key_end doc (key_place doc o len i))

-- r gives the place of the value of the first member with the key x, or absent exactly where no member has it
pub data FirstAnswer (doc : List ℕ) (names : Names) (ks : Keys) (o : ℕ) (ms : Members) (x : List ℕ) (r : Asked Fj.Found) : Type 0 where
  first : (len : Len) → form_of (get_or doc o 0) ≡ f_object len → (j : ℕ) (v : Tree) → MemberIs ms j x v
      → ((i : ℕ) (w : Tree) → i < j → MemberIs ms i x w → ⊥) → r ≡ answers (Fj.value_at (key_end doc (key_place doc o len j)))
      → FjLeads doc (key_end doc (key_place doc o len j)) → StandsFor doc names ks (key_end doc (key_place doc o len j)) v → FirstAnswer doc names ks o ms x r
  none : Lacks ms x → r ≡ answers Fj.absent → FirstAnswer doc names ks o ms x r

-- asked of the value at o, which stands for u and ends at `past`
pub record OfValue (doc list : List ℕ) (names : Names) (ks : Keys) (o i : ℕ) (x : List ℕ) (k : ℕ) (u : Tree) (past : ℕ) (r : FracturedAnswers) : Type 0 where
  pub the_end : told_place r.end ≡ answers past
  pub the_kind : told_kind r.kind ≡ answers (kind_of u)
  pub number_of : (m : Bool) (n : ℕ) → u ≡ num m n
      → (b : Fj.Bits) × (told_number r.number ≡ answers b) × (b.type ≡ get_or doc o 0) × (value_of b ≡ num m n)
  pub no_number : NoNumber u → told_number r.number ≡ refuses 21 o
  -- the text ends where the value does
  pub string_of : (y : List ℕ) → u ≡ str y
      → (p : ℕ) × (told_text r.string ≡ answers (record { place = p; len = length y })) × (part doc p (length y) ≡ y) × (p + length y ≡ past)
  pub no_string : NoString u → told_text r.string ≡ refuses 21 o
  pub element_i : (ts : Trees) → u ≡ arr ts → i < size ts → ElementAnswer doc names ks o i ts (told_place r.element)
  pub past_array : (ts : Trees) → u ≡ arr ts → size ts ≤ i → told_place r.element ≡ refuses 22 o
  pub no_array : NoArray u → told_place r.element ≡ refuses 21 o
  pub member_i : (ms : Members) → u ≡ obj ms → i < sizem ms → MemberAnswer doc list names ks o i k ms (fjToldMember r.member) (told_key r.key)
  pub past_object : (ms : Members) → u ≡ obj ms → sizem ms ≤ i → fjToldMember r.member ≡ refuses 22 o
  pub the_first : (ms : Members) → u ≡ obj ms → FirstAnswer doc names ks o ms x (told_found r.first)
  pub no_object : NoObject u → (fjToldMember r.member ≡ refuses 21 o) × (told_found r.first ≡ refuses 21 o)

-- with the key table and the count that its own check left in the words lent
abbrev pub FracturedAnswered : List ℕ → List ℕ → List ℕ → ℕ → ℕ → List ℕ → ℕ → FracturedAnswers → Type 0
FracturedAnswered doc list lent o i x k r =
    (t u : Tree) (m : FjMeans doc list t) → length m.keys ≤ room_of lent → FjLeads doc o → (s : StandsFor doc m.names m.keys o u)
    → OfValue doc list m.names m.keys o i x k u s.past r

-- ==== DEMAND 3. "For every accepted BinaryJson document, every object its root leads to and every key, quick lookup
-- and plain scan give the same answer: the Entry of the member with exactly that key, whose value is the one the tree
-- holds under it, or absent exactly when no member has it."

pub data RightAnswer (doc : List ℕ) (c : ℕ) (ms : Members) (x : List ℕ) (f : Found) : Type 0 where
  the_member : (j : ℕ) (v : Tree) → MemberIs ms j x v → ((i : ℕ) (w : Tree) → MemberIs ms i x w → i ≡ j) → f ≡ entry (entry_of c (sizem ms) j)
      → EntryOf doc c (entry_of c (sizem ms) j) → EntryIs doc v (entry_of c (sizem ms) j) → RightAnswer doc c ms x f
  no_member : Lacks ms x → f ≡ absent → RightAnswer doc c ms x f

-- "The quick lookup's two counts equal 01's halving rule, and together never exceed the binary digits of the string
-- count plus those of the object's size."
pub record LookupsAgree (doc : List ℕ) (c : ℕ) (ms : Members) (x : List ℕ) (r : BothLookups) : Type 0 where
  pub answer : Found
  pub right : RightAnswer doc c ms x answer
  pub by_scan : told_scan r.scan ≡ answers answer
  pub by_halving : told_lookup r.quick ≡ lookup (answers answer) (turns_of (text_halving doc x)) (key_turns doc c (sizem ms) (text_halving doc x))
  pub few : turns_of (text_halving doc x) + key_turns doc c (sizem ms) (text_halving doc x) ≤ digits (count doc) + digits (sizem ms)

-- ==== THE CLAIMS: what each function of src/lib.rt promises of the calls that it makes. Words lent are as they were
-- lent (`lent`) and as they are afterwards (`after`).

-- ---- BinaryJson

-- `check_binary`: the check
pub record CheckBinary (doc lent after : List ℕ) (v : Result (Unit {0}) Refusal) : Type 0 where
  pub fixed : told_marks v after ≡ verdict doc lent
  pub marks_left : MarksLeft doc lent after v
  pub accepts : BinaryAccepts doc lent v
  pub nodes : (t : Tree) → Means doc t → BinaryNodes doc t

-- `check_binary_twice`: the check, and the check with other marks
abbrev pub CheckBinaryTwice : List ℕ → List ℕ → List ℕ → List ℕ → List ℕ → TwoVerdicts → Type 0
CheckBinaryTwice doc lent after other otherAfter r = words doc ≤ length lent → words doc ≤ length other → MarksNeverAsked doc lent after other otherAfter r

-- `ask_binary`: every question that answers no bytes
pub record AskBinary (doc : List ℕ) (c i a s : ℕ) (r : BinaryAnswers) : Type 0 where
  pub fixed : BinaryFixed doc c i a s r
  pub answered : (t : Tree) → Means doc t → BinaryAnswered doc t c i a s r

-- `look_up_binary`: both lookups; of what is no object they give 21
pub record LookUpBinary (doc : List ℕ) (c : ℕ) (x : List ℕ) (r : BothLookups) : Type 0 where
  pub fixed : LookupsFixed doc c x r
  pub agree : (t : Tree) → Means doc t → Leads doc c → (ms : Members) → ContainerIs doc (obj ms) c → LookupsAgree doc c ms x r
  pub no_object : (t u : Tree) → Means doc t → Leads doc c → ContainerIs doc u c → NoObject u
      → (told_lookup r.quick ≡ lookup (refuses 21 c) 0 0) × (told_scan r.scan ≡ refuses 21 c)

-- `binary_string_text`, `binary_slot_text`: the text as a part of the document itself, empty at a refusal
pub record BinaryStringText (doc : List ℕ) (a : ℕ) (bytes : List ℕ) : Type 0 where
  pub fixed : bytes ≡ string_bytes doc a
  pub empty : (n p : ℕ) → ask (string_at doc a) ≡ refuses n p → bytes ≡ []
  pub from_tree : (t : Tree) → Means doc t → (c : ℕ) → Leads doc c → EntryOf doc c a → (x : List ℕ) → EntryIs doc (str x) a → bytes ≡ x
  pub no_string : (t : Tree) → Means doc t → (c : ℕ) → Leads doc c → EntryOf doc c a → (v : Tree) → EntryIs doc v a → NoString v → bytes ≡ []

pub record BinarySlotText (doc : List ℕ) (s : ℕ) (bytes : List ℕ) : Type 0 where
  pub fixed : bytes ≡ slot_bytes doc s
  pub empty : (n p : ℕ) → ask (slot_text doc s) ≡ refuses n p → bytes ≡ []
  pub from_tree : (t : Tree) → Means doc t → (k : ℕ) → k < count doc → s ≡ slot doc k → bytes ≡ content doc k

-- ---- FJ

-- `check_list`: the check of a key list alone
pub record CheckList (list : List ℕ) (v : Result (Unit {0}) Refusal) : Type 0 where
  pub fixed : told v ≡ ask (key_list list)
  pub accepted : (told v ≡ answers tt) ↔ ((names : Names) × Lists list names)

-- `ask_fractured`: every question that answers no bytes, with any words and any count
pub record AskFractured (doc list words : List ℕ) (count o i : ℕ) (x : List ℕ) (k : ℕ) (r : FracturedAnswers) : Type 0 where
  pub fixed : FracturedFixed doc list words count o i x k r
  pub bad_list : (n p : ℕ) → ask (key_list list) ≡ refuses n p → BadList n p r

-- `check_and_ask_fractured`: the check, and then every question with the words and the count that it left
pub record CheckAndAskFractured (doc list lent after : List ℕ) (o i : ℕ) (x : List ℕ) (k : ℕ) (r : FracturedChecked) : Type 0 where
  pub table_left : TableLeft doc list lent after r.verdict r.count
  pub accepts : FracturedAccepts doc list lent r.verdict
  pub nodes : (t : Tree) (m : FjMeans doc list t) → FracturedNodes doc list t m
  pub answered : FracturedAnswered doc list lent o i x k r.answers

-- `fractured_string_text`: the text as a part of the document itself, empty at a refusal
pub record FracturedStringText (doc list : List ℕ) (o : ℕ) (bytes : List ℕ) : Type 0 where
  pub fixed : bytes ≡ Fj.string_bytes doc list o
  pub empty : (n p : ℕ) → ask (Fj.string_at doc list o) ≡ refuses n p → bytes ≡ []
  pub from_tree : (t : Tree) (m : FjMeans doc list t) → FjLeads doc o → (y : List ℕ) → StandsFor doc m.names m.keys o (str y) → bytes ≡ y
  pub no_string : (t u : Tree) (m : FjMeans doc list t) → FjLeads doc o → StandsFor doc m.names m.keys o u → NoString u → bytes ≡ []

-- `fractured_key_text`: "a part of whichever lent bytes hold it, the document or the key list" (02, L1), which is the
-- lender that the rule names; empty at a refusal
pub record FracturedKeyText (doc list words : List ℕ) (count k : ℕ) (bytes : List ℕ) : Type 0 where
  pub from_lender : (b : Fj.KeyRead) → ask (Fj.key_at doc list words count k) ≡ answers b → bytes ≡ part (Fj.lent doc list b.lender) b.place b.len
  pub empty : (n p : ℕ) → ask (Fj.key_at doc list words count k) ≡ refuses n p → bytes ≡ []

-- `member_key_text`: the check, and then, with the words and the count that it left, the text at the key byte that
-- `member` gives: the key of member j of the object at o
abbrev pub MemberKeyText : List ℕ → List ℕ → List ℕ → ℕ → ℕ → List ℕ → Type 0
MemberKeyText doc list lent o j bytes =
    (t : Tree) (m : FjMeans doc list t) → length m.keys ≤ room_of lent → FjLeads doc o → (ms : Members) → StandsFor doc m.names m.keys o (obj ms)
    → j < sizem ms → (v : Tree) × MemberIs ms j bytes v

-- ---- texts (02, L3) and the bench (01, "Frames on the bench")

-- `compare_texts`: "below, equal or above and exactly this number of steps"; the order alone, whether two texts are the
-- same, and a hash
pub record CompareTexts (a b : List ℕ) (r : TextAnswers) : Type 0 where
  pub order_is : r.compared.order ≡ compare_texts a b
  pub steps_are : r.compared.steps ≡ compare_steps a b
  pub alone_is : r.order ≡ compare_texts a b
  pub same_is : r.same ≡ is_equal (compare_texts a b)
  pub hash_is : r.hash ≡ hash_of a

-- `bench_line`, `bench_total`: the line that answers line n of the input, and the last line, each written over the
-- start of the text lent, which has room for it; r is its length
abbrev pub BenchLine : ℕ → List ℕ → List ℕ → List ℕ → ℕ → Type 0
BenchLine n line lent after r = Written lent 0 (answer_text n (answer_of line)) after r × (r ≤ length after)

abbrev pub BenchTotal : ℕ → ℕ → List ℕ → List ℕ → ℕ → Type 0
BenchTotal frames ok lent after r = Written lent 0 (total_text frames ok) after r × (r ≤ length after)
