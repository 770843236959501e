-- What is accepted keeps the rules: a check that is done has found a tree, what each Entry stands for, and where the
-- containers stand; and it has counted each word of the tree once for each body that holds it.
use mathlib.Core.Path.{◌≡◌, refl, sym, ap, ◌∙◌}
use mathlib.Core.Bool.{Bool, true, false, not}
use mathlib.Core.List.{List}
use mathlib.Core.Logic.{◌⊎◌, inl, inr}
use Prim.Native.Nat.{ℕ, zero, suc, ◌+◌, ◌-◌, ◌*◌, ◌/◌, ◌%◌, ◌≤◌, ◌<◌}
use native.Mathlib.Nat.{max-le}
use native.Mathlib.Omega.{arith}
use native.Mathlib.Decide.{ℕ_discrete}
use lib.Dec.{T, ltb, leb, eqb, leb→le, ltb→lt, nltb→le, eqb→eq}
use lib.ListN.{length, get_or}
use Rattle.json_model.specs.Reading.{Outcome, done, Reading, answer, refuse, ◌>>=◌, need, keep}
use Rattle.json_model.specs.Bytes.{number}
use Rattle.json_model.specs.Limits.{deepest}
use Rattle.json_model.specs.Number.{binary64, finite, float_tree, negative, magnitude}
use Rattle.json_model.specs.Texts.{compare_texts, is_below}
use Rattle.std.specs.declared.cmp.Ordering.{Ordering}
use Rattle.std.specs.declared.cmp.Ordering.TheVariants.{Less, Equal, Greater}
use Rattle.json_model.specs.Tree.{Tree, null, bool, num, str, arr, obj, Trees, none, more, Members, end, member, size, sizem, depth, depths, depthm, IsContainer}
use Rattle.json_model.proofs.Reading.{halt≢done, done_answer, done_kept, step, passed, need_done, need_yes, then, assoc}
use Rattle.binary_json_rules.specs.Areas.{word, low, high, index, count, slot, content, numbers, Kind, k_array, k_object, k_scalar, k_other, kind_of, EntryType, t_false, t_true, t_null, t_string, t_number, t_container, t_other, type_of}
use Rattle.binary_json_rules.specs.Meaning.{SlotIs, NumberIs, Meta, EntryIs, EntriesAre, MembersAre, ContainerIs, Placed, PlacedAll, PlacedMembers, PlacedUnder, within, bodies, bodies_all, bodies_members, bodies_from, Tiles, SlotGood, Means}
use Rattle.binary_json_rules.specs.Verdict.{header, ascends, slot_rules, slots, slot_named, number_named, key_entries, entry_by, entry, entries, mark_body, container_by, container, scalar, root_by, lent, all_marked, check}
use Rattle.binary_json_rules.specs.Marks.{words, word_place, word_at, clear, fill, unmarked}
use Rattle.binary_json_theorems.proofs.Nodes.{Aligned, past_meta}
use Rattle.binary_json_theorems.proofs.Marks.{Left, body_left, nothing_left, left_then, fill_length, fill_in, fill_past, marked_all, same_marks}

-- the container at o, which is an array or an object, stands for the tree, and the containers below it where they may
abbrev pub BodyIs : List ℕ → Tree → ℕ → Type 0
BodyIs doc t o = IsContainer t × ContainerIs doc t o × PlacedUnder doc t o

-- what is found from the marks ms to the marks ns
record FoundBody (doc : List ℕ) (l o : ℕ) (ms ns : List ℕ) : Type 0 where
  tree : Tree
  is : BodyIs doc tree o
  left : Left doc ms ns (bodies_from doc tree o)
  shallow : depth tree ≤ l

record FoundEntry (doc : List ℕ) (l c a : ℕ) (ms ns : List ℕ) : Type 0 where
  tree : Tree
  is : EntryIs doc tree a
  placed : Placed doc tree c a
  left : Left doc ms ns (bodies doc tree a)
  shallow : depth tree ≤ l

record FoundEntries (doc : List ℕ) (l n c a : ℕ) (ms ns : List ℕ) : Type 0 where
  trees : Trees
  many : size trees ≡ n
  are : EntriesAre doc trees a
  placed : PlacedAll doc trees c a
  left : Left doc ms ns (bodies_all doc trees a)
  shallow : depths trees ≤ l

record FoundMembers (doc : List ℕ) (l n p q c a : ℕ) (ms ns : List ℕ) : Type 0 where
  members : Members
  many : sizem members ≡ n
  are : MembersAre doc members p q a
  placed : PlacedMembers doc members c a
  left : Left doc ms ns (bodies_members doc members a)
  shallow : depthm members ≤ l

-- ---- what a word names

module _ {S B : Type 0} (doc : List ℕ) (f : Unit {0} → Reading S B) (s : S) where
  pub slot_sound : (v n p : ℕ) {b : B} {z : S} → (slot_named doc v n p >>= f) s ≡ done b z → (k : ℕ) × SlotIs doc v k × (f tt s ≡ done b z)
  unfolding slot_named slot
  slot_sound v n p h =
      let s1 = passed _ _ _ _ _ (sym (assoc _ _ f s) ∙ h) in
      let s2 = passed _ _ _ _ _ (sym (assoc _ _ f s) ∙ s1.rest) in
      let s3 = passed _ _ _ f s s2.rest in
      let h1 : index doc + 4 + 4 * 0 ≤ v = leb→le _ _ s1.test in
      let h2 : (v - (index doc + 4 + 4 * 0)) % 4 ≡ 0 = eqb→eq _ _ s2.test in
      let h3 : v < index doc + 4 + 4 * count doc = ltb→lt _ _ s3.test in
      ((v - (index doc + 4)) / 4, record { counted = omega arith; place = omega arith }, s3.rest)

  number_sound : (v n p : ℕ) {b : B} {z : S} → (number_named doc v n p >>= f) s ≡ done b z
      → (k : ℕ) × NumberIs doc v k × T (finite binary64 (number doc v 8)) × (f tt s ≡ done b z)
  unfolding number_named
  number_sound v n p h =
      let s1 = passed _ _ _ _ _ (sym (assoc _ _ f s) ∙ h) in
      let s2 = passed _ _ _ _ _ (sym (assoc _ _ f s) ∙ s1.rest) in
      let s3 = passed _ _ _ _ _ (sym (assoc _ _ f s) ∙ s2.rest) in
      let s4 = passed _ _ _ f s s3.rest in
      let h1 : numbers doc ≤ v = leb→le _ _ s1.test in
      let h2 : (v - numbers doc) % 8 ≡ 0 = eqb→eq _ _ s2.test in
      ((v - numbers doc) / 8, record { place = omega arith; inside = leb→le _ _ s3.test }, s4.test, s4.rest)

-- ---- Entries, KeyEntries and containers; `child` is any reader that finds what it reads

as_entry : (doc : List ℕ) (l : ℕ) (t : Tree) (c a : ℕ) (ms ns : List ℕ) → type_of (low doc a) ≡ t_container → high doc a % 4 ≡ 0 → c < high doc a
    → BodyIs doc t (high doc a) → Left doc ms ns (bodies_from doc t (high doc a)) → depth t ≤ l → FoundEntry doc l c a ms ns
as_entry doc l null c a ms ns k s p b x z = absurd b.0
as_entry doc l (bool x) c a ms ns k s p b y z = absurd b.0
as_entry doc l (num x m) c a ms ns k s p b y z = absurd b.0
as_entry doc l (str x) c a ms ns k s p b y z = absurd b.0
as_entry doc l (arr ts) c a ms ns k s p b x z = record { tree = arr ts; is = (k, b.1); placed = (s, p, b.2); left = x; shallow = z }
as_entry doc l (obj os) c a ms ns k s p b x z = record { tree = obj os; is = (k, b.1); placed = (s, p, b.2); left = x; shallow = z }

-- what is read, and the marks left alone
slot_only : (doc : List ℕ) (v n p : ℕ) (ms : List ℕ) {u : Unit {0}} {ns : List ℕ} → slot_named doc v n p ms ≡ done u ns → (k : ℕ) × SlotIs doc v k × (ms ≡ ns)
slot_only doc v n p ms h =
    let (k, is, r) = slot_sound doc (λ x. answer x) ms v n p (then _ _ ms h) in
    (k, is, done_kept r)

number_only : (doc : List ℕ) (v n p : ℕ) (ms : List ℕ) {u : Unit {0}} {ns : List ℕ} → number_named doc v n p ms ≡ done u ns
    → (k : ℕ) × NumberIs doc v k × T (finite binary64 (number doc v 8)) × (ms ≡ ns)
number_only doc v n p ms h =
    let (k, is, f, r) = number_sound doc (λ x. answer x) ms v n p (then _ _ ms h) in
    (k, is, f, done_kept r)

-- a body that was marked
record Marked (doc : List ℕ) (o w : ℕ) (ms : List ℕ) (after : List ℕ → Outcome (List ℕ) (Unit {0})) (u : Unit {0}) (ns : List ℕ) : Type 0 where
  mid : List ℕ
  left : Left doc ms mid (within o w)
  rest : after mid ≡ done u ns

mark_sound : (doc : List ℕ) (o w : ℕ) (f : Unit {0} → Reading (List ℕ) (Unit {0})) (ms : List ℕ) {u : Unit {0}} {ns : List ℕ} → Aligned o → o + 4 * w ≤ index doc → words doc ≤ length ms
    → (mark_body o w >>= f) ms ≡ done u ns → Marked doc o w ms (f tt) u ns
unfolding mark_body
mark_sound doc o w f ms z i e h =
    let p1 = step _ _ ms h in
    let p2 = step _ _ ms p1.first in
    go p2.got p2.mid p1.mid (done_answer p2.first) (done_kept p2.first) p2.rest p1.rest
  where
    go : (g m n : List ℕ) → ms ≡ g → ms ≡ m → {x y : Unit {0}} → (need (clear g (word_at o) w) 14 o >>= λ _. keep (fill g (word_at o) w 1)) m ≡ done x n → {ns : List ℕ}
        → f tt n ≡ done y ns → Marked doc o w ms (f tt) y ns
    go g m n q r h k =
        let p = passed _ _ _ _ m h in
        record { mid = n; left = rw (← done_kept p.rest) (rw (← q) (body_left doc ms o w z i e (rw q p.test))); rest = k }

-- the length of the marks stays
still_enough : (doc ms ns : List ℕ) (f : ℕ → ℕ) → Left doc ms ns f → words doc ≤ length ms → words doc ≤ length ns
still_enough doc ms ns f x e = let l = x.long in omega arith

array_left : (doc : List ℕ) (o n : ℕ) (ts : Trees) {ms mid ns : List ℕ} → size ts ≡ n → Left doc ms mid (within o (1 + n)) → Left doc mid ns (bodies_all doc ts (o + 4))
    → Left doc ms ns (bodies_from doc (arr ts) o)
array_left doc o n ts e x y = left_then (rw e x) y

object_left : (doc : List ℕ) (o n : ℕ) (os : Members) {ms mid mid' ns : List ℕ} → sizem os ≡ n → mid ≡ mid' → Left doc ms mid (within o (1 + 2 * n))
    → Left doc mid' ns (bodies_members doc os (o + 4 + 4 * n)) → Left doc ms ns (bodies_from doc (obj os) o)
object_left doc o n os {mid = mid} e s x y = left_then {ns = mid} (rw e x) (rw (e, s) y)

module _ (doc : List ℕ) (child : ℕ → Reading (List ℕ) (Unit {0})) (l : ℕ)
    (ih : (o : ℕ) (ms : List ℕ) (u : Unit {0}) (ns : List ℕ) → Aligned o → words doc ≤ length ms → child o ms ≡ done u ns → FoundBody doc l o ms ns) where
  entry_by_lem : (c a : ℕ) (ms : List ℕ) {u : Unit {0}} {ns : List ℕ} (k : EntryType) → 4 ≤ c → words doc ≤ length ms → type_of (low doc a) ≡ k → entry_by doc child c a k ms ≡ done u ns
      → FoundEntry doc l c a ms ns
  unfolding entry_by float_tree
  entry_by_lem c a ms t_false b e k h = record { tree = bool false; is = k; placed = tt; left = nothing_left (done_kept h); shallow = omega arith }
  entry_by_lem c a ms t_true b e k h = record { tree = bool true; is = k; placed = tt; left = nothing_left (done_kept h); shallow = omega arith }
  entry_by_lem c a ms t_null b e k h = record { tree = null; is = k; placed = tt; left = nothing_left (done_kept h); shallow = omega arith }
  entry_by_lem c a ms t_string b e k h =
      let (j, is, r) = slot_only doc _ _ _ ms h in
      record { tree = str (content doc j); is = (j, k, is, refl); placed = tt; left = nothing_left r; shallow = omega arith }
  entry_by_lem c a ms t_number b e k h =
      let (j, is, fin, r) = number_only doc _ _ _ ms h in
      let bits = number doc (high doc a) 8 in
      record { tree = num (negative binary64 bits) (magnitude binary64 bits); is = (j, k, is, fin, refl); placed = tt; left = nothing_left r; shallow = omega arith }
  entry_by_lem c a ms t_container b e k h =
      let p1 = passed _ _ _ _ ms h in
      let p2 = passed _ _ _ _ ms p1.rest in
      let s : high doc a % 4 ≡ 0 = eqb→eq _ _ p1.test in
      let p : c < high doc a = ltb→lt _ _ p2.test in
      let x = ih (high doc a) ms _ _ (past_meta c _ b s p) e p2.rest in
      as_entry doc l x.tree c a ms _ k s p x.is x.left x.shallow
  entry_by_lem c a ms t_other b e k h = absurd (halt≢done h)

  entry_sound : (c a : ℕ) (ms : List ℕ) {u : Unit {0}} {ns : List ℕ} → 4 ≤ c → words doc ≤ length ms → entry doc child c a ms ≡ done u ns → FoundEntry doc l c a ms ns
  unfolding entry
  entry_sound c a ms b e h = entry_by_lem c a ms (type_of (low doc a)) b e refl h

  entries_sound : (n c a : ℕ) (ms : List ℕ) {u : Unit {0}} {ns : List ℕ} → 4 ≤ c → words doc ≤ length ms → entries doc child c n a ms ≡ done u ns → FoundEntries doc l n c a ms ns
  unfolding entries
  entries_sound zero c a ms b e h = record { trees = none; many = refl; are = tt; placed = tt; left = nothing_left (done_kept h); shallow = omega arith }
  entries_sound (suc n) c a ms b e h =
      let p = step _ _ ms h in
      let t = entry_sound c a ms b e p.first in
      let ts = entries_sound n c (a + 4) p.mid b (still_enough doc ms _ _ t.left e) p.rest in
      record {
        trees = more t.tree ts.trees;
        many = ap suc ts.many;
        are = (t.is, ts.are);
        placed = (t.placed, ts.placed);
        left = left_then t.left ts.left;
        shallow = max-le t.shallow ts.shallow;
      }

  -- the KeyEntries were read before the Entries, and leave the marks alone
  members_sound : (n p q c a : ℕ) (s : List ℕ) (ms : List ℕ) {u v : Unit {0}} {y ns : List ℕ} → 4 ≤ c → words doc ≤ length ms → key_entries doc n p q s ≡ done u y
      → entries doc child c n a ms ≡ done v ns → FoundMembers doc l n p q c a ms ns
  unfolding entries key_entries
  members_sound zero p q c a s ms b e g h = record { members = end; many = refl; are = tt; placed = tt; left = nothing_left (done_kept h); shallow = omega arith }
  members_sound (suc n) p q c a s ms b e g h =
      let (k, is, g2) = slot_sound doc _ s _ _ _ g in
      let g3 = passed _ _ _ _ s g2 in
      let p1 = step _ _ ms h in
      let t = entry_sound c a ms b e p1.first in
      let os = members_sound n (word doc q) (q + 4) c (a + 4) s p1.mid b (still_enough doc ms _ _ t.left e) g3.rest p1.rest in
      record {
        members = member (content doc k) t.tree os.members;
        many = ap suc os.many;
        are = (k, is, refl, ltb→lt _ _ g3.test, t.is, os.are);
        placed = (t.placed, os.placed);
        left = left_then t.left os.left;
        shallow = max-le t.shallow os.shallow;
      }

  keys_kept : (n p q : ℕ) (s : List ℕ) {u : Unit {0}} {y : List ℕ} → key_entries doc n p q s ≡ done u y → s ≡ y
  unfolding key_entries
  keys_kept zero p q s g = done_kept g
  keys_kept (suc n) p q s g =
      let (k, is, g2) = slot_sound doc _ s _ _ _ g in
      keys_kept n (word doc q) (q + 4) s (passed _ _ _ _ s g2).rest

  body_sound : (o n : ℕ) (ms : List ℕ) {u : Unit {0}} {ns : List ℕ} (k : Kind) → Aligned o → words doc ≤ length ms → kind_of (low doc o) ≡ k → high doc o ≡ n
      → container_by doc child o n k ms ≡ done u ns → FoundBody doc (suc l) o ms ns
  unfolding container_by
  body_sound o n ms k_array z e hk hn h =
      let p = passed _ _ _ _ ms h in
      let fits : o + 4 + 4 * n ≤ index doc = leb→le _ _ p.test in
      let x = mark_sound doc o (1 + n) _ ms z (omega arith) e p.rest in
      let ts = entries_sound n o (o + 4) x.mid z.least (still_enough doc ms _ _ x.left e) x.rest in
      let shallow : suc (depths ts.trees) ≤ suc l = omega (arith, ts.shallow) in
      record {
        tree = arr ts.trees;
        is = rw ts.many (tt, (record { kind_is = hk; size_is = hn; inside = fits }, ts.are), ts.placed);
        left = array_left doc o n ts.trees ts.many x.left ts.left;
        shallow = shallow;
      }
  body_sound o n ms k_object z e hk hn h =
      let p = passed _ _ _ _ ms h in
      let fits : o + 4 + 4 * (2 * n) ≤ index doc = leb→le _ _ p.test in
      let x = mark_sound doc o (1 + 2 * n) _ ms z (omega arith) e p.rest in
      let p2 = step _ _ x.mid x.rest in
      let same = keys_kept n 0 (o + 4) x.mid p2.first in
      let more_left = still_enough doc ms _ _ x.left e in
      let os = members_sound n 0 _ o _ x.mid p2.mid z.least (rw (← same) more_left) p2.first p2.rest in
      let shallow : suc (depthm os.members) ≤ suc l = omega (arith, os.shallow) in
      record {
        tree = obj os.members;
        is = rw os.many (tt, (record { kind_is = hk; size_is = hn; inside = fits }, os.are), os.placed);
        left = object_left doc o n os.members os.many same x.left os.left;
        shallow = shallow;
      }
  body_sound o n ms k_scalar z e hk hn h = absurd (halt≢done h)
  body_sound o n ms k_other z e hk hn h = absurd (halt≢done h)

record FoundRoot (doc ms ns : List ℕ) : Type 0 where
  tree : Tree
  is : ContainerIs doc tree 4
  placed : PlacedUnder doc tree 4
  left : Left doc ms ns (bodies_from doc tree 4)
  shallow : depth tree ≤ deepest

root_scalar : (doc ms ns os : List ℕ) (t : Tree) → depth t ≤ 0 → Meta doc 4 k_scalar 1 1 → EntryIs doc t 8 → Left doc ms ns (within 4 2) → Left doc ns os (bodies doc t 8) → FoundRoot doc ms os
root_scalar doc ms ns os t d m h x y = go t d h y
  where
    alone : Left doc ns os (λ k. 0) → Left doc ms os (within 4 2)
    alone y = record { long = y.long ∙ x.long; adds = λ k. let a = x.adds k in let b = y.adds k in omega arith; once = λ k q. y.once k (x.once k q); beyond = λ k q. y.beyond k q ∙ x.beyond k q }

    go : (t : Tree) → depth t ≤ 0 → EntryIs doc t 8 → Left doc ns os (bodies doc t 8) → FoundRoot doc ms os
    go null d h y = record { tree = null; is = (m, h); placed = tt; left = alone y; shallow = omega arith }
    go (bool b) d h y = record { tree = bool b; is = (m, h); placed = tt; left = alone y; shallow = omega arith }
    go (num s n) d h y = record { tree = num s n; is = (m, h); placed = tt; left = alone y; shallow = omega arith }
    go (str s) d h y = record { tree = str s; is = (m, h); placed = tt; left = alone y; shallow = omega arith }
    go (arr ts) d h y = absurd (omega arith)
    go (obj os) d h y = absurd (omega arith)

module _ (doc : List ℕ) where
  abbrev Ascends : ℕ → Type 0
  Ascends zero = Unit {0}
  Ascends (suc k) = compare_texts (content doc k) (content doc (suc k)) ≡ Less

  ascends_sound : (k : ℕ) → T (ascends doc k) → Ascends k
  unfolding ascends
  ascends_sound zero h = tt
  ascends_sound (suc k) h = below (compare_texts (content doc k) (content doc (suc k))) h
    where
      below : (o : Ordering) → T (is_below o) → o ≡ Less
      below Less h = refl
      below Equal h = absurd h
      below Greater h = absurd h

  record Slot (k : ℕ) : Type 0 where
    good : SlotGood doc k
    above : Ascends k

module _ (doc : List ℕ) where
  container_sound : (l o : ℕ) (ms : List ℕ) (u : Unit {0}) (ns : List ℕ) → Aligned o → words doc ≤ length ms → container l doc o ms ≡ done u ns → FoundBody doc l o ms ns
  unfolding container
  container_sound zero o ms u ns z e h = absurd (halt≢done h)
  container_sound (suc l) o ms u ns z e h =
      let p = passed _ _ _ _ ms h in
      body_sound doc (container l doc) l (container_sound l) o (high doc o) ms (kind_of (low doc o)) z e refl refl p.rest

  -- ---- the root

  root_aligned : Aligned 4
  root_aligned = record { least = omega arith; step = refl }

  root_whole : (ms : List ℕ) {u : Unit {0}} {ns : List ℕ} → words doc ≤ length ms → container deepest doc 4 ms ≡ done u ns → FoundRoot doc ms ns
  root_whole ms e h =
      let b = container_sound deepest 4 ms _ _ root_aligned e h in
      record { tree = b.tree; is = b.is.1; placed = b.is.2; left = b.left; shallow = b.shallow }

  root_sound : (ms : List ℕ) {u : Unit {0}} {ns : List ℕ} (k : Kind) → words doc ≤ length ms → kind_of (low doc 4) ≡ k → root_by doc k ms ≡ done u ns → FoundRoot doc ms ns
  unfolding root_by scalar
  root_sound ms k_array e k h = root_whole ms e h
  root_sound ms k_object e k h = root_whole ms e h
  root_sound ms k_scalar e k h =
      let p1 = passed _ _ _ _ ms h in
      let p2 = passed _ _ _ _ ms p1.rest in
      let fits : 12 ≤ index doc = leb→le _ _ p2.test in
      let m : Meta doc 4 k_scalar 1 1 = record { kind_is = k; size_is = eqb→eq _ _ p1.test; inside = fits } in
      let x = mark_sound doc 4 2 _ ms root_aligned (omega arith) e p2.rest in
      let t = entry_sound doc (λ o. refuse 9 8) 0 (λ o s v z a b x. absurd (halt≢done x)) 4 8 x.mid (omega arith) (still_enough doc ms _ _ x.left e) x.rest in
      root_scalar doc ms x.mid _ t.tree t.shallow m t.is x.left t.left
  root_sound ms k_other e k h = root_whole ms e h

module _ {S : Type 0} (doc : List ℕ) where
  -- ---- slots

  slot_rules_sound : (k : ℕ) (s : S) {u : Unit {0}} {z : S} → slot_rules doc k s ≡ done u z → Slot doc k
  unfolding slot_rules
  slot_rules_sound k s h =
      let s1 = passed _ _ _ _ s h in
      let s2 = passed _ _ _ _ s s1.rest in
      let s3 = passed _ _ _ _ s s2.rest in
      let s4 = passed _ _ _ _ s s3.rest in
      let good : SlotGood doc k = record { clear = eqb→eq _ _ s1.test; forward = ltb→lt _ _ s2.test; inside = leb→le _ _ s3.test; closed = eqb→eq _ _ s4.test } in
      record { good = good; above = ascends_sound doc k (need_done _ _ _ s s4.rest) }

  slots_sound : (n k : ℕ) (s : S) {u : Unit {0}} {z : S} → slots doc n k s ≡ done u z → (j : ℕ) → k ≤ j → j < k + n → Slot doc j
  unfolding slots
  slots_sound zero k s h j a b = absurd (omega arith)
  slots_sound (suc n) k s h j a b =
      let p = step _ _ s h in
      cases (ℕ_discrete k j) (slot_rules_sound k s p.first) (slots_sound n (suc k) p.mid p.rest j)
    where
      cases : Dec (k ≡ j) → Slot doc k → (suc k ≤ j → j < suc k + n → Slot doc j) → Slot doc j
      cases (yes e) here later = rw (← e) here
      cases (no x) here later = later (omega arith) (omega arith)

  -- slots leave what is kept alone
  slot_rules_kept : (k : ℕ) (s : S) {u : Unit {0}} {z : S} → slot_rules doc k s ≡ done u z → s ≡ z
  unfolding slot_rules
  slot_rules_kept k s h =
      let s1 = passed _ _ _ _ s h in
      let s2 = passed _ _ _ _ s s1.rest in
      let s3 = passed _ _ _ _ s s2.rest in
      let s4 = passed _ _ _ _ s s3.rest in
      done_kept (sym (need_yes _ _ _ s (need_done _ _ _ s s4.rest)) ∙ s4.rest)

  slots_kept : (n k : ℕ) (s : S) {u : Unit {0}} {z : S} → slots doc n k s ≡ done u z → s ≡ z
  unfolding slots
  slots_kept zero k s h = done_kept h
  slots_kept (suc n) k s h =
      let p = step _ _ s h in
      slot_rules_kept k s p.first ∙ slots_kept n (suc k) p.mid p.rest

-- ---- the marks before the walk and after it

record Lent (doc ms ns : List ℕ) : Type 0 where
  many : words doc ≤ length ms
  are : fill ms 0 (words doc) 0 ≡ ns

lent_sound : (doc ms : List ℕ) {u : Unit {0}} {ns : List ℕ} → lent doc ms ≡ done u ns → Lent doc ms ns
unfolding lent
lent_sound doc ms h = let p = step _ _ ms h in go p.got p.mid (done_answer p.first) p.rest
  where
    go : (g m : List ℕ) → ms ≡ g → {u : Unit {0}} {ns : List ℕ} → (need (leb (words doc) (length g)) 15 (index doc) >>= λ _. keep (fill g 0 (words doc) 0)) m ≡ done u ns → Lent doc ms ns
    go g m q h = let p = passed _ _ _ _ m h in record { many = rw q (leb→le _ _ p.test); are = rw q (done_kept p.rest) }

lent_at : (doc ms m : List ℕ) → ms ≡ m → {u : Unit {0}} {ns : List ℕ} → lent doc m ≡ done u ns → Lent doc ms ns
lent_at doc ms m q h = rw q (lent_sound doc m h)

marked_sound : (doc ms : List ℕ) {u : Unit {0}} {ns : List ℕ} → all_marked doc ms ≡ done u ns → (unmarked ms 0 (words doc) ≡ words doc) × (ms ≡ ns)
unfolding all_marked
marked_sound doc ms h = let p = step _ _ ms h in go p.got p.mid (done_answer p.first) (done_kept p.first) p.rest
  where
    go : (g m : List ℕ) → ms ≡ g → ms ≡ m → {u : Unit {0}} {ns : List ℕ} → need (eqb (unmarked g 0 (words doc)) (words doc)) 13 (word_place (unmarked g 0 (words doc))) m ≡ done u ns
        → (unmarked ms 0 (words doc) ≡ words doc) × (ms ≡ ns)
    go g m q r h =
        let t = need_done _ _ _ m h in
        (rw q (eqb→eq _ _ t), r ∙ done_kept (sym (need_yes _ _ _ m t) ∙ h))

-- ---- the whole document

-- accepted with the marks ms, which are ns afterwards: 1 for every word of the tree, and as they were beyond
pub record Accepted (doc ms ns : List ℕ) : Type 0 where
  pub many : words doc ≤ length ms
  pub tree : Tree
  pub means : Means doc tree
  pub after : ns ≡ fill ms 0 (words doc) 1

tiles : (doc ms ns os : List ℕ) (t : Tree) → Lent doc ms ns → Left doc ns os (bodies_from doc t 4) → unmarked os 0 (words doc) ≡ words doc → Tiles doc t
tiles doc ms ns os t x y u k b =
    let e = x.many in
    let q = fill_in ms 0 (words doc) 0 k (omega arith) (omega arith) (omega arith) in
    let z : get_or ns k 0 ≡ 0 = rw (← x.are) q in
    let a = y.adds k in
    let o = y.once k (omega arith) in
    let n = marked_all os 0 (words doc) (omega arith) k (omega arith) (omega arith) in
    one (get_or os k 0) o n a z
  where
    one : (v : ℕ) → v ≤ 1 → (v ≡ 0 → ⊥) → v ≡ get_or ns k 0 + bodies_from doc t 4 k → get_or ns k 0 ≡ 0 → bodies_from doc t 4 k ≡ 1
    one zero o n a z = absurd (n refl)
    one (suc v) o n a z = omega arith

ones : (doc ms ns os : List ℕ) (t : Tree) → Lent doc ms ns → Left doc ns os (bodies_from doc t 4) → Tiles doc t → os ≡ fill ms 0 (words doc) 1
ones doc ms ns os t x y tiled =
    let l0 = fill_length ms 0 (words doc) 0 in
    let l1 = fill_length ms 0 (words doc) 1 in
    let l2 : length ns ≡ length ms = rw (← x.are) l0 in
    same_marks os (fill ms 0 (words doc) 1) (y.long ∙ (l2 ∙ sym l1)) (λ k. each k (below? k (words doc)))
  where
    below? : (k n : ℕ) → (k < n) ⊎ (n ≤ k)
    below? k n = go (ltb k n) (ltb→lt k n) (nltb→le k n)
      where
        go : (b : Bool) → (T b → k < n) → (T (not b) → n ≤ k) → (k < n) ⊎ (n ≤ k)
        go true f g = inl (f tt)
        go false f g = inr (g tt)

    each : (k : ℕ) → (k < words doc) ⊎ (words doc ≤ k) → get_or os k 0 ≡ get_or (fill ms 0 (words doc) 1) k 0
    each k (inl b) =
        let e = x.many in
        let z0 : get_or ns k 0 ≡ 0 = rw (← x.are) (fill_in ms 0 (words doc) 0 k (omega arith) (omega arith) (omega arith)) in
        let z1 = fill_in ms 0 (words doc) 1 k (omega arith) (omega arith) (omega arith) in
        let a = y.adds k in let o = tiled k b in
        omega arith
    each k (inr b) =
        let z0 : get_or ns k 0 ≡ get_or ms k 0 = rw (← x.are) (fill_past ms 0 (words doc) 0 k (omega arith)) in
        let z1 = fill_past ms 0 (words doc) 1 k (omega arith) in
        let a = y.beyond k b in
        omega arith

pub sound : (doc ms : List ℕ) {u : Unit {0}} {ns : List ℕ} → check doc ms ≡ done u ns → Accepted doc ms ns
unfolding check header
sound doc s h =
    let p1 = passed _ _ _ _ s (sym (assoc _ _ _ s) ∙ h) in
    let p2 = passed _ _ _ _ s (sym (assoc _ _ _ s) ∙ p1.rest) in
    let p3 = passed _ _ _ _ s (sym (assoc _ _ _ s) ∙ p2.rest) in
    let p4 = passed _ _ _ _ s (sym (assoc _ _ _ s) ∙ p3.rest) in
    let p5 = passed _ _ _ _ s (sym (assoc _ _ _ s) ∙ p4.rest) in
    let p6 = passed _ _ _ _ s (sym (assoc _ _ _ s) ∙ p5.rest) in
    let p7 = passed _ _ _ _ s p6.rest in
    let p8 = step _ _ s p7.rest in
    let p9 = passed _ _ _ _ _ p8.rest in
    let p10 = step _ _ _ p9.rest in
    let p11 = step _ _ _ p10.rest in
    let each = slots_sound doc (count doc) 0 s p8.first in
    let kept-s = slots_kept doc (count doc) 0 s p8.first in
    let x = lent_at doc s p8.mid kept-s p10.first in
    let long = fill_length s 0 (words doc) 0 in
    let enough : words doc ≤ length p10.mid = rw (← x.are) (rw long x.many) in
    let r = root_sound doc p10.mid (kind_of (low doc 4)) enough refl p11.first in
    let (all, same) = marked_sound doc p11.mid p11.rest in
    let tiled = tiles doc s p10.mid p11.mid r.tree x r.left all in
    record {
      many = x.many;
      tree = r.tree;
      means = record {
        long = leb→le _ _ p1.test;
        short = leb→le _ _ p2.test;
        version = eqb→eq _ _ p3.test;
        index_least = leb→le _ _ p4.test;
        index_step = eqb→eq _ _ p5.test;
        index_inside = leb→le _ _ p6.test;
        slots_inside = leb→le _ _ p7.test;
        slots_good = λ k b. (each k (omega arith) (omega arith)).good;
        ascending = λ k b. (each (suc k) (omega arith) (omega arith)).above;
        numbers_step = eqb→eq _ _ p9.test;
        root = r.is;
        placed = r.placed;
        tiled = tiled;
        nested = r.shallow;
      };
      after = sym same ∙ ones doc s p10.mid p11.mid r.tree x r.left tiled;
    }
