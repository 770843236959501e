-- What keeps the rules is accepted: from a tree that a document means, the check is done.
use mathlib.Core.Path.{◌≡◌, refl, ◌∙◌}
use mathlib.Core.Bool.{true, false}
use mathlib.Core.List.{List}
use Prim.Native.Nat.{ℕ, zero, suc, ◌+◌, ◌-◌, ◌*◌, ◌%◌, ◌≤◌, ◌<◌}
use native.Mathlib.Omega.{arith}
use lib.Dec.{T, le→leb, lt→ltb}
use lib.ListN.{length, get_or}
use Rattle.json_model.specs.Reading.{done, Reading, ◌>>=◌}
use Rattle.json_model.specs.Bytes.{number}
use Rattle.json_model.specs.Limits.{deepest}
use Rattle.json_model.specs.Number.{binary64, finite}
use Rattle.json_model.specs.Texts.{compare_texts}
use Rattle.std.specs.declared.cmp.Ordering.TheVariants.{Less}
use Rattle.json_model.specs.Tree.{Tree, null, bool, num, str, arr, obj, Trees, none, more, Members, end, member, size, sizem, depth, depths, depthm}
use Rattle.json_model.proofs.Reading.{eq→eqb, then, pass, need_yes}
use Rattle.binary_json_rules.specs.Areas.{word, low, high, index, count, slot, content, numbers, kind_of, t_container, type_of}
use Rattle.binary_json_rules.specs.Meaning.{SlotIs, NumberIs, EntryIs, EntriesAre, MembersAre, ScalarIs, ContainerIs, Placed, PlacedAll, PlacedMembers, PlacedUnder, within, bodies, bodies_all, bodies_members, bodies_from, SlotGood, Means}
use Rattle.binary_json_rules.specs.Verdict.{header, ascends, slot_rules, slots, slot_named, number_named, key_entries, entry_by, entry, entries, mark_body, container_by, container, scalar, root_by, lent, all_marked, check}
use Rattle.binary_json_rules.specs.Marks.{words, word_at, fill, unmarked}
use Rattle.binary_json_theorems.proofs.Nodes.{Aligned, past_meta}
use Rattle.binary_json_theorems.proofs.Marks.{Left, body_left, nothing_left, left_then, room, fill_length, fill_in, unmarked_none}

module _ {S : Type 0} (doc : List ℕ) (s : S) where
  -- ---- what a word names

  pub slot_named_lem : (v n p k : ℕ) → SlotIs doc v k → slot_named doc v n p s ≡ done tt s
  unfolding slot_named slot
  slot_named_lem v n p k h =
      let h1 = h.counted in
      let h2 = h.place in
      let a : index doc + 4 + 4 * 0 ≤ v = omega arith in
      let b : (v - (index doc + 4 + 4 * 0)) % 4 ≡ 0 = omega arith in
      let c : v < index doc + 4 + 4 * count doc = omega arith in
      pass _ _ _ _ s (le→leb _ _ a) ∙ (pass _ _ _ _ s (eq→eqb b) ∙ need_yes _ _ _ s (lt→ltb _ _ c))

  pub number_named_lem : (v n p k : ℕ) → NumberIs doc v k → T (finite binary64 (number doc v 8)) → number_named doc v n p s ≡ done tt s
  unfolding number_named
  number_named_lem v n p k h f =
      let h2 = h.place in
      let a : numbers doc ≤ v = omega arith in
      let b : (v - numbers doc) % 8 ≡ 0 = omega arith in
      pass _ _ _ _ s (le→leb _ _ a) ∙ (pass _ _ _ _ s (eq→eqb b) ∙ (pass _ _ _ _ s (le→leb _ _ h.inside) ∙ need_yes _ _ _ s f))

  -- ---- slots

  ascends_yes : (k n : ℕ) → k < n → ((j : ℕ) → suc j < n → compare_texts (content doc j) (content doc (suc j)) ≡ Less) → T (ascends doc k)
  unfolding ascends
  ascends_yes zero n h up = tt
  ascends_yes (suc k) n h up = rw (up k h) tt

  slot_rules_done : (k : ℕ) → SlotGood doc k → T (ascends doc k) → slot_rules doc k s ≡ done tt s
  unfolding slot_rules
  slot_rules_done k g up =
      pass _ _ _ _ s (eq→eqb g.clear) ∙ (pass _ _ _ _ s (lt→ltb _ _ g.forward) ∙ (pass _ _ _ _ s (le→leb _ _ g.inside)
      ∙ (pass _ _ _ _ s (eq→eqb g.closed) ∙ need_yes _ _ _ s up)))

  slots_done : (n k : ℕ) → ((j : ℕ) → k ≤ j → j < k + n → SlotGood doc j × T (ascends doc j)) → slots doc n k s ≡ done tt s
  unfolding slots
  slots_done zero k h = refl
  slots_done (suc n) k h =
      let (g, up) = h k (omega arith) (omega arith) in
      then _ _ s (slot_rules_done k g up) ∙ slots_done n (suc k) (λ j a b. h j (omega arith) (omega arith))

  keys_done : (ms : Members) (p q a : ℕ) → MembersAre doc ms p q a → key_entries doc (sizem ms) p q s ≡ done tt s
  unfolding key_entries
  keys_done end p q a h = refl
  keys_done (member x t ms) p q a h =
      then _ _ s (slot_named_lem _ _ _ h.0 h.1) ∙ (pass _ _ _ _ s (lt→ltb _ _ h.3) ∙ keys_done ms (word doc q) (q + 4) (a + 4) h.5)

  pub header_done : (t : Tree) → Means doc t → header doc s ≡ done tt s
  unfolding header
  header_done t m =
      pass _ _ _ _ s (le→leb _ _ m.long) ∙ (pass _ _ _ _ s (le→leb _ _ m.short) ∙ (pass _ _ _ _ s (eq→eqb m.version)
      ∙ (pass _ _ _ _ s (le→leb _ _ m.index_least) ∙ (pass _ _ _ _ s (eq→eqb m.index_step) ∙ (pass _ _ _ _ s (le→leb _ _ m.index_inside)
      ∙ need_yes _ _ _ s (le→leb _ _ m.slots_inside))))))

-- ---- Entries and containers. A walk from the marks ms goes through where no word would be counted twice, and leaves marks
-- in which every word is counted once more for each body walked.

-- no word of the tree is counted twice if these counts are added
abbrev Room : List ℕ → List ℕ → (ℕ → ℕ) → Type 0
Room doc ms add = (k : ℕ) → k < words doc → get_or ms k 0 + add k ≤ 1

record Through (doc : List ℕ) (reading : Reading (List ℕ) (Unit {0})) (ms : List ℕ) (add : ℕ → ℕ) : Type 0 where
  marks : List ℕ
  goes : reading ms ≡ done tt marks
  left : Left doc ms marks add

module _ (doc : List ℕ) where
  through_same : (reading : Reading (List ℕ) (Unit {0})) (ms : List ℕ) → reading ms ≡ done tt ms → Through doc reading ms (λ k. 0)
  through_same reading ms e = record { marks = ms; goes = e; left = nothing_left refl }

  -- a scalar's Entry, whatever would read a container
  plain : (t : Tree) (child : ℕ → Reading (List ℕ) (Unit {0})) (c a : ℕ) (ms : List ℕ) → depth t ≤ 0 → EntryIs doc t a → Through doc (entry doc child c a) ms (bodies doc t a)
  unfolding entry entry_by
  plain null child c a ms z h = through_same _ ms (rw h)
  plain (bool false) child c a ms z h = through_same _ ms (rw h)
  plain (bool true) child c a ms z h = through_same _ ms (rw h)
  plain (num x m) child c a ms z h = through_same _ ms (rw h.1 (number_named_lem doc ms _ _ _ h.0 h.2 h.3))
  plain (str x) child c a ms z h = through_same _ ms (rw h.1 (slot_named_lem doc ms _ _ _ h.0 h.2))
  plain (arr ts) child c a ms z h = absurd (omega arith)
  plain (obj ms) child c a ns z h = absurd (omega arith)

  -- the body is clear, and so marked
  marks_body : (o w : ℕ) (others : ℕ → ℕ) (ms : List ℕ) → Aligned o → o + 4 * w ≤ index doc → words doc ≤ length ms → Room doc ms (λ k. within o w k + others k)
      → Through doc (mark_body o w) ms (within o w)
  unfolding mark_body
  marks_body o w others ms z i e h =
      let c = room doc ms o w others z i h in
      record { marks = fill ms (word_at o) w 1; goes = then _ _ ms refl ∙ pass _ _ _ _ ms c; left = body_left doc ms o w z i e c }

  -- what is left to walk has room, after what was walked
  still : (ms ns : List ℕ) (f g : ℕ → ℕ) → Left doc ms ns f → Room doc ms (λ k. f k + g k) → Room doc ns g
  still ms ns f g x h k b = let p = x.adds k in let q = h k b in omega arith

  enough : (ms ns : List ℕ) (f : ℕ → ℕ) → Left doc ms ns f → words doc ≤ length ms → words doc ≤ length ns
  enough ms ns f x e = let l = x.long in omega arith

  through_then : (first second : Reading (List ℕ) (Unit {0})) (ms : List ℕ) (f g : ℕ → ℕ) (x : Through doc first ms f) → Through doc second x.marks g
      → Through doc (first >>= λ _. second) ms (λ k. f k + g k)
  through_then first second ms f g x y = record { marks = y.marks; goes = then _ _ ms x.goes ∙ y.goes; left = left_then x.left y.left }

  through_after : (first second : Reading (List ℕ) (Unit {0})) (ms : List ℕ) (f : ℕ → ℕ) → first ms ≡ done tt ms → Through doc second ms f → Through doc (first >>= λ _. second) ms f
  through_after first second ms f e y = record { marks = y.marks; goes = then _ _ ms e ∙ y.goes; left = y.left }

  -- the container at o, from its Entries
  array_done : (ts : Trees) (l o : ℕ) (ms : List ℕ) → ContainerIs doc (arr ts) o → Aligned o → words doc ≤ length ms → Room doc ms (bodies_from doc (arr ts) o)
      → ((ns : List ℕ) → words doc ≤ length ns → Room doc ns (bodies_all doc ts (o + 4)) → Through doc (entries doc (container l doc) o (size ts) (o + 4)) ns (bodies_all doc ts (o + 4)))
      → Through doc (container (suc l) doc o) ms (bodies_from doc (arr ts) o)
  unfolding container container_by
  array_done ts l o ms h z e r below =
      let m = h.0 in let i = m.inside in
      let j : o + 4 ≤ index doc = omega arith in
      let x = marks_body o (1 + size ts) (bodies_all doc ts (o + 4)) ms z (omega arith) e r in
      let y = below x.marks (enough ms _ _ x.left e) (still ms _ _ _ x.left r) in
      through_after _ _ ms _ (need_yes _ _ _ ms (le→leb _ _ j)) (rw (m.kind_is, m.size_is) (through_after _ _ ms _ (need_yes _ _ _ ms (le→leb _ _ i)) (through_then _ _ ms _ _ x y)))

  object_done : (os : Members) (l o : ℕ) (ms : List ℕ) → ContainerIs doc (obj os) o → Aligned o → words doc ≤ length ms → Room doc ms (bodies_from doc (obj os) o)
      → ((ns : List ℕ) → words doc ≤ length ns → Room doc ns (bodies_members doc os (o + 4 + 4 * sizem os))
      → Through doc (entries doc (container l doc) o (sizem os) (o + 4 + 4 * sizem os)) ns (bodies_members doc os (o + 4 + 4 * sizem os)))
      → Through doc (container (suc l) doc o) ms (bodies_from doc (obj os) o)
  unfolding container container_by
  object_done os l o ms h z e r below =
      let m = h.0 in let i = m.inside in
      let j : o + 4 ≤ index doc = omega arith in
      let x = marks_body o (1 + 2 * sizem os) (bodies_members doc os (o + 4 + 4 * sizem os)) ms z (omega arith) e r in
      let y = below x.marks (enough ms _ _ x.left e) (still ms _ _ _ x.left r) in
      let k = keys_done doc x.marks os 0 (o + 4) _ h.1 in
      through_after _ _ ms _ (need_yes _ _ _ ms (le→leb _ _ j)) (rw (m.kind_is, m.size_is) (through_after _ _ ms _ (need_yes _ _ _ ms (le→leb _ _ i))
      (through_then _ _ ms _ _ x (through_after _ _ _ _ k y))))

  -- an Entry that names a container where one may stand
  names : (child : ℕ → Reading (List ℕ) (Unit {0})) (c a : ℕ) (ms : List ℕ) (f : ℕ → ℕ) → type_of (low doc a) ≡ t_container → high doc a % 4 ≡ 0 → c < high doc a
      → Through doc (child (high doc a)) ms f → Through doc (entry doc child c a) ms f
  unfolding entry entry_by
  names child c a ms f k s p x = rw k (through_after _ _ ms _ (need_yes _ _ _ ms (eq→eqb s)) (through_after _ _ ms _ (need_yes _ _ _ ms (lt→ltb _ _ p)) x))

  mutual
    unfolding entries

    entry_done : (t : Tree) (l c a : ℕ) (ms : List ℕ) → EntryIs doc t a → 4 ≤ c → Placed doc t c a → depth t ≤ l → words doc ≤ length ms → Room doc ms (bodies doc t a)
        → Through doc (entry doc (container l doc) c a) ms (bodies doc t a)
    entry_done null l c a ms h b p z e r = plain null _ c a ms (omega arith) h
    entry_done (bool x) l c a ms h b p z e r = plain (bool x) _ c a ms (omega arith) h
    entry_done (num x m) l c a ms h b p z e r = plain (num x m) _ c a ms (omega arith) h
    entry_done (str x) l c a ms h b p z e r = plain (str x) _ c a ms (omega arith) h
    entry_done (arr ts) zero c a ms h b p z e r = absurd (omega arith)
    entry_done (arr ts) (suc l) c a ms h b p z e r =
        let o = past_meta c _ b p.0 p.1 in
        names _ c a ms _ h.0 p.0 p.1 (array_done ts l (high doc a) ms h.1 o e r
        (λ ns e r. entries_done ts l (high doc a) (high doc a + 4) ns h.1.1 o.least p.2 (omega arith) e r))
    entry_done (obj os) zero c a ms h b p z e r = absurd (omega arith)
    entry_done (obj os) (suc l) c a ms h b p z e r =
        let o = past_meta c _ b p.0 p.1 in
        names _ c a ms _ h.0 p.0 p.1 (object_done os l (high doc a) ms h.1 o e r
        (λ ns e r. members_done os l (high doc a) 0 (high doc a + 4) _ ns h.1.1 o.least p.2 (omega arith) e r))

    entries_done : (ts : Trees) (l c a : ℕ) (ms : List ℕ) → EntriesAre doc ts a → 4 ≤ c → PlacedAll doc ts c a → depths ts ≤ l → words doc ≤ length ms → Room doc ms (bodies_all doc ts a)
        → Through doc (entries doc (container l doc) c (size ts) a) ms (bodies_all doc ts a)
    entries_done none l c a ms h b p z e r = through_same _ ms refl
    entries_done (more t ts) l c a ms h b p z e r =
        let x = entry_done t l c a ms h.0 b p.0 (omega arith) e (λ k q. let y = r k q in omega arith) in
        let y = entries_done ts l c (a + 4) x.marks h.1 b p.1 (omega arith) (enough ms _ _ x.left e) (still ms _ _ _ x.left r) in
        through_then _ _ ms _ _ x y

    members_done : (os : Members) (l c p q a : ℕ) (ms : List ℕ) → MembersAre doc os p q a → 4 ≤ c → PlacedMembers doc os c a → depthm os ≤ l → words doc ≤ length ms
        → Room doc ms (bodies_members doc os a) → Through doc (entries doc (container l doc) c (sizem os) a) ms (bodies_members doc os a)
    members_done end l c p q a ms h b w z e r = through_same _ ms refl
    members_done (member x t os) l c p q a ms h b w z e r =
        let x = entry_done t l c a ms h.4 b w.0 (omega arith) e (λ k q. let y = r k q in omega arith) in
        let y = members_done os l c (word doc q) (q + 4) (a + 4) x.marks h.5 b w.1 (omega arith) (enough ms _ _ x.left e) (still ms _ _ _ x.left r) in
        through_then _ _ ms _ _ x y

  -- ---- the root

  root_aligned : Aligned 4
  root_aligned = record { least = omega arith; step = refl }

  scalar_done : (t : Tree) (ms : List ℕ) → depth t ≤ 0 → ScalarIs doc t 4 → words doc ≤ length ms → Room doc ms (λ k. within 4 2 k + bodies doc t 8 k)
      → Through doc (root_by doc (kind_of (low doc 4))) ms (λ k. within 4 2 k + bodies doc t 8 k)
  unfolding root_by scalar
  scalar_done t ms z h e r =
      let m = h.0 in let i = m.inside in
      let x = marks_body 4 2 (bodies doc t 8) ms root_aligned (omega arith) e r in
      rw m.kind_is (through_after _ _ ms _ (need_yes _ _ _ ms (eq→eqb m.size_is)) (through_after _ _ ms _ (need_yes _ _ _ ms (le→leb _ _ i))
      (through_then _ _ ms _ _ x (plain t _ 4 8 x.marks z h.1))))

  alone : (f : ℕ → ℕ) (ms : List ℕ) (r : Reading (List ℕ) (Unit {0})) → Room doc ms f → (Room doc ms (λ k. f k + 0) → Through doc r ms (λ k. f k + 0)) → Through doc r ms f
  alone f ms r h g =
      let x = g (λ k b. let q = h k b in omega arith) in
      let y = x.left in
      record { marks = x.marks; goes = x.goes; left = record { long = y.long; adds = λ k. let a = y.adds k in omega arith; once = y.once; beyond = y.beyond } }

  root_done : (t : Tree) (ms : List ℕ) → ContainerIs doc t 4 → PlacedUnder doc t 4 → depth t ≤ deepest → words doc ≤ length ms → Room doc ms (bodies_from doc t 4)
      → Through doc (root_by doc (kind_of (low doc 4))) ms (bodies_from doc t 4)
  unfolding root_by
  root_done null ms h p z e r = alone _ ms _ r (λ r. scalar_done null ms (omega arith) h e r)
  root_done (bool b) ms h p z e r = alone _ ms _ r (λ r. scalar_done (bool b) ms (omega arith) h e r)
  root_done (num x m) ms h p z e r = alone _ ms _ r (λ r. scalar_done (num x m) ms (omega arith) h e r)
  root_done (str x) ms h p z e r = alone _ ms _ r (λ r. scalar_done (str x) ms (omega arith) h e r)
  root_done (arr ts) ms h p z e r =
      rw h.0.kind_is (array_done ts (deepest - 1) 4 ms h root_aligned e r (λ ns e r. entries_done ts (deepest - 1) 4 8 ns h.1 (omega arith) p (omega arith) e r))
  root_done (obj os) ms h p z e r =
      rw h.0.kind_is (object_done os (deepest - 1) 4 ms h root_aligned e r (λ ns e r. members_done os (deepest - 1) 4 0 8 _ ns h.1 (omega arith) p (omega arith) e r))

  -- ---- the whole document

  module _ (t : Tree) (m : Means doc t) (ms : List ℕ) (e : words doc ≤ length ms) where
    zeros : List ℕ
    zeros = fill ms 0 (words doc) 0

    walked : Through doc (root_by doc (kind_of (low doc 4))) zeros (bodies_from doc t 4)
    unfolding zeros
    walked =
        let l = fill_length ms 0 (words doc) 0 in
        root_done t zeros m.root m.placed m.nested (omega arith)
        (λ k b. let q = fill_in ms 0 (words doc) 0 k (omega arith) (omega arith) (omega arith) in let w = m.tiled k b in omega arith)

    lent_done : lent doc ms ≡ done tt zeros
    unfolding lent zeros
    lent_done = then _ _ ms refl ∙ pass _ _ _ _ ms (le→leb _ _ e)

    marked_done : all_marked doc walked.marks ≡ done tt walked.marks
    unfolding all_marked zeros
    marked_done =
        let x = walked.left in
        let u = unmarked_none walked.marks 0 (words doc)
        (λ k a b. let q = fill_in ms 0 (words doc) 0 k (omega arith) (omega arith) (omega arith) in let w = m.tiled k (omega arith) in let v = x.adds k in omega arith) in
        let v : unmarked walked.marks 0 (words doc) ≡ words doc = omega arith in
        then _ _ _ refl ∙ need_yes _ _ _ _ (eq→eqb v)

    pub complete : (ns : List ℕ) × (check doc ms ≡ done tt ns)
    unfolding check
    complete = (
      walked.marks,
      then _ _ ms (header_done doc ms t m)
          ∙ (then _ _ ms (slots_done doc ms (count doc) 0 (λ j a b. (m.slots_good j (omega arith), ascends_yes doc ms j (count doc) (omega arith) m.ascending)))
          ∙ (pass _ _ _ _ ms (eq→eqb m.numbers_step)
          ∙ (then _ _ ms lent_done ∙ (then _ _ zeros walked.goes ∙ marked_done)))),
    )
