-- In an object of a good document, the quick lookup and the plain scan give the same answer, and it is the tree's.
use mathlib.Core.Path.{◌≡◌, refl, sym, ap, ◌∙◌, subst}
use mathlib.Core.Logic.{◌⊎◌, inl, inr}
use mathlib.Core.Bool.{Bool, true, false, not}
use mathlib.Core.List.{List}
use Prim.Native.Nat.{ℕ, zero, suc, ◌+◌, ◌*◌, ◌≤◌, ◌<◌}
use native.Mathlib.Omega.{arith}
use native.Mathlib.Decide.{ℕ_discrete}
use lib.Dec.{T, ltb, ltb→lt, nltb→le}
use Rattle.json_model.specs.Choose.{choose}
use Rattle.json_model.specs.Reading.{Outcome, answer, ask, answers}
use Rattle.json_model.specs.Texts.{compare_texts, compare_numbers, is_equal}
use Rattle.std.specs.declared.cmp.Ordering.TheVariants.{Less, Equal, Greater}
use Rattle.json_model.specs.Tree.{Tree, obj, Members, end, member, sizem, MemberIs, Lacks}
use Rattle.json_model.proofs.Reading.{then}
use Rattle.json_model.proofs.Texts.{below≢equal, equal≢above, numbers_below, numbers_equal, numbers_above, texts_equal, texts_same, texts_above, text_strict, text_cotrans, text_trans}
use Rattle.json_model.proofs.Tree.{member_at_lem, member_below}
use Rattle.binary_json_rules.specs.Areas.{word, count, slot, content}
use Rattle.binary_json_rules.specs.Meaning.{SlotIs, MembersAre, ContainerIs, Means}
use Rattle.binary_json_rules.specs.Questions.{key_entry_of, entry_of}
use Rattle.binary_json_rules.specs.Halving.{Item, compares, Halved, found, missed, broken, turns_of}
use Rattle.binary_json_rules.specs.Lookup.{Found, entry, absent, strings, keys, Counted, counted, after_keys, after_strings, quick_here, quick_lookup, content_item, text_halving, key_item, key_turns, scan_from, scan_here, plain_scan}
use Rattle.binary_json_theorems.proofs.Nodes.{Aligned}
use Rattle.binary_json_theorems.proofs.Answers.{key_slot, slot_read_lem, text_named_lem, span_content, object_answer}
use Rattle.binary_json_theorems.proofs.Halves.{compares_inj, Sorted, Ended, halving_ends, halving_same}

module _ (doc : List ℕ) (t : Tree) (m : Means doc t) where
  -- ---- the strings ascend

  rising : (i j : ℕ) → i < j → j < count doc → compare_texts (content doc i) (content doc j) ≡ Less
  rising i zero h b = absurd (omega arith)
  rising i (suc j) h b = go (ℕ_discrete i j) (rising i j)
    where
      go : Dec (i ≡ j) → (i < j → j < count doc → compare_texts (content doc i) (content doc j) ≡ Less) → compare_texts (content doc i) (content doc (suc j)) ≡ Less
      go (yes e) r = rw e (m.ascending j b)
      go (no n) r = text_trans _ _ _ (r (omega arith) (omega arith)) (m.ascending j b)

  clash : (i j : ℕ) → i < j → j < count doc → content doc i ≡ content doc j → ⊥
  clash i j h b e = text_strict (content doc j) (rw e at (rising i j h b))

  -- two slots of one text are one slot
  one_slot : (i j : ℕ) → i < count doc → j < count doc → content doc i ≡ content doc j → i ≡ j
  one_slot i j a b e =
      let p : i < j → ⊥ = λ h. clash i j h b e in
      let q : j < i → ⊥ = λ h. clash j i h a (sym e) in
      omega arith

  strings_sorted : (x : List ℕ) → Sorted (content_item doc x) (count doc)
  strings_sorted x = record {
    readable = λ i h. (compare_texts (content doc i) x, refl);
    rising = λ i j h b. go i j (text_cotrans _ _ x (rising i j h b));
  }
    where
      go : (i j : ℕ) → (compare_texts (content doc i) x ≡ Less) ⊎ (compare_texts x (content doc j) ≡ Less)
          → (content_item doc x i ≡ compares Less) ⊎ (content_item doc x j ≡ compares Greater)
      go i j (inl p) = inl (ap compares p)
      go i j (inr q) = inr (ap compares ((texts_above (content doc j) x).1 q))

  -- the quick lookup halves the contents
  pub strings_halve : (x : List ℕ) → strings doc x ≡ text_halving doc x
  strings_halve x = halving_same _ (content_item doc x) (count doc) (λ k h. rw (slot_read_lem doc t m k 0 h, span_content doc t m k))

  -- ---- the keys of an object ascend

  keys_above : (ms : Members) (p q a : ℕ) → MembersAre doc ms p q a → (j : ℕ) → j < sizem ms → p < word doc (q + 4 * j)
  keys_above end p q a h j b = absurd (omega arith)
  keys_above (member x v ms) p q a h zero b = let e : q + 4 * zero ≡ q = omega arith in rw e h.3
  keys_above (member x v ms) p q a h (suc j) b =
      let e : q + 4 * suc j ≡ q + 4 + 4 * j = omega arith in
      let r = keys_above ms (word doc q) (q + 4) (a + 4) h.5 j (omega arith) in
      let s = h.3 in
      rw e (omega arith)

  keys_rise : (ms : Members) (p q a : ℕ) → MembersAre doc ms p q a → (i j : ℕ) → i < j → j < sizem ms → word doc (q + 4 * i) < word doc (q + 4 * j)
  keys_rise end p q a h i j l b = absurd (omega arith)
  keys_rise (member x v ms) p q a h i zero l b = absurd (omega arith)
  keys_rise (member x v ms) p q a h zero (suc j) l b =
      let e : q + 4 * zero ≡ q = omega arith in
      let f : q + 4 * suc j ≡ q + 4 + 4 * j = omega arith in
      rw (e, f) (keys_above ms (word doc q) (q + 4) (a + 4) h.5 j (omega arith))
  keys_rise (member x v ms) p q a h (suc i) (suc j) l b =
      let e : q + 4 * suc i ≡ q + 4 + 4 * i = omega arith in
      let f : q + 4 * suc j ≡ q + 4 + 4 * j = omega arith in
      rw (e, f) (keys_rise ms (word doc q) (q + 4) (a + 4) h.5 i j (omega arith) (omega arith))

  module _ (c : ℕ) (ms : Members) (is : ContainerIs doc (obj ms) c) where
    abbrev n : ℕ
    n = sizem ms

    keys_sorted : (v : ℕ) → Sorted (key_item doc c v) n
    keys_sorted v = record {
      readable = λ j h. (compare_numbers (word doc (key_entry_of c j)) v, refl);
      rising = λ i j h b. go i j (keys_rise ms 0 (c + 4) (c + 4 + 4 * n) is.1 i j h b) (ltb (word doc (key_entry_of c i)) v) (ltb→lt _ _) (nltb→le _ _);
    }
      where
        go : (i j : ℕ) → word doc (key_entry_of c i) < word doc (key_entry_of c j) → (l : Bool) → (T l → word doc (key_entry_of c i) < v) → (T (not l) → v ≤ word doc (key_entry_of c i))
            → (key_item doc c v i ≡ compares Less) ⊎ (key_item doc c v j ≡ compares Greater)
        go i j h true p q = inl (ap compares ((numbers_below (word doc (key_entry_of c i)) v).1 (p tt)))
        go i j h false p q = let r = q tt in inr (ap compares ((numbers_above (word doc (key_entry_of c j)) v).1 (omega arith)))

    key_slot_of : (j : ℕ) (x : List ℕ) (v : Tree) → MemberIs ms j x v → (k : ℕ) × SlotIs doc (word doc (key_entry_of c j)) k × (x ≡ content doc k)
    key_slot_of j x v y = key_slot doc t m ms j 0 (c + 4) (c + 4 + 4 * n) x v is.1 y

    -- no key twice
    pub key_once : (i j : ℕ) (x : List ℕ) (u v : Tree) → MemberIs ms i x u → MemberIs ms j x v → i ≡ j
    key_once i j x u v p q =
        let (k, s, e) = key_slot_of i x u p in
        let (l, r, f) = key_slot_of j x v q in
        let o : k ≡ l = one_slot k l s.counted r.counted (sym e ∙ f) in
        let w : word doc (key_entry_of c i) ≡ word doc (key_entry_of c j) = s.place ∙ (ap (slot doc) o ∙ sym r.place) in
        let up = keys_rise ms 0 (c + 4) (c + 4 + 4 * n) is.1 in
        let p' : i < j → ⊥ = λ h. let z = up i j h (member_below ms j x v q) in omega arith in
        let q' : j < i → ⊥ = λ h. let z = up j i h (member_below ms i x u p) in omega arith in
        omega arith

    -- what an answer says of the members: the Entry of one with exactly the key, or that none has it
    pub data Right (x : List ℕ) (r : Found) : Type 0 where
      has : (j : ℕ) (v : Tree) → MemberIs ms j x v → r ≡ entry (entry_of c n j) → Right x r
      lacks : Lacks ms x → r ≡ absent → Right x r

    pub right_one : (x : List ℕ) (r s : Found) → Right x r → Right x s → r ≡ s
    right_one x r s (has i u p e) (has j v q f) = e ∙ (rw (key_once i j x u v p q) (sym f))
    right_one x r s (has i u p e) (lacks q f) = absurd (q i u p)
    right_one x r s (lacks p e) (has j v q f) = absurd (p j v q)
    right_one x r s (lacks p e) (lacks q f) = e ∙ sym f

    -- ---- the quick lookup

    -- KeyEntry j names string k exactly if member j has its content as key
    names : (j k : ℕ) (x : List ℕ) (v : Tree) → MemberIs ms j x v → k < count doc → content doc k ≡ x → word doc (key_entry_of c j) ≡ slot doc k
    names j k x v y b e =
        let (l, s, f) = key_slot_of j x v y in
        s.place ∙ ap (slot doc) (one_slot l k s.counted b (sym f ∙ sym e))

    named : (j k : ℕ) → j < n → k < count doc → word doc (key_entry_of c j) ≡ slot doc k → (v : Tree) × MemberIs ms j (content doc k) v
    unfolding slot
    named j k b h e =
        let (x, v, y) = member_at_lem ms j b in
        let (l, s, f) = key_slot_of j x v y in
        let p = s.place in
        let o : l ≡ k = omega arith in
        (v, rw (← (f ∙ ap (content doc) o)) y)

    -- a miss leaves no equal item
    missed_none : (item : ℕ → Item) (size l : ℕ) → ((i : ℕ) → i < l → item i ≡ compares Less) → ((i : ℕ) → l ≤ i → i < size → item i ≡ compares Greater)
        → (i : ℕ) → i < size → item i ≡ compares Equal → ⊥
    missed_none item size l lows highs i b e =
        let p : i < l → ⊥ = λ h. below≢equal (compares_inj (sym (lows i h) ∙ e)) in
        let q : l ≤ i → ⊥ = λ h. equal≢above (compares_inj (sym e ∙ highs i h b)) in
        omega arith

    -- the quick lookup of x answers r, right, with both counts
    pub record Quick (x : List ℕ) (r : Outcome (Unit {0}) Counted) (first second : ℕ) : Type 0 where
      pub found_is_lem : Found
      pub right : Right x found_is_lem
      pub same : r ≡ answers (counted found_is_lem first second)

    after_keys_lem : (x : List ℕ) (k first : ℕ) → k < count doc → content doc k ≡ x → (h : Halved) → Ended (key_item doc c (slot doc k)) n h
        → Quick x (ask (after_keys c n first h)) first (turns_of h)
    unfolding after_keys
    after_keys_lem x k first b e (found j turns) (l, q) =
        let w : word doc (key_entry_of c j) ≡ slot doc k = (numbers_equal _ _).0 (compares_inj q) in
        let (v, y) = named j k l b w in
        record { found_is_lem = entry (entry_of c n j); right = has j v (rw e at y) refl; same = refl }
    after_keys_lem x k first b e (missed l turns) (g, lows, highs) =
        record {
          found_is_lem = absent;
          right = lacks (λ j v y.
              missed_none (key_item doc c (slot doc k)) n l lows highs j (member_below ms j x v y) (ap compares ((numbers_equal _ _).1 (names j k x v y b e)))) refl;
          same = refl;
        }
    after_keys_lem x k first b e broken h = absurd h

    after_strings_lem : (x : List ℕ) (h : Halved) → Ended (content_item doc x) (count doc) h → Quick x (ask (after_strings doc c n h)) (turns_of h) (key_turns doc c n h)
    unfolding after_strings
    after_strings_lem x (found k turns) (b, q) =
        after_keys_lem x k turns b ((texts_equal _ _).0 (compares_inj q)) (keys doc c n (slot doc k)) (halving_ends (key_item doc c (slot doc k)) n (keys_sorted (slot doc k)))
    after_strings_lem x (missed l turns) (g, lows, highs) =
        record {
          found_is_lem = absent;
          right = lacks (λ j v y.
              let (k, s, e) = key_slot_of j x v y in
              missed_none (content_item doc x) (count doc) l lows highs k s.counted (ap compares ((texts_equal _ _).1 (sym e)))) refl;
          same = refl;
        }
    after_strings_lem x broken h = absurd h

    pub quick_right : Aligned c → (x : List ℕ) → Quick x (ask (quick_lookup doc c x)) (turns_of (text_halving doc x)) (key_turns doc c n (text_halving doc x))
    unfolding quick_lookup quick_here
    quick_right z x =
        let q = after_strings_lem x (text_halving doc x) (halving_ends (content_item doc x) (count doc) (strings_sorted x)) in
        record { found_is_lem = q.found_is_lem; right = q.right; same = object_answer doc t m c ms _ is z ∙ rw (strings_halve x) q.same }

    -- ---- the plain scan

    -- from member i of the object on, whose members from there on are those of rest
    data Scanned (rest : Members) (i : ℕ) (x : List ℕ) (r : Outcome (Unit {0}) Found) : Type 0 where
      first_has : (j : ℕ) (v : Tree) → MemberIs rest j x v → r ≡ answers (entry (entry_of c n (i + j))) → Scanned rest i x r
      none_has : Lacks rest x → r ≡ answers absent → Scanned rest i x r

    scan_later : (k x : List ℕ) (v : Tree) (rest : Members) (i : ℕ) (r : Outcome (Unit {0}) Found) → (k ≡ x → ⊥) → Scanned rest (i + 1) x r → Scanned (member k v rest) i x r
    scan_later k x v rest i r d (first_has j w y e) = let z : i + 1 + j ≡ i + suc j = omega arith in first_has (suc j) w y (rw z at e)
    scan_later k x v rest i r d (none_has f e) = none_has (λ j w y. go j w y) e
      where
        go : (j : ℕ) (w : Tree) → MemberIs (member k v rest) j x w → ⊥
        go zero w y = d (sym y.0)
        go (suc j) w y = f j w y

    scans : (rest : Members) (p i a : ℕ) (x : List ℕ) → MembersAre doc rest p (key_entry_of c i) a → Scanned rest i x (ask (scan_from doc c n x (sizem rest) i))
    unfolding scan_from choose
    scans end p i a x h = none_has (λ j v y. y) refl
    scans (member k v rest) p i a x h =
        let e : c + 4 + 4 * i + 4 ≡ c + 4 + 4 * (i + 1) = omega arith in
        go (is_equal (compare_texts k x)) refl (scans rest (word doc (key_entry_of c i)) (i + 1) (a + 4) x (rw e at h.5))
      where
        read : ask (scan_from doc c n x (suc (sizem rest)) i) ≡ choose (is_equal (compare_texts k x)) (answer (entry (entry_of c n i))) (scan_from doc c n x (sizem rest) (i + 1)) tt
        read = then _ _ tt (text_named_lem doc t m _ h.0 c h.1) ∙ rw (span_content doc t m h.0, ← h.2)

        go : (b : Bool) → is_equal (compare_texts k x) ≡ b → Scanned rest (i + 1) x (ask (scan_from doc c n x (sizem rest) (i + 1))) → Scanned (member k v rest) i x (ask (scan_from doc c n x (suc (sizem rest)) i))
        go true q r =
            let z : i + 0 ≡ i = omega arith in
            first_has 0 v (sym ((texts_same k x).0 (rw q tt)), refl) (read ∙ rw (q, z))
        go false q r =
            let d : k ≡ x → ⊥ = λ g. rw q at ((texts_same k x).1 g) in
            subst (λ (y : Outcome (Unit {0}) Found). Scanned (member k v rest) i x y) (sym (read ∙ rw q)) (scan_later k x v rest i _ d r)

    pub scan_right : Aligned c → (x : List ℕ) → (r : Found) × Right x r × (ask (plain_scan doc c x) ≡ answers r)
    unfolding plain_scan scan_here
    scan_right z x = go (scans ms 0 0 (c + 4 + 4 * n) x (rw first is.1))
      where
        first : c + 4 + 4 * 0 ≡ c + 4
        first = omega arith

        come : ask (plain_scan doc c x) ≡ ask (scan_from doc c n x n 0)
        come = object_answer doc t m c ms _ is z

        go : Scanned ms 0 x (ask (scan_from doc c n x n 0)) → (r : Found) × Right x r × (ask (plain_scan doc c x) ≡ answers r)
        go (first_has j v y e) = let w : 0 + j ≡ j = omega arith in (entry (entry_of c n j), has j v y refl, come ∙ rw w at e)
        go (none_has f e) = (absent, lacks f refl, come ∙ e)
