-- What the lent marks held before is never asked: two buffers with marks enough get the same number and place, and
-- leave the same marks of the tree behind, or both are as they were lent.
use Prim.Native.Nat.{ℕ, zero, suc, ◌+◌, ◌*◌, ◌≤◌, ◌<◌}
use mathlib.Core.List.{List}
use mathlib.Core.Path.{◌≡◌, refl, sym, ap, ◌∙◌}
use native.Mathlib.Omega.{arith}
use native.Mathlib.Decide.{ℕ_discrete}
use borrow.Author.Tests.{le-leb}
use lib.Dec.{eqb, leb→le, ltb→lt}
use lib.ListN.{length, get_or, set, length-set}
use lib.Seq.{get_or-set_same, get_or-set_other}
use Rattle.json_model.specs.Reading.{Reading, ask, follow, ◌>>=◌}
use Rattle.json_model.specs.Limits.{deepest}
use Rattle.json_model.proofs.Alike.{Alike, Sim, sim_then, sim_carry, sim_test, sim_need}
use Rattle.binary_json_rules.specs.Areas.{low, high, index, count, Kind, k_array, k_object, k_scalar, k_other, kind_of, EntryType, t_false, t_true, t_null, t_string, t_number, t_container, t_other, type_of}
use Rattle.binary_json_rules.specs.Marks.{words, word_place, word_at, clear, fill, unmarked}
use Rattle.binary_json_rules.specs.Verdict.{header, slots, slot_named, number_named, key_entries, entry_by, entry, entries, mark_body, container_by, container, scalar, root_by, lent, all_marked, check, verdict}
use Rattle.binary_json_theorems.proofs.Carried.{carry_header, carry_slots, carry_slot_named, carry_number_named, carry_keys}
use Rattle.binary_json_theorems.proofs.Marks.{fill_length, fill_in}

-- ---- marks that are the same

clear_alike : (ms ns : List ℕ) (j w : ℕ) → ((k : ℕ) → j ≤ k → k < j + w → get_or ms k 0 ≡ get_or ns k 0) → clear ms j w ≡ clear ns j w
unfolding clear
clear_alike ms ns j zero h = refl
clear_alike ms ns j (suc w) h = rw (h j (omega arith) (omega arith), clear_alike ms ns (j + 1) w (λ k a b. h k (omega arith) (omega arith)))

unmarked_alike : (ms ns : List ℕ) (j n : ℕ) → ((k : ℕ) → j ≤ k → k < j + n → get_or ms k 0 ≡ get_or ns k 0) → unmarked ms j n ≡ unmarked ns j n
unfolding unmarked
unmarked_alike ms ns j zero h = refl
unmarked_alike ms ns j (suc n) h = rw (h j (omega arith) (omega arith), unmarked_alike ms ns (j + 1) n (λ k a b. h k (omega arith) (omega arith)))

fill_alike : (ms ns : List ℕ) (j w v k : ℕ) → j + w ≤ length ms → j + w ≤ length ns → get_or ms k 0 ≡ get_or ns k 0 → get_or (fill ms j w v) k 0 ≡ get_or (fill ns j w v) k 0
unfolding fill
fill_alike ms ns j zero v k a b e = e
fill_alike ms ns j (suc w) v k a b e =
    let l = length-set ms j v in
    let m = length-set ns j v in
    fill_alike (set ms j v) (set ns j v) (j + 1) w v k (omega arith) (omega arith) (go (ℕ_discrete j k))
  where
    go : Dec (j ≡ k) → get_or (set ms j v) k 0 ≡ get_or (set ns j v) k 0
    go (yes q) = rw (← q) (get_or-set_same ms j v 0 (omega arith) ∙ sym (get_or-set_same ns j v 0 (omega arith)))
    go (no n) = get_or-set_other ms j k v 0 (λ q. n (sym q)) ∙ (e ∙ sym (get_or-set_other ns j k v 0 (λ q. n (sym q))))

module _ (doc : List ℕ) where
  -- both have a mark for each word of the tree, and these are the same
  pub record Like (y z : List ℕ) : Type 0 where
    pub left : words doc ≤ length y
    pub right : words doc ≤ length z
    pub same : (k : ℕ) → k < words doc → get_or y k 0 ≡ get_or z k 0

  module _ (ms ns : List ℕ) (left : words doc ≤ length ms) (right : words doc ≤ length ns) where
    -- how the marks stand to each other at a refusal
    pub data Kept (y z : List ℕ) : Type 0 where
      untouched : y ≡ ms → z ≡ ns → Kept y z
      walked : Like y z → Kept y z

    abbrev Lent : List ℕ → List ℕ → Type 0
    Lent y z = (y ≡ ms) × (z ≡ ns)

    abbrev Both : (List ℕ → List ℕ → Type 0) → (List ℕ → List ℕ → Type 0) → Reading (List ℕ) (Unit {0}) → Type 0
    Both F G m = Sim Kept F G m m

    header_both : Both Lent Lent (header doc)
    header_both y z r = rw (carry_header doc y, carry_header doc z) (sim_carry Kept Lent (ask (header doc)) y z (untouched r.0 r.1) r)

    slots_both : (n k : ℕ) → Both Lent Lent (slots doc n k)
    slots_both n k y z r = rw (carry_slots doc n k y, carry_slots doc n k z) (sim_carry Kept Lent (ask (slots doc n k)) y z (untouched r.0 r.1) r)

    lent_both : Both Lent Like (lent doc)
    unfolding lent ◌>>=◌ follow
    lent_both y z r =
        let a : words doc ≤ length y = rw r.0 left in
        let b : words doc ≤ length z = rw r.1 right in
        let c = fill_length y 0 (words doc) 0 in
        let d = fill_length z 0 (words doc) 0 in
        sim_test Kept Like _ _ 15 _ _ _ y z (le-leb (words doc) (length y) a ∙ sym (le-leb (words doc) (length z) b)) (untouched r.0 r.1)
        (λ _. (
          refl,
          record {
            left = omega arith;
            right = omega arith;
            same = λ k h. fill_in y 0 (words doc) 0 k (omega arith) (omega arith) (omega arith) ∙ sym (fill_in z 0 (words doc) 0 k (omega arith) (omega arith) (omega arith));
          },
        ))

    -- ---- the walk

    named_both : (v n p : ℕ) → Both Like Like (slot_named doc v n p)
    named_both v n p y z r = rw (carry_slot_named doc v n p y, carry_slot_named doc v n p z) (sim_carry Kept Like (ask (slot_named doc v n p)) y z (walked r) r)

    numbered_both : (v n p : ℕ) → Both Like Like (number_named doc v n p)
    numbered_both v n p y z r = rw (carry_number_named doc v n p y, carry_number_named doc v n p z) (sim_carry Kept Like (ask (number_named doc v n p)) y z (walked r) r)

    keys_both : (n p q : ℕ) → Both Like Like (key_entries doc n p q)
    keys_both n p q y z r = rw (carry_keys doc n p q y, carry_keys doc n p q z) (sim_carry Kept Like (ask (key_entries doc n p q)) y z (walked r) r)

    mark_both : (o w : ℕ) → 4 ≤ o → o + 4 * w ≤ index doc → Both Like Like (mark_body o w)
    unfolding mark_body words ◌>>=◌ follow
    mark_both o w l i y z r =
        let a = r.left in
        let b = r.right in
        let c = fill_length y (word_at o) w 1 in
        let d = fill_length z (word_at o) w 1 in
        sim_test Kept Like _ _ 14 o _ _ y z (clear_alike y z (word_at o) w (λ k f g. r.same k (omega arith))) (walked r)
        (λ _. (
          refl,
          record {
            left = omega arith;
            right = omega arith;
            same = λ k h. fill_alike y z (word_at o) w 1 k (omega arith) (omega arith) (r.same k h);
          },
        ))

    module _ (child : ℕ → Reading (List ℕ) (Unit {0})) (ih : (o : ℕ) → 4 ≤ o → Both Like Like (child o)) where
      entry_by_both : (c a : ℕ) (t : EntryType) → 4 ≤ c → Both Like Like (entry_by doc child c a t)
      unfolding entry_by
      entry_by_both c a t_false l y z r = (refl, r)
      entry_by_both c a t_true l y z r = (refl, r)
      entry_by_both c a t_null l y z r = (refl, r)
      entry_by_both c a t_string l y z r = named_both _ 9 a y z r
      entry_by_both c a t_number l y z r = numbered_both _ 9 a y z r
      entry_by_both c a t_container l y z r =
          sim_test Kept Like _ _ 9 a _ _ y z refl (walked r) (λ _. sim_test Kept Like _ _ 9 a _ _ y z refl (walked r)
          (λ t. let p : c < high doc a = ltb→lt _ _ t in ih (high doc a) (omega arith) y z r))
      entry_by_both c a t_other l y z r = (refl, refl, walked r)

      entries_both : (n c a : ℕ) → 4 ≤ c → Both Like Like (entries doc child c n a)
      unfolding entries entry
      entries_both zero c a l y z r = (refl, r)
      entries_both (suc n) c a l y z r = sim_then Kept Like Like Like _ _ _ _ (entry_by_both c a (type_of (low doc a)) l) (λ _. entries_both n c (a + 4) l) y z r

      container_by_both : (o n : ℕ) (k : Kind) → 4 ≤ o → Both Like Like (container_by doc child o n k)
      unfolding container_by
      container_by_both o n k_array l y z r =
          sim_test Kept Like _ _ 8 o _ _ y z refl (walked r) (λ t. let i : o + 4 + 4 * n ≤ index doc = leb→le _ _ t in
          sim_then Kept Like Like Like _ _ _ _ (mark_both o (1 + n) l (omega arith)) (λ _. entries_both n o _ l) y z r)
      container_by_both o n k_object l y z r =
          sim_test Kept Like _ _ 8 o _ _ y z refl (walked r) (λ t. let i : o + 4 + 4 * (2 * n) ≤ index doc = leb→le _ _ t in
          sim_then Kept Like Like Like _ _ _ _ (mark_both o (1 + 2 * n) l (omega arith))
          (λ _. sim_then Kept Like Like Like _ _ _ _ (keys_both n 0 _) (λ _. entries_both n o _ l)) y z r)
      container_by_both o n k_scalar l y z r = (refl, refl, walked r)
      container_by_both o n k_other l y z r = (refl, refl, walked r)

    container_both : (levels o : ℕ) → 4 ≤ o → Both Like Like (container levels doc o)
    unfolding container
    container_both zero o l y z r = (refl, refl, walked r)
    container_both (suc n) o l y z r =
        sim_test Kept Like _ _ 8 o _ _ y z refl (walked r) (λ _. container_by_both (container n doc) (container_both n) o (high doc o) (kind_of (low doc o)) l y z r)

    root_both : (k : Kind) → Both Like Like (root_by doc k)
    unfolding root_by scalar entry
    root_both k_array = container_both deepest 4 (omega arith)
    root_both k_object = container_both deepest 4 (omega arith)
    root_both k_scalar = λ y z r.
        sim_test Kept Like _ _ 8 4 _ _ y z refl (walked r) (λ _. sim_test Kept Like _ _ 8 4 _ _ y z refl (walked r) (λ t. let i : 12 ≤ index doc = leb→le _ _ t in
        sim_then Kept Like Like Like _ _ _ _ (mark_both 4 2 (omega arith) (omega arith))
        (λ _. entry_by_both _ (λ o l x v u. (refl, refl, walked u)) 4 8 (type_of (low doc 8)) (omega arith)) y z r))
    root_both k_other = container_both deepest 4 (omega arith)

    all_marked_both : Both Like Like (all_marked doc)
    unfolding all_marked ◌>>=◌ follow
    all_marked_both y z r =
        let e = unmarked_alike y z 0 (words doc) (λ k a b. r.same k (omega arith)) in
        sim_need Kept Like _ _ 13 _ _ y z (ap (λ k. eqb k (words doc)) e) (ap word_place e) (walked r) r

    -- ---- the whole check

    pub whatever_before : Alike Kept Like (verdict doc ms) (verdict doc ns)
    unfolding check
    whatever_before =
        sim_then Kept Lent Lent Like _ _ _ _ header_both
        (λ _. sim_then Kept Lent Lent Like _ _ _ _ (slots_both (count doc) 0)
        (λ _ y z r. sim_test Kept Like _ _ 7 _ _ _ y z refl (untouched r.0 r.1)
        (λ _. sim_then Kept Lent Like Like _ _ _ _ lent_both
        (λ _. sim_then Kept Like Like Like _ _ _ _ (root_both (kind_of (low doc 4))) (λ _. all_marked_both)) y z r)))
        ms ns (refl, refl)
