-- What the lent marks are after the check, whatever its verdict: as they were after 1 to 7 and 15; after 8 to 14, and
-- where the document is accepted, those of the tree are 0 or 1, and those beyond are as they were.
use Prim.Native.Nat.{ℕ, zero, suc, ◌+◌, ◌*◌, ◌≤◌, ◌<◌}
use mathlib.Core.Bool.{Bool, true, false}
use mathlib.Core.List.{List}
use mathlib.Core.Logic.{◌⊎◌, inl, inr}
use mathlib.Core.Path.{◌≡◌, refl, ◌∙◌}
use native.Mathlib.Omega.{arith}
use lib.Dec.{T, leb→le, ltb→lt}
use lib.ListN.{length, get_or}
use Rattle.json_model.specs.Reading.{Outcome, halt, done, Reading, follow, ◌>>=◌, need}
use Rattle.json_model.specs.Limits.{deepest}
use Rattle.binary_json_rules.specs.Areas.{word, low, high, index, count, Kind, k_array, k_object, k_scalar, k_other, kind_of, EntryType, t_false, t_true, t_null, t_string, t_number, t_container, t_other, type_of}
use Rattle.binary_json_rules.specs.Marks.{words, word_at, fill}
use Rattle.binary_json_rules.specs.Verdict.{header, slot_rules, slots, slot_named, number_named, key_entries, entry_by, entry, entries, mark_body, container_by, container, scalar, root_by, lent, all_marked, check, verdict}
use Rattle.binary_json_theorems.proofs.Marks.{fill_length, fill_in, fill_past, fill_bits}

-- how a reading ends: refused with what is said of its number and of what is kept, or done with what is said of what is
-- kept
abbrev pub Ends : {S A : Type 0} → (ℕ → S → Type 0) → (S → Type 0) → Outcome S A → Type 0
Ends H F (halt n p z) = H n z
Ends H F (done a z) = F z

module _ {S : Type 0} (H : ℕ → S → Type 0) where
  ends_then : {A B : Type 0} (F G : S → Type 0) (m : Reading S A) (f : A → Reading S B) (s : S) → Ends H F (m s) → ((a : A) (z : S) → F z → Ends H G (f a z)) → Ends H G ((m >>= f) s)
  unfolding ◌>>=◌ follow
  ends_then {A = A} F G m f s h k = go (m s) h
    where
      go : (o : Outcome S A) → Ends H F o → Ends H G (follow o f)
      go (halt n p z) h = h
      go (done a z) h = k a z h

  ends_need : (F : S → Type 0) (t : Bool) (n p : ℕ) (s : S) → H n s → (T t → F s) → Ends H F (need t n p s)
  unfolding need
  ends_need F true n p s h f = f tt
  ends_need F false n p s h f = h

  ends_test : {B : Type 0} (G : S → Type 0) (t : Bool) (n p : ℕ) (f : Unit {0} → Reading S B) (s : S) → H n s → (T t → Ends H G (f tt s)) → Ends H G ((need t n p >>= f) s)
  unfolding need ◌>>=◌ follow
  ends_test G true n p f s h k = k tt
  ends_test G false n p f s h k = h

module _ (doc marks : List ℕ) where
  -- the tree's marks are 0 or 1, the others as they were
  pub record Walked (z : List ℕ) : Type 0 where
    pub long : length z ≡ length marks
    pub bits : (k : ℕ) → k < words doc → get_or z k 0 ≤ 1
    pub beyond : (k : ℕ) → words doc ≤ k → get_or z k 0 ≡ get_or marks k 0

  pub data AtRefusal (n : ℕ) (z : List ℕ) : Type 0 where
    untouched : (n ≤ 7) ⊎ (n ≡ 15) → z ≡ marks → AtRefusal n z
    walked : 8 ≤ n → n ≤ 14 → words doc ≤ length marks → Walked z → AtRefusal n z

  abbrev Same : List ℕ → Type 0
  Same z = z ≡ marks

  -- ---- before the walk

  early : (n : ℕ) (z : List ℕ) → n ≤ 7 → Same z → AtRefusal n z
  early n z h e = untouched (inl h) e

  header_ends : (z : List ℕ) → Same z → Ends AtRefusal Same (header doc z)
  unfolding header
  header_ends z e =
      ends_test AtRefusal Same _ 1 _ _ z (early 1 z (omega arith) e) (λ _. ends_test AtRefusal Same _ 2 _ _ z (early 2 z (omega arith) e) (λ _. ends_test AtRefusal Same _ 3 _ _ z (early 3 z (omega arith) e)
      (λ _. ends_test AtRefusal Same _ 4 _ _ z (early 4 z (omega arith) e) (λ _. ends_test AtRefusal Same _ 4 _ _ z (early 4 z (omega arith) e) (λ _. ends_test AtRefusal Same _ 4 _ _ z (early 4 z (omega arith) e)
      (λ _. ends_need AtRefusal Same _ 4 _ z (early 4 z (omega arith) e) (λ _. e)))))))

  slot_ends : (k : ℕ) (z : List ℕ) → Same z → Ends AtRefusal Same (slot_rules doc k z)
  unfolding slot_rules
  slot_ends k z e =
      ends_test AtRefusal Same _ 5 _ _ z (early 5 z (omega arith) e) (λ _. ends_test AtRefusal Same _ 5 _ _ z (early 5 z (omega arith) e) (λ _. ends_test AtRefusal Same _ 5 _ _ z (early 5 z (omega arith) e)
      (λ _. ends_test AtRefusal Same _ 5 _ _ z (early 5 z (omega arith) e) (λ _. ends_need AtRefusal Same _ 6 _ z (early 6 z (omega arith) e) (λ _. e)))))

  slots_end : (n k : ℕ) (z : List ℕ) → Same z → Ends AtRefusal Same (slots doc n k z)
  unfolding slots
  slots_end zero k z e = e
  slots_end (suc n) k z e = ends_then AtRefusal Same Same _ _ z (slot_ends k z e) (λ _ y f. slots_end n (suc k) y f)

  zeros : words doc ≤ length marks → Walked (fill marks 0 (words doc) 0)
  zeros m = record {
    long = fill_length marks 0 (words doc) 0;
    bits = λ k b. let q = fill_in marks 0 (words doc) 0 k (omega arith) (omega arith) (omega arith) in omega arith;
    beyond = λ k b. fill_past marks 0 (words doc) 0 k (omega arith);
  }

  abbrev Ready : List ℕ → Type 0
  Ready z = (words doc ≤ length marks) × Walked z

  lent_ends : (z : List ℕ) → Same z → Ends AtRefusal Ready (lent doc z)
  unfolding lent ◌>>=◌ follow
  lent_ends z e =
      ends_test AtRefusal Ready _ 15 _ _ z (untouched (inr refl) e)
      (λ t. let m : words doc ≤ length z = leb→le _ _ t in let n : words doc ≤ length marks = rw e at m in (n, rw e (zeros n)))

  -- ---- the walk

  module _ (many : words doc ≤ length marks) where
    late : (n : ℕ) (z : List ℕ) → 8 ≤ n → n ≤ 14 → Walked z → AtRefusal n z
    late n z a b w = walked a b many w

    slot_named_ends : (v n p : ℕ) (z : List ℕ) → 8 ≤ n → n ≤ 14 → Walked z → Ends AtRefusal Walked (slot_named doc v n p z)
    unfolding slot_named
    slot_named_ends v n p z a b w =
        ends_test AtRefusal Walked _ n _ _ z (late n z a b w) (λ _. ends_test AtRefusal Walked _ n _ _ z (late n z a b w) (λ _. ends_need AtRefusal Walked _ n _ z (late n z a b w) (λ _. w)))

    number_named_ends : (v p : ℕ) (z : List ℕ) → Walked z → Ends AtRefusal Walked (number_named doc v 9 p z)
    unfolding number_named
    number_named_ends v p z w =
        let l = late 9 z (omega arith) (omega arith) w in
        ends_test AtRefusal Walked _ 9 _ _ z l (λ _. ends_test AtRefusal Walked _ 9 _ _ z l (λ _. ends_test AtRefusal Walked _ 9 _ _ z l
        (λ _. ends_need AtRefusal Walked _ 10 _ z (late 10 z (omega arith) (omega arith) w) (λ _. w))))

    keys_end : (n p q : ℕ) (z : List ℕ) → Walked z → Ends AtRefusal Walked (key_entries doc n p q z)
    unfolding key_entries
    keys_end zero p q z w = w
    keys_end (suc n) p q z w =
        ends_then AtRefusal Walked Walked _ _ z (slot_named_ends _ 11 q z (omega arith) (omega arith) w)
        (λ _ y v. ends_test AtRefusal Walked _ 11 _ _ y (late 11 y (omega arith) (omega arith) v) (λ _. keys_end n (word doc q) (q + 4) y v))

    mark_ends : (o w : ℕ) (z : List ℕ) → 4 ≤ o → o + 4 * w ≤ index doc → Walked z → Ends AtRefusal Walked (mark_body o w z)
    unfolding mark_body words ◌>>=◌ follow
    mark_ends o w z l i x =
        let e = x.long in
        ends_test AtRefusal Walked _ 14 _ _ z (late 14 z (omega arith) (omega arith) x)
        (λ _. record {
          long = fill_length z (word_at o) w 1 ∙ x.long;
          bits = λ k b. fill_bits z (word_at o) w k (omega arith) (x.bits k b);
          beyond = λ k b. fill_past z (word_at o) w 1 k (omega arith) ∙ x.beyond k b;
        })

    module _ (child : ℕ → Reading (List ℕ) (Unit {0})) (ih : (o : ℕ) (z : List ℕ) → 4 ≤ o → Walked z → Ends AtRefusal Walked (child o z)) where
      entry_by_ends : (c a : ℕ) (t : EntryType) (z : List ℕ) → 4 ≤ c → Walked z → Ends AtRefusal Walked (entry_by doc child c a t z)
      unfolding entry_by
      entry_by_ends c a t_false z l w = w
      entry_by_ends c a t_true z l w = w
      entry_by_ends c a t_null z l w = w
      entry_by_ends c a t_string z l w = slot_named_ends _ 9 a z (omega arith) (omega arith) w
      entry_by_ends c a t_number z l w = number_named_ends _ a z w
      entry_by_ends c a t_container z l w =
          let h = late 9 z (omega arith) (omega arith) w in
          ends_test AtRefusal Walked _ 9 _ _ z h (λ _. ends_test AtRefusal Walked _ 9 _ _ z h (λ t. let p : c < high doc a = ltb→lt _ _ t in ih (high doc a) z (omega arith) w))
      entry_by_ends c a t_other z l w = late 9 z (omega arith) (omega arith) w

      entries_end : (n c a : ℕ) (z : List ℕ) → 4 ≤ c → Walked z → Ends AtRefusal Walked (entries doc child c n a z)
      unfolding entries entry
      entries_end zero c a z l w = w
      entries_end (suc n) c a z l w = ends_then AtRefusal Walked Walked _ _ z (entry_by_ends c a (type_of (low doc a)) z l w) (λ _ y v. entries_end n c (a + 4) y l v)

      container_by_ends : (o n : ℕ) (k : Kind) (z : List ℕ) → 4 ≤ o → Walked z → Ends AtRefusal Walked (container_by doc child o n k z)
      unfolding container_by
      container_by_ends o n k_array z l w =
          ends_test AtRefusal Walked _ 8 _ _ z (late 8 z (omega arith) (omega arith) w) (λ t. let i : o + 4 + 4 * n ≤ index doc = leb→le _ _ t in
          ends_then AtRefusal Walked Walked _ _ z (mark_ends o (1 + n) z l (omega arith) w) (λ _ y v. entries_end n o _ y l v))
      container_by_ends o n k_object z l w =
          ends_test AtRefusal Walked _ 8 _ _ z (late 8 z (omega arith) (omega arith) w) (λ t. let i : o + 4 + 4 * (2 * n) ≤ index doc = leb→le _ _ t in
          ends_then AtRefusal Walked Walked _ _ z (mark_ends o (1 + 2 * n) z l (omega arith) w)
          (λ _ y v. ends_then AtRefusal Walked Walked _ _ y (keys_end n 0 _ y v) (λ _ x u. entries_end n o _ x l u)))
      container_by_ends o n k_scalar z l w = late 8 z (omega arith) (omega arith) w
      container_by_ends o n k_other z l w = late 8 z (omega arith) (omega arith) w

    container_ends : (levels o : ℕ) (z : List ℕ) → 4 ≤ o → Walked z → Ends AtRefusal Walked (container levels doc o z)
    unfolding container
    container_ends zero o z l w = late 12 z (omega arith) (omega arith) w
    container_ends (suc n) o z l w =
        ends_test AtRefusal Walked _ 8 _ _ z (late 8 z (omega arith) (omega arith) w) (λ _. container_by_ends (container n doc) (container_ends n) o (high doc o) (kind_of (low doc o)) z l w)

    root_ends : (k : Kind) (z : List ℕ) → Walked z → Ends AtRefusal Walked (root_by doc k z)
    unfolding root_by scalar entry
    root_ends k_array z w = container_ends deepest 4 z (omega arith) w
    root_ends k_object z w = container_ends deepest 4 z (omega arith) w
    root_ends k_scalar z w =
        let h = late 8 z (omega arith) (omega arith) w in
        ends_test AtRefusal Walked _ 8 _ _ z h (λ _. ends_test AtRefusal Walked _ 8 _ _ z h (λ t. let i : 12 ≤ index doc = leb→le _ _ t in
        ends_then AtRefusal Walked Walked _ _ z (mark_ends 4 2 z (omega arith) (omega arith) w)
        (λ _ y v. entry_by_ends _ (λ o x l u. late 9 x (omega arith) (omega arith) u) 4 8 (type_of (low doc 8)) y (omega arith) v)))
    root_ends k_other z w = container_ends deepest 4 z (omega arith) w

    all_marked_ends : (z : List ℕ) → Walked z → Ends AtRefusal Walked (all_marked doc z)
    unfolding all_marked ◌>>=◌ follow
    all_marked_ends z w = ends_need AtRefusal Walked _ 13 _ z (late 13 z (omega arith) (omega arith) w) (λ _. w)

  -- ---- the whole check

  pub afterwards : Ends AtRefusal Walked (verdict doc marks)
  unfolding check
  afterwards =
      ends_then AtRefusal Same Walked _ _ marks (header_ends marks refl)
      (λ _ z e. ends_then AtRefusal Same Walked _ _ z (slots_end (count doc) 0 z e)
      (λ _ y f. ends_test AtRefusal Walked _ 7 _ _ y (early 7 y (omega arith) f)
      (λ _. ends_then AtRefusal Ready Walked _ _ y (lent_ends y f)
      (λ _ x r. ends_then AtRefusal Walked Walked _ _ x (root_ends r.0 (kind_of (low doc 4)) x r.1) (λ _ v w. all_marked_ends r.0 v w)))))
