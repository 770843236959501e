-- The names as the code passes them are the rules' names: run side by side, the two say the same, the words hold the pairs of exactly the
-- names passed, and the links chain them.
use mathlib.Core.Path.{◌≡◌, refl, ap, ◌∙◌}
use mathlib.Core.Bool.{Bool, true, false, not}
use mathlib.Core.List.{List, [], ◌∷◌, ◌++◌}
use Prim.Native.Nat.{ℕ, zero, suc, ◌+◌, ◌*◌, ◌/◌, ◌≤◌, ◌<◌, min}
use native.Mathlib.Omega.{arith}
use lib.Dec.{T, leb→le}
use lib.ListN.{length, replicate, length-replicate}
use Rattle.json_model.specs.Bytes.{number, part}
use Rattle.json_model.specs.Reading.{Reading, ask, follow, ◌>>=◌, need}
use Rattle.fractured_json_rules.specs.Meaning.{Keys}
use Rattle.fractured_json_rules.specs.KeyList.{met, next_name, names_from}
use Rattle.fractured_json_keys.specs.Passed.{keys_from, keys_in, with_pair}
use Rattle.fractured_json_keys.specs.Chains.{buckets_in, bucket_of, seen_in, linked_in}
use Rattle.fractured_json_keys.proofs.Chained.{Linked, all_zero, no_links, seen_met, linked_more, pair_length, keys_more}
use Rattle.fractured_json_list.specs.Passing.{NamePassed, added, fresh_in, name_in, names_in}

-- the names passed, the words that hold them, and the links that chain them
record Tied (list : List ℕ) (ks : Keys) (j : ℕ) (words links : List ℕ) : Type 0 where
  holds : keys_in words j ≡ ks
  roomy : j ≤ length words / 2
  linked : Linked list words links j

module _ (list : List ℕ) (ks : Keys) (j : ℕ) (words links : List ℕ) (tied : Tied list ks j words links) where
  same_test : (t : List ℕ) → seen_in list t words links j ≡ met list t ks
  same_test t = seen_met list t words links j tied.linked tied.roomy ∙ ap (met list t) tied.holds

  one_name_more : (p n : ℕ) → j < length words / 2
      → Tied list (ks ++ (record { start = p; len = n } ∷ [])) (j + 1) (with_pair words j p n) (linked_in links j (bucket_of (part list p n) (buckets_in links)))
  one_name_more p n h = record {
    holds = keys_more words j p n (omega arith) ∙ ap (λ z. z ++ (record { start = p; len = n } ∷ [])) tied.holds;
    roomy = rw (pair_length words j p n) (omega arith);
    linked = linked_more list words links j p n tied.linked (omega arith);
  }

-- a test that is the same on both sides, and what is known after it
same_need : {A B : Type 0} (b c : Bool) (n p : ℕ) (f : Unit {0} → Reading (Unit {0}) A) (g : A → Reading (Unit {0}) B) (h : Unit {0} → Reading (Unit {0}) B) → b ≡ c → (T b → ask (f tt >>= g) ≡ ask (h tt))
    → ask ((need b n p >>= f) >>= g) ≡ ask (need c n p >>= h)
unfolding ◌>>=◌ follow need
same_need true c n p f g h e k = rw (← e) (k tt)
same_need false c n p f g h e k = rw (← e) refl

module _ (list : List ℕ) where
  -- rule 54 is tested alike, and what follows it says the same
  same_fresh : (o n j : ℕ) (words links : List ℕ) (ks : Keys) → Tied list ks j words links → (f : NamePassed → Reading (Unit {0}) (Unit {0})) (h : Unit {0} → Reading (Unit {0}) (Unit {0}))
      → ask (f (added j (bucket_of (part list (o + 2) n) (buckets_in links)) (o + 2) n words links)) ≡ ask (h tt)
      → ask (fresh_in list o n j words links >>= f) ≡ ask (need (not (met list (part list (o + 2) n) ks)) 54 o >>= h)
  unfolding fresh_in ◌>>=◌ follow
  same_fresh o n j words links ks tied f h e = same_need _ _ _ _ _ f h (ap not (same_test list ks j words links tied (part list (o + 2) n))) (λ t. e)

  -- there is room for as many names as are left and as the list can hold
  same_names : (n o j : ℕ) (words links : List ℕ) (ks : Keys) → Tied list ks j words links → 2 * j ≤ o → min (j + n) (length list / 2) ≤ length words / 2
      → ask (names_in list n o j words links) ≡ ask (names_from list n o ks)
  unfolding names_in names_from name_in added
  same_names zero o j words links ks tied l room = refl
  same_names (suc n) o j words links ks tied l room =
      same_need _ _ _ _ _ _ _ refl λ a.
      same_need _ _ _ _ _ _ _ refl λ b.
      let i = leb→le (o + 2) (length list) a in
      same_fresh o (number list o 2) j words links ks tied _ _
      (same_names n (next_name list o) (j + 1) _ _ _ (one_name_more list ks j words links tied (o + 2) (number list o 2) (omega arith)) (omega arith) (rw (pair_length words j (o + 2) (number list o 2)) (omega arith)))

-- from the first name on, with words and links that are all 0
pub names_alike : (list : List ℕ) (n m : ℕ) → min n (length list / 2) ≤ m / 2 → ask (names_in list n 3 0 (replicate m 0) (replicate m 0)) ≡ ask (names_from list n 3 [])
unfolding keys_from
names_alike list n m h = same_names list n 3 0 (replicate m 0) (replicate m 0) [] start (omega arith) (rw length-replicate (omega arith))
  where
    none : min 0 (length (replicate {A = ℕ} m 0) / 2) ≡ 0
    none = omega arith

    start : Tied list [] 0 (replicate m 0) (replicate m 0)
    start = record { holds = rw none; roomy = omega arith; linked = no_links list (replicate m 0) (replicate m 0) (all_zero m) }
