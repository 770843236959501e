-- The walk over the number of keys, the words of the lent table and the links is the rules' walk over the keys themselves: run
-- side by side, the two say the same, the words hold the pairs of exactly the keys passed, and the links chain them.
use mathlib.Core.Path.{◌≡◌, refl, sym, ap, ◌∙◌}
use mathlib.Core.Bool.{Bool, true, false, not}
use mathlib.Core.List.{List, [], ◌∷◌, ◌++◌}
use Prim.Native.Nat.{ℕ, zero, suc, ◌+◌, ◌*◌, ◌/◌, ◌≤◌, ◌<◌, min}
use native.Mathlib.Omega.{arith}
use lib.Dec.{ltb, leb, ltb→lt}
use lib.ListN.{length, get_or, drop, length-append}
use Rattle.json_model.specs.Bytes.{part}
use Rattle.json_model.specs.Limits.{most_keys, deepest}
use Rattle.json_model.specs.Reading.{Outcome, halt, done, Reading, ask, answer, refuse, keep, follow, ◌>>=◌, need}
use Rattle.json_model.proofs.Alike.{sim_then, sim_carry, sim_test}
use Rattle.json_model.proofs.Alike as Sides
use Rattle.fractured_json_rules.specs.ByteTables.{KeyNumber, KeyForm, immediate, back_reference, global_index, k_reserved, key_form_of}
use Rattle.fractured_json_rules.specs.Meaning.{Key, Keys}
use Rattle.fractured_json_rules.specs.KeyList.{met}
use Rattle.fractured_json_rules.specs.Verdict.{byte_at, text_at, Numeral, numeral, key_number_at, in_turn, member, value, key_by, new_key, old_key, listed_key, check_key}
use Rattle.fractured_json_rules.specs.KeyTable.{room_of, pairs, stored, key_of}
use Rattle.fractured_json_theorems.proofs.KeyTable.{room_words, stored_length}
use Rattle.fractured_json_theorems.proofs.Readers.{kept_is, keep_is}
use Rattle.fractured_json_values.specs.Opened.{Opened, leaf, inside, opened_at}
use Rattle.fractured_json_keys.specs.Passed.{keys_from, keys_in, with_pair}
use Rattle.fractured_json_keys.specs.Chains.{buckets_in, bucket_of, seen_in, linked_in}
use Rattle.fractured_json_keys.proofs.Chained.{Linked, no_links, seen_met, linked_more}
use Rattle.fractured_json_check.specs.Table.{Table, table, fresh_key_in, new_key_in, old_key_in, key_in, out, walked_by, walked, told_walk}
use Rattle.json_model.specs.declared.Refusal.{Refusal}
use Rattle.std.specs.Prelude.{Result, Ok, Err}
use Rattle.fractured_json_values.proofs.Carried.{carry_byte, carry_key_number, carry_opened}
use Rattle.fractured_json_values.proofs.Walks.{on_opened, value_opened}

-- ---- the words that hold the pairs of some keys

key_shift : (a b : ℕ) (ws : List ℕ) (j : ℕ) → key_of (a ∷ b ∷ ws) (j + 1) ≡ key_of ws j
key_shift a b ws j =
    let e : 2 * (j + 1) ≡ suc (suc (2 * j)) = omega arith in
    let f : suc (suc (2 * j)) + 1 ≡ suc (suc (2 * j + 1)) = omega arith in
    rw (e, f)

keys_shift : (a b : ℕ) (ws : List ℕ) (j n : ℕ) → keys_from (a ∷ b ∷ ws) (j + 1) n ≡ keys_from ws j n
unfolding keys_from
keys_shift a b ws j zero = refl
keys_shift a b ws j (suc n) = let h = key_shift a b ws j in let t = keys_shift a b ws (j + 1) n in cc

keys_held : (ks : Keys) (rest : List ℕ) → keys_from (pairs ks ++ rest) 0 (length ks) ≡ ks
unfolding keys_from
keys_held [] rest = refl
keys_held (k ∷ ks) rest = ap (λ z. k ∷ z) (keys_shift k.start k.len (pairs ks ++ rest) 0 (length ks) ∙ keys_held ks rest)

stored_more : (k : Key) (ks : Keys) (a b : ℕ) (ws : List ℕ) → stored (k ∷ ks) (a ∷ b ∷ ws) ≡ k.start ∷ k.len ∷ stored ks ws
unfolding stored
stored_more k ks a b ws = let e : 2 * suc (length ks) ≡ suc (suc (2 * length ks)) = omega arith in rw e

pair_more : (a b : ℕ) (ws : List ℕ) (j p n : ℕ) → with_pair (a ∷ b ∷ ws) (suc j) p n ≡ a ∷ b ∷ with_pair ws j p n
unfolding with_pair
pair_more a b ws j p n =
    let e : 2 * suc j ≡ suc (suc (2 * j)) = omega arith in
    let f : suc (suc (2 * j)) + 1 ≡ suc (suc (2 * j + 1)) = omega arith in
    rw (e, f)

-- one pair more is one key more
pair_stored : (ks : Keys) (words : List ℕ) (p n : ℕ) → 2 * length ks + 1 < length words → with_pair (stored ks words) (length ks) p n ≡ stored (ks ++ (record { start = p; len = n } ∷ [])) words
unfolding with_pair stored
pair_stored [] [] p n h = absurd (omega arith)
pair_stored [] (a ∷ []) p n h = absurd (omega arith)
pair_stored [] (a ∷ b ∷ ws) p n h = refl
pair_stored (k ∷ ks) [] p n h = absurd (omega arith)
pair_stored (k ∷ ks) (a ∷ []) p n h = absurd (omega arith)
pair_stored (k ∷ ks) (a ∷ b ∷ ws) p n h =
    ap (λ w. with_pair w (suc (length ks)) p n) (stored_more k ks a b ws)
    ∙ (pair_more k.start k.len (stored ks ws) (length ks) p n
    ∙ (ap (λ w. k.start ∷ k.len ∷ w) (pair_stored ks ws p n (omega arith)) ∙ sym (stored_more k (ks ++ (record { start = p; len = n } ∷ [])) a b ws)))

-- ---- side by side

module _ (words doc : List ℕ) (names : ℕ) where
  -- the keys passed, the table that holds them, and the links that chain them
  record Tied (ks : Keys) (t : Table) : Type 0 where
    counts : t.count ≡ length ks
    holds : t.words ≡ stored ks words
    roomy : length ks ≤ room_of words
    linked : Linked doc t.words t.links t.count

  abbrev Alike : {A : Type 0} → Outcome Keys A → Outcome Table A → Type 0
  Alike r q = Sides.Alike Tied Tied r q

  abbrev Sim : {A : Type 0} → Reading Keys A → Reading Table A → Type 0
  Sim m n = Sides.Sim Tied Tied Tied m n

  alike_by : {A : Type 0} {r x : Outcome Keys A} {q y : Outcome Table A} → r ≡ x → q ≡ y → Alike x y → Alike r q
  alike_by e f h = rw (e, f) h

  sim_byte : (o p : ℕ) → Sim (byte_at doc o p) (byte_at doc o p)
  sim_byte o p ks t r = rw (carry_byte doc o p ks, carry_byte doc o p t) (sim_carry Tied Tied (ask (byte_at doc o p)) ks t r r)

  sim_key_number : (o : ℕ) (x : KeyNumber) → Sim (key_number_at doc o x) (key_number_at doc o x)
  sim_key_number o x ks t r = rw (carry_key_number doc o x ks, carry_key_number doc o x t) (sim_carry Tied Tied (ask (key_number_at doc o x)) ks t r r)

  sim_end : {B : Type 0} (b : Bool) (n p e : ℕ) (f : ℕ → Reading Keys B) (g : ℕ → Reading Table B) → Sim (f e) (g e) → Sim ((need b n p >>= λ _. answer e) >>= f) ((need b n p >>= λ _. answer e) >>= g)
  unfolding ◌>>=◌ follow need
  sim_end true n p e f g h = h
  sim_end false n p e f g h = λ ks t r. (refl, refl, r)

  sim_text : {B : Type 0} (o : ℕ) (n : Numeral) (f : ℕ → Reading Keys B) (g : ℕ → Reading Table B) → Sim (f (n.past + n.is)) (g (n.past + n.is)) → Sim (text_at doc o n >>= f) (text_at doc o n >>= g)
  unfolding text_at
  sim_text o n f g h = sim_end (leb (n.past + n.is) (length doc)) 35 o (n.past + n.is) f g h

  sim_opened : (o : ℕ) → Sim (opened_at doc o) (opened_at doc o)
  sim_opened o ks t r = rw (carry_opened doc o ks, carry_opened doc o t) (sim_carry Tied Tied (ask (opened_at doc o)) ks t r r)

  -- ---- keys

  as_long : (ks : Keys) (t : Table) → Tied ks t → length t.words ≡ length words
  as_long ks t r = ap length r.holds ∙ stored_length ks words (room_words words (length ks) r.roomy)

  same_room : (ks : Keys) (t : Table) → Tied ks t → room_of t.words ≡ room_of words
  unfolding room_of
  same_room ks t r = ap (λ n. min most_keys (n / 2)) (as_long ks t r)

  same_keys : (ks : Keys) (t : Table) → Tied ks t → keys_in t.words t.count ≡ ks
  unfolding stored room_of
  same_keys ks t r =
      let l = as_long ks t r in
      let c = r.counts in
      let y = r.roomy in
      let m : min t.count (length t.words / 2) ≡ length ks = omega arith in
      rw m (rw r.holds (keys_held ks (drop (2 * length ks) words)))

  half : (ks : Keys) (t : Table) → Tied ks t → t.count ≤ length t.words / 2
  unfolding room_of
  half ks t r =
      let l = as_long ks t r in
      let c = r.counts in
      let y = r.roomy in
      omega arith

  one_key_more : (ks : Keys) (t : Table) (n : Numeral) → Tied ks t → length ks < room_of words
      → Tied (ks ++ (record { start = n.past; len = n.is } ∷ []))
      (table (t.count + 1) (with_pair t.words t.count n.past n.is) (linked_in t.links t.count (bucket_of (part doc n.past n.is) (buckets_in t.links))))
  one_key_more ks t n r h =
      let w = room_words words (suc (length ks)) h in
      let c = r.counts in
      let l = as_long ks t r in
      record {
        counts = rw (r.counts, length-append);
        holds = rw (r.counts, r.holds) (pair_stored ks words n.past n.is (omega arith));
        roomy = rw length-append (omega arith);
        linked = linked_more doc t.words t.links t.count n.past n.is r.linked (omega arith);
      }

  sim_fresh : (o : ℕ) (n : Numeral) (ks : Keys) (t : Table) → Tied ks t
      → Alike ((need (ltb (length ks) (room_of words)) 40 o >>= λ _. keep (ks ++ (record { start = n.past; len = n.is } ∷ [])) >>= λ _. answer (n.past + n.is)) ks)
      (fresh_key_in (bucket_of (part doc n.past n.is) (buckets_in t.links)) o n t)
  unfolding fresh_key_in
  sim_fresh o n ks t r =
      let e : ltb (length ks) (room_of words) ≡ ltb t.count (room_of t.words) = rw (r.counts, same_room ks t r) in
      rw (kept_is _ t) (sim_test Tied Tied _ _ _ _ _ _ ks t e r (λ y. rw (keep_is _ _ ks, keep_is _ _ t) (refl, one_key_more ks t n r (ltb→lt _ _ y))))

  same_test : (x : List ℕ) (ks : Keys) (t : Table) → Tied ks t → met doc x ks ≡ seen_in doc x t.words t.links t.count
  same_test x ks t r = sym (seen_met doc x t.words t.links t.count r.linked (half ks t r) ∙ ap (met doc x) (same_keys ks t r))

  sim_new : (o : ℕ) (n : Numeral) → Sim (new_key (room_of words) doc o n) (new_key_in doc o n)
  unfolding new_key new_key_in
  sim_new o n =
      sim_text o n _ _ λ ks t r.
      let e : not (met doc (part doc n.past n.is) ks) ≡ not (seen_in doc (part doc n.past n.is) t.words t.links t.count) = ap not (same_test (part doc n.past n.is) ks t r) in
      rw (kept_is _ ks, kept_is _ t) (sim_test Tied Tied _ _ _ _ _ _ ks t e r (λ z. sim_fresh o n ks t r))

  sim_old : (o : ℕ) (n : Numeral) → Sim (old_key o n) (old_key_in o n)
  unfolding old_key old_key_in
  sim_old o n ks t r =
      let e : ltb n.is (length ks) ≡ ltb n.is t.count = rw r.counts in
      rw (kept_is _ ks, kept_is _ t) (sim_test Tied Tied _ _ _ _ _ _ ks t e r (λ y. (refl, r)))

  sim_listed : (o : ℕ) (n : Numeral) → Sim (listed_key names o n) (listed_key names o n)
  unfolding listed_key
  sim_listed o n ks t r = sim_test Tied Tied _ _ _ _ _ _ ks t refl r (λ y. (refl, r))

  sim_by : (o : ℕ) (f : KeyForm)
      → Sim (key_by doc o (new_key (room_of words) doc o) (old_key o) (listed_key names o) f) (key_by doc o (new_key_in doc o) (old_key_in o) (listed_key names o) f)
  unfolding key_by
  sim_by o (immediate x) = sim_then Tied Tied Tied Tied _ _ _ _ (sim_key_number o x) (λ n. sim_new o n)
  sim_by o (back_reference x) = sim_then Tied Tied Tied Tied _ _ _ _ (sim_key_number o x) (λ n. sim_old o n)
  sim_by o (global_index x) = sim_then Tied Tied Tied Tied _ _ _ _ (sim_key_number o x) (λ n. sim_listed o n)
  sim_by o k_reserved = λ ks t r. (refl, refl, r)

  sim_key : (o : ℕ) → Sim (check_key (room_of words) doc names o) (key_in doc names o)
  unfolding check_key key_in
  sim_key o = sim_then Tied Tied Tied Tied _ _ _ _ (sim_byte o o) (λ b. sim_by o (key_form_of b))

  -- ---- the walk

  sim_turns : (f : ℕ → Reading Keys ℕ) (g : ℕ → Reading Table ℕ) → ((o : ℕ) → Sim (f o) (g o)) → (n o : ℕ) → Sim (in_turn f n o) (in_turn g n o)
  unfolding in_turn
  sim_turns f g h zero o = λ ks t r. (refl, r)
  sim_turns f g h (suc n) o = sim_then Tied Tied Tied Tied _ _ _ _ (h o) (λ next. sim_turns f g h n next)

  sim_member : (f : ℕ → Reading Keys ℕ) (g : ℕ → Reading Table ℕ) → ((o : ℕ) → Sim (f o) (g o)) → (o : ℕ) → Sim (member (check_key (room_of words) doc names) f o) (member (key_in doc names) g o)
  unfolding member
  sim_member f g h o = sim_then Tied Tied Tied Tied _ _ _ _ (sim_key o) (λ v. h v)

  sim_on : (array object : Numeral → Reading Keys ℕ) (array' object' : Numeral → Reading Table ℕ) → ((n : Numeral) → Sim (array n) (array' n)) → ((n : Numeral) → Sim (object n) (object' n))
      → (x : Opened) → Sim (on_opened array object x) (on_opened array' object' x)
  sim_on array object array' object' h k (leaf e) = λ ks t r. (refl, r)
  sim_on array object array' object' h k (inside true n at) = k (numeral n at)
  sim_on array object array' object' h k (inside false n at) = h (numeral n at)

  sim_value : (l o : ℕ) → Sim (value (check_key (room_of words) doc names) l doc o) (value (key_in doc names) l doc o)
  unfolding value
  sim_value zero o ks t r =
      alike_by (value_opened doc o _ _ ks) (value_opened doc o _ _ t)
      (sim_then Tied Tied Tied Tied _ _ _ _ (sim_opened o) (sim_on (λ n. refuse 41 o) (λ n. refuse 41 o) (λ n. refuse 41 o) (λ n. refuse 41 o) (λ n ks t r. (refl, refl, r)) (λ n ks t r. (refl, refl, r))) ks t r)
  sim_value (suc l) o ks t r =
      alike_by (value_opened doc o _ _ ks) (value_opened doc o _ _ t)
      (sim_then Tied Tied Tied Tied _ _ _ _ (sim_opened o) (sim_on _ _ _ _ (λ n. sim_turns _ _ (sim_value l) n.is n.past) (λ n. sim_turns _ _ (sim_member _ _ (sim_value l)) n.is n.past)) ks t r)

  same_walk : (r : Outcome Keys ℕ) (w : Result ℕ Refusal) (count : ℕ) (after links : List ℕ) → Alike r (out w count after links) → told_walk w count after ≡ walked_by words r
  same_walk (halt n p ks) (Err q) c after links h = rw (h.0, h.1, h.2.counts, h.2.holds)
  same_walk (halt n p ks) (Ok a) c after links h = absurd h
  same_walk (done a ks) (Err q) c after links h = absurd h
  same_walk (done a ks) (Ok b) c after links h = rw (h.0, h.1.counts, h.1.holds)

-- the walk over the table from the root on gives the rules' end, number of pairs and words
pub walk_is : (doc : List ℕ) (names : ℕ) (words links : List ℕ) → ((i : ℕ) → get_or links i 0 ≡ 0) → (w : Result ℕ Refusal) (count : ℕ) (after linked : List ℕ)
    → out w count after linked ≡ value (key_in doc names) deepest doc 3 (table 0 words links) → told_walk w count after ≡ walked doc names words
unfolding stored
walk_is doc names words links z w count after linked e =
    same_walk words doc names (value (check_key (room_of words) doc names) deepest doc 3 []) w count after linked (rw e (sim_value words doc names deepest 3 [] (table 0 words links) start))
  where
    start : Tied words doc names [] (table 0 words links)
    start = record { counts = refl; holds = refl; roomy = omega arith; linked = no_links doc words links z }
