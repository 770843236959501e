-- The chains find what a scan finds: a link leads to the last key of its bucket, and texts that are equal fall into one bucket.
use mathlib.Core.Path.{◌≡◌, refl, sym, ap, ◌∙◌}
use mathlib.Core.Bool.{Bool, true, false, not}
use mathlib.Core.List.{List, [], ◌∷◌, ◌++◌}
use Prim.Native.Nat.{ℕ, zero, suc, ◌+◌, ◌*◌, ◌/◌, ◌≤◌, ◌<◌, min}
use native.Mathlib.Nat.{div-lt_iff_lt-mul, mul-lt-mul_of_pos_right}
use native.Mathlib.Numerals.{add-one}
use native.Mathlib.Omega.{arith}
use borrow.Author.Tests.{lt-ltb}
use lib.Dec.{T, ltb, eqb, ltb→lt, nltb→le, eqb→eq, eqb_refl}
use lib.ListN.{length, get_or, set, replicate, length-set}
use lib.Seq.{get_or-set_same, get_or-set_other}
use Rattle.json_model.specs.Bytes.{part}
use Rattle.json_model.specs.Choose.{choose}
use Rattle.json_model.specs.Texts.{compare_texts, is_equal}
use Rattle.std.specs.declared.cmp.Ordering.{Ordering}
use Rattle.std.specs.declared.cmp.Ordering.TheVariants.{Less, Equal, Greater}
use Rattle.json_model.proofs.Texts.{texts_equal}
use Rattle.text.specs.Hash.{hash_of}
use Rattle.text.proofs.Hashing.{hash_small}
use Rattle.fractured_json_rules.specs.Meaning.{Key, Keys, key_text}
use Rattle.fractured_json_rules.specs.KeyList.{met}
use Rattle.fractured_json_rules.specs.KeyTable.{key_of}
use Rattle.fractured_json_keys.specs.Passed.{keys_from, keys_in, with_pair}
use Rattle.fractured_json_keys.specs.Chains.{most_links, buckets_in, bucket_of, followed, seen_in, linked_in}

-- ---- one key more, at the end

same : List ℕ → List ℕ → Key → Bool
same doc t k = is_equal (compare_texts (key_text doc k) t)

swap : (a b c : Bool) → choose a true (choose b true c) ≡ choose b true (choose a true c)
unfolding choose
swap true true c = refl
swap true false c = refl
swap false true c = refl
swap false false c = refl

met_last : (doc t : List ℕ) (ks : Keys) (k : Key) → met doc t (ks ++ (k ∷ [])) ≡ choose (same doc t k) true (met doc t ks)
unfolding met same
met_last doc t [] k = refl
met_last doc t (x ∷ ks) k = ap (λ m. choose (is_equal (compare_texts (key_text doc x) t)) true m) (met_last doc t ks k) ∙ swap _ _ _

keys_last : (words : List ℕ) (j n : ℕ) → keys_from words j (suc n) ≡ keys_from words j n ++ (key_of words (j + n) ∷ [])
unfolding keys_from
keys_last words j zero = let z : j + 0 ≡ j = omega arith in rw z
keys_last words j (suc n) =
    let z : j + suc n ≡ j + 1 + n = omega arith in
    rw z (ap (λ ks. key_of words j ∷ ks) (keys_last words (j + 1) n))

met_more : (doc t words : List ℕ) (n : ℕ) → met doc t (keys_from words 0 (suc n)) ≡ choose (same doc t (key_of words n)) true (met doc t (keys_from words 0 n))
met_more doc t words n =
    let z : 0 + n ≡ n = omega arith in
    ap (met doc t) (keys_last words 0 n) ∙ (met_last doc t (keys_from words 0 n) (key_of words (0 + n)) ∙ rw z)

-- ---- buckets

pub bucket_below : (t : List ℕ) (m : ℕ) → 0 < m → bucket_of t m < m
unfolding bucket_of
bucket_below t m h =
    let p : hash_of t * m < 4_294_967_296 * m = mul-lt-mul_of_pos_right (hash_small t) h in
    let q : hash_of t * m < m * 4_294_967_296 = omega arith in
    let z : 0 < 4_294_967_296 = omega arith in
    (div-lt_iff_lt-mul {k = 4_294_967_296} {x = hash_of t * m} {y = m} z).1 q

-- the bucket of key i
abbrev bucket_at : List ℕ → List ℕ → ℕ → ℕ → ℕ
bucket_at doc words m i = bucket_of (key_text doc (key_of words i)) m

-- one more than the last of n keys in the bucket b, or 0
last_of : (ℕ → ℕ) → ℕ → ℕ → ℕ
last_of f b zero = 0
last_of f b (suc n) = choose (eqb (f n) b) (suc n) (last_of f b n)

last_same : (f g : ℕ → ℕ) (b n : ℕ) → ((i : ℕ) → i < n → f i ≡ g i) → last_of f b n ≡ last_of g b n
unfolding last_of
last_same f g b zero h = refl
last_same f g b (suc n) h = rw (h n (omega arith), last_same f g b n (λ i l. h i (omega arith)))

is_equal_lem : (o : Ordering) → T (is_equal o) → o ≡ Equal
is_equal_lem Less t = absurd t
is_equal_lem Equal t = refl
is_equal_lem Greater t = absurd t

-- a text in another bucket is another text
unlike : (doc t : List ℕ) (k : Key) (m : ℕ) → (T (eqb (bucket_of (key_text doc k) m) (bucket_of t m)) → ⊥) → same doc t k ≡ false
unfolding same
unlike doc t k m h = go (is_equal (compare_texts (key_text doc k) t)) (λ s. h (rw ((texts_equal (key_text doc k) t).0 (is_equal_lem _ s)) (eqb_refl (bucket_of t m))))
  where
    go : (b : Bool) → (T b → ⊥) → b ≡ false
    go true n = absurd (n tt)
    go false n = refl

-- ---- a chain finds what a scan finds

module _ (doc t words links : List ℕ) where
  -- the links of n keys lead each to the key before it in its bucket
  abbrev Nexts : ℕ → Type 0
  Nexts n = (i : ℕ) → i < n → get_or links (buckets_in links + i) 0 ≡ last_of (bucket_at doc words (buckets_in links)) (bucket_at doc words (buckets_in links) i) i

  abbrev last_like : ℕ → ℕ
  last_like n = last_of (bucket_at doc words (buckets_in links)) (bucket_of t (buckets_in links)) n

  chain_step : (n left : ℕ) (e : Bool) → eqb (bucket_at doc words (buckets_in links) n) (bucket_of t (buckets_in links)) ≡ e
      → followed doc t words links left (last_like n) ≡ met doc t (keys_from words 0 n) → followed doc t words links (suc left) (last_like n) ≡ met doc t (keys_from words 0 n)
      → get_or links (buckets_in links + n) 0 ≡ last_of (bucket_at doc words (buckets_in links)) (bucket_at doc words (buckets_in links) n) n
      → followed doc t words links (suc left) (choose e (suc n) (last_like n)) ≡ met doc t (keys_from words 0 (suc n))
  unfolding followed same choose
  chain_step n left true q less more next =
      let one = eqb→eq (bucket_at doc words (buckets_in links) n) (bucket_of t (buckets_in links)) (rw q tt) in
      let to : get_or links (buckets_in links + n) 0 ≡ last_like n = next ∙ ap (λ b. last_of (bucket_at doc words (buckets_in links)) b n) one in
      ap (λ l. choose (is_equal (compare_texts (key_text doc (key_of words n)) t)) true (followed doc t words links left l)) to
      ∙ (ap (λ x. choose (is_equal (compare_texts (key_text doc (key_of words n)) t)) true x) less ∙ sym (met_more doc t words n))
  chain_step n left false q less more next =
      more ∙ sym (met_more doc t words n ∙ ap (λ b. choose b true (met doc t (keys_from words 0 n))) (unlike doc t (key_of words n) (buckets_in links) (λ y. rw q at y)))

  none : (left : ℕ) → followed doc t words links left 0 ≡ met doc t (keys_from words 0 0)
  unfolding followed met keys_from
  none zero = refl
  none (suc left) = refl

  chain_met : (n left : ℕ) → n ≤ left → Nexts n → followed doc t words links left (last_like n) ≡ met doc t (keys_from words 0 n)
  unfolding last_of
  chain_met zero left h nexts = none left
  chain_met (suc n) zero h nexts = absurd (omega arith)
  chain_met (suc n) (suc left) h nexts =
      chain_step n left (eqb (bucket_at doc words (buckets_in links) n) (bucket_of t (buckets_in links))) refl
      (chain_met n left (omega arith) (λ i l. nexts i (omega arith)))
      (chain_met n (suc left) (omega arith) (λ i l. nexts i (omega arith)))
      (nexts n (omega arith))

-- ---- what the links say of the keys passed

pub record Chains (doc words links : List ℕ) (m count : ℕ) : Type 0 where
  heads : (b : ℕ) → b < m → get_or links b 0 ≡ last_of (bucket_at doc words m) b count
  nexts : (i : ℕ) → i < count → get_or links (m + i) 0 ≡ last_of (bucket_at doc words m) (bucket_at doc words m i) i

-- as long as there are links for all keys
abbrev pub Linked : List ℕ → List ℕ → List ℕ → ℕ → Type 0
Linked doc words links count = count ≤ buckets_in links → Chains doc words links (buckets_in links) count

pub all_zero : (n i : ℕ) → ◌≡◌ {A = ℕ} (get_or (replicate n 0) i 0) 0
all_zero zero i = refl
all_zero (suc n) zero = refl
all_zero (suc n) (suc i) = all_zero n i

-- links that are all 0 say that there is no key
pub no_links : (doc words links : List ℕ) → ((i : ℕ) → get_or links i 0 ≡ 0) → Linked doc words links 0
unfolding last_of
no_links doc words links h = λ l. record { heads = λ b k. h b; nexts = λ i k. absurd (omega arith) }

pub seen_met : (doc t words links : List ℕ) (count : ℕ) → Linked doc words links count → count ≤ length words / 2 → seen_in doc t words links count ≡ met doc t (keys_in words count)
unfolding seen_in choose
seen_met doc t words links count linked h = go (ltb count (buckets_in links)) (ltb→lt count (buckets_in links))
  where
    go : (b : Bool) → (T b → count < buckets_in links)
        → choose b (followed doc t words links (buckets_in links) (get_or links (bucket_of t (buckets_in links)) 0)) (met doc t (keys_in words count)) ≡ met doc t (keys_in words count)
    go true l =
        let less = l tt in
        let c = linked (omega arith) in
        let whole : min count (length words / 2) ≡ count = omega arith in
        rw (whole, c.heads (bucket_of t (buckets_in links)) (bucket_below t (buckets_in links) (omega arith))) (chain_met doc t words links count (buckets_in links) (omega arith) c.nexts)
    go false l = refl

-- ---- a key more

module _ (words : List ℕ) (c p n : ℕ) where
  pub pair_length : length (with_pair words c p n) ≡ length words
  unfolding with_pair
  pair_length = simp length-set

  key_kept : (i : ℕ) → i < c → key_of (with_pair words c p n) i ≡ key_of words i
  unfolding with_pair
  key_kept i h =
      let a : 2 * i ≡ 2 * c + 1 → ⊥ = λ e. omega arith in
      let b : 2 * i ≡ 2 * c → ⊥ = λ e. omega arith in
      let d : 2 * i + 1 ≡ 2 * c + 1 → ⊥ = λ e. omega arith in
      let f : 2 * i + 1 ≡ 2 * c → ⊥ = λ e. omega arith in
      rw (get_or-set_other (set words (2 * c) p) (2 * c + 1) (2 * i) n 0 a, get_or-set_other words (2 * c) (2 * i) p 0 b, get_or-set_other (set words (2 * c) p) (2 * c + 1) (2 * i + 1) n 0 d, get_or-set_other words (2 * c) (2 * i + 1) p 0 f)

  key_new : 2 * c + 1 < length words → key_of (with_pair words c p n) c ≡ record { start = p; len = n }
  unfolding with_pair
  key_new h =
      let a : 2 * c ≡ 2 * c + 1 → ⊥ = λ e. omega arith in
      let l : 2 * c < length words = omega arith in
      let k : 2 * c + 1 < length (set words (2 * c) p) = rw length-set h in
      rw (get_or-set_other (set words (2 * c) p) (2 * c + 1) (2 * c) n 0 a, get_or-set_same words (2 * c) p 0 l, get_or-set_same (set words (2 * c) p) (2 * c + 1) n 0 k)

keys_same : (words others : List ℕ) (j n : ℕ) → ((i : ℕ) → i < j + n → key_of words i ≡ key_of others i) → keys_from words j n ≡ keys_from others j n
unfolding keys_from
keys_same words others j zero h = refl
keys_same words others j (suc n) h =
    let k = h j (omega arith) in
    let t = keys_same words others (j + 1) n (λ i l. h i (omega arith)) in
    cc

-- a key that has its pair is the last of those passed
pub keys_more : (words : List ℕ) (c p n : ℕ) → 2 * c + 1 < length words → keys_in (with_pair words c p n) (c + 1) ≡ keys_in words c ++ (record { start = p; len = n } ∷ [])
keys_more words c p n h =
    let e : min (c + 1) (length (with_pair words c p n) / 2) ≡ suc c = rw (pair_length words c p n) (omega arith) in
    let m : min c (length words / 2) ≡ c = omega arith in
    let z : 0 + c ≡ c = omega arith in
    rw (e, m) (keys_last (with_pair words c p n) 0 c ∙ rw (z, key_new words c p n h, keys_same (with_pair words c p n) words 0 c (λ i l. key_kept words c p n i (omega arith))))

module _ (doc words links : List ℕ) (m count p n : ℕ) (chains : Chains doc words links m count) (l : count < m) (w : 2 * m ≤ length links) (h : 2 * count + 1 < length words) where
  abbrev bucket : ℕ
  bucket = bucket_of (part doc p n) m

  abbrev more_words : List ℕ
  more_words = with_pair words count p n

  abbrev more_links : List ℕ
  more_links = set (set links (m + count) (get_or links bucket 0)) bucket (count + 1)

  in_range : bucket < m
  in_range = bucket_below (part doc p n) m (omega arith)

  before : (i : ℕ) → i < count → bucket_at doc more_words m i ≡ bucket_at doc words m i
  before i k = ap (λ key. bucket_of (key_text doc key) m) (key_kept words count p n i k)

  last_before : (b k : ℕ) → k ≤ count → last_of (bucket_at doc words m) b k ≡ last_of (bucket_at doc more_words m) b k
  last_before b k j = last_same _ _ b k (λ i o. sym (before i (omega arith)))

  its_own : bucket_at doc more_words m count ≡ bucket
  its_own = ap (λ key. bucket_of (key_text doc key) m) (key_new words count p n h)

  last_now : (b : ℕ) → last_of (bucket_at doc more_words m) b (suc count) ≡ choose (eqb bucket b) (suc count) (last_of (bucket_at doc more_words m) b count)
  unfolding last_of
  last_now b = ap (λ x. choose (eqb x b) (suc count) (last_of (bucket_at doc more_words m) b count)) its_own

  more_heads : (b : ℕ) → b < m → get_or more_links b 0 ≡ last_of (bucket_at doc more_words m) b (count + 1)
  unfolding choose
  more_heads b k = go (eqb bucket b) refl ∙ (sym (last_now b) ∙ ap (λ i. last_of (bucket_at doc more_words m) b i) (sym (add-one count)))
    where
      go : (e : Bool) → eqb bucket b ≡ e → get_or more_links b 0 ≡ choose e (suc count) (last_of (bucket_at doc more_words m) b count)
      go true q =
          let r = in_range in
          let one = eqb→eq bucket b (rw q tt) in
          let inside : bucket < length (set links (m + count) (get_or links bucket 0)) = rw length-set (omega arith) in
          rw (← one) (get_or-set_same (set links (m + count) (get_or links bucket 0)) bucket (count + 1) 0 inside ∙ add-one count)
      go false q =
          let other : b ≡ bucket → ⊥ = λ o. let w : T (eqb bucket b) = rw o (eqb_refl bucket) in rw q at w in
          let below : b ≡ m + count → ⊥ = λ o. omega arith in
          get_or-set_other (set links (m + count) (get_or links bucket 0)) bucket b (count + 1) 0 other
          ∙ (get_or-set_other links (m + count) b (get_or links bucket 0) 0 below ∙ (chains.heads b k ∙ last_before b count (omega arith)))

  more_nexts : (i : ℕ) → i < count + 1 → get_or more_links (m + i) 0 ≡ last_of (bucket_at doc more_words m) (bucket_at doc more_words m i) i
  more_nexts i k = go (ltb i count) (ltb→lt i count) (nltb→le i count)
    where
      go : (b : Bool) → (T b → i < count) → (T (not b) → count ≤ i) → get_or more_links (m + i) 0 ≡ last_of (bucket_at doc more_words m) (bucket_at doc more_words m i) i
      go true y z =
          let less = y tt in
          let r = in_range in
          let other : m + i ≡ bucket → ⊥ = λ o. omega arith in
          let below : m + i ≡ m + count → ⊥ = λ o. omega arith in
          get_or-set_other (set links (m + count) (get_or links bucket 0)) bucket (m + i) (count + 1) 0 other
          ∙ (get_or-set_other links (m + count) (m + i) (get_or links bucket 0) 0 below
          ∙ (chains.nexts i less ∙ (last_before (bucket_at doc words m i) i (omega arith) ∙ ap (λ x. last_of (bucket_at doc more_words m) x i) (sym (before i less)))))
      go false y z =
          let much = z tt in
          let at : i ≡ count = omega arith in
          let r = in_range in
          let other : m + count ≡ bucket → ⊥ = λ o. omega arith in
          let inside : m + count < length links = omega arith in
          rw at (get_or-set_other (set links (m + count) (get_or links bucket 0)) bucket (m + count) (count + 1) 0 other
          ∙ (get_or-set_same links (m + count) (get_or links bucket 0) 0 inside
          ∙ (chains.heads bucket in_range ∙ (last_before bucket count (omega arith) ∙ ap (λ x. last_of (bucket_at doc more_words m) x count) (sym its_own)))))

  chains_more : Chains doc more_words more_links m (count + 1)
  chains_more = record { heads = more_heads; nexts = more_nexts }

buckets_same : (links : List ℕ) (count b : ℕ) → buckets_in (linked_in links count b) ≡ buckets_in links
unfolding buckets_in linked_in choose
buckets_same links count b = ap (λ n. min most_links (n / 2)) (go (ltb count (min most_links (length links / 2))) (ltb b (min most_links (length links / 2))))
  where
    go : (e d : Bool) → length (choose e (choose d (set (set links (min most_links (length links / 2) + count) (get_or links b 0)) b (count + 1)) links) links) ≡ length links
    go true true = simp length-set
    go true false = refl
    go false d = refl

half_links : (links : List ℕ) → 2 * buckets_in links ≤ length links
unfolding buckets_in
half_links links = omega arith

-- a key passed, with its pair and its link
pub linked_more : (doc words links : List ℕ) (count p n : ℕ) → Linked doc words links count → 2 * count + 1 < length words
    → Linked doc (with_pair words count p n) (linked_in links count (bucket_of (part doc p n) (buckets_in links))) (count + 1)
unfolding linked_in choose
linked_more doc words links count p n linked h =
    rw (buckets_same links count (bucket_of (part doc p n) (buckets_in links))) (λ l. go (omega arith))
  where
    go : count < buckets_in links → Chains doc (with_pair words count p n) (linked_in links count (bucket_of (part doc p n) (buckets_in links))) (buckets_in links) (count + 1)
    go l =
        let k = bucket_below (part doc p n) (buckets_in links) (omega arith) in
        rw (lt-ltb count (buckets_in links) l, lt-ltb (bucket_of (part doc p n) (buckets_in links)) (buckets_in links) k) (chains_more doc words links (buckets_in links) count p n (linked (omega arith)) l (half_links links) h)
