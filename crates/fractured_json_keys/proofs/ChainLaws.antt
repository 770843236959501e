-- One law for each way through the functions of chains.rt.
use mathlib.Core.Path.{◌≡◌, refl, sym}
use mathlib.Core.Bool.{Bool, true, false}
use mathlib.Core.List.{List}
use Prim.Native.Nat.{ℕ, suc, ◌+◌, ◌-◌, ◌*◌, ◌/◌, ◌≤◌, ◌<◌}
use native.Mathlib.Nat.{mul-le-mul}
use native.Mathlib.Omega.{arith}
use Rattle.std.specs.Prelude.{Option, Some, None}
use borrow.Author.Rules.{rules}
use borrow.Author.Tests.{lt-ltb, le-ltb}
use mir.Syntax.{w64}
use mir.Val.{Fits}
use lib.ListN.{length, get_or, set}
use Rattle.json_model.specs.Bytes.{part}
use Rattle.json_model.specs.Choose.{choose}
use Rattle.json_model.specs.Texts.{compare_texts, is_equal}
use Rattle.text.specs.Hash.{hash_of}
use Rattle.text.proofs.Hashing.{hash_small}
use Rattle.fractured_json_rules.specs.KeyList.{met}
use Rattle.fractured_json_keys.specs.Passed.{keys_in}
use Rattle.fractured_json_keys.specs.Chains.{most_links, buckets_in, bucket_of, followed, seen_in, sought_in, linked_in}
use Rattle.fractured_json_keys.proofs.Chained.{bucket_below}

-- ---- a chain: what is found after i of its keys decides

module _ (doc t words links : List ℕ) (n i next : ℕ) (x : Bool) (here : followed doc t words links (n - i) next ≡ x) where
  pub no_more : n ≤ i → false ≡ x
  unfolding followed
  no_more h = let z : n - i ≡ 0 = omega arith in rw z at here

  module _ (l : i < n) where
    pub chain_ends : next ≡ 0 → false ≡ x
    unfolding followed
    chain_ends e = let z : n - i ≡ suc (n - (i + 1)) = omega arith in rw (z, e) at here

    module _ (f : next ≡ 0 → ⊥) (start len : ℕ) (s : start ≡ get_or words (2 * (next - 1)) 0) (k : len ≡ get_or words (2 * (next - 1) + 1) 0)
        (y : List ℕ) (ys : y ≡ part doc start len) (b : Bool) (bs : b ≡ is_equal (compare_texts y t)) where
      one_more : choose b true (followed doc t words links (n - (i + 1)) (get_or links (buckets_in links + (next - 1)) 0)) ≡ x
      unfolding followed
      one_more =
          let z : n - i ≡ suc (n - (i + 1)) = omega arith in
          let w : next ≡ suc (next - 1) = omega arith in
          rw (bs, ys, s, k) (go (n - (i + 1)) (next - 1) z w)
        where
          go : (m j : ℕ) → n - i ≡ suc m → next ≡ suc j → choose (is_equal (compare_texts (part doc (get_or words (2 * j) 0) (get_or words (2 * j + 1) 0)) t)) true (followed doc t words links m (get_or links (buckets_in links + j) 0)) ≡ x
          go m j z w = rw (z, w) at here

      pub key_found : b ≡ true → true ≡ x
      unfolding choose
      key_found e = rw e at one_more

      pub key_passed : b ≡ false → (link : ℕ) → n ≡ buckets_in links → link ≡ get_or links (n + (next - 1)) 0 → followed doc t words links (n - (i + 1)) link ≡ x
      unfolding choose
      key_passed e link p q = rw (q, p) (rw (e, p) at one_more)

pub chain_begins : (doc t words links : List ℕ) (first n : ℕ) → n ≡ buckets_in links → followed doc t words links (n - 0) first ≡ followed doc t words links (buckets_in links) first
chain_begins doc t words links first n e = let z : n - 0 ≡ buckets_in links = omega arith in rw z

pub ruleset follow_laws = (chain_begins, no_more, chain_ends, key_found, key_passed, rules)

-- ---- a text sought

module _ (t links : List ℕ) (n : ℕ) (e : n ≡ buckets_in links) (h : ℕ) (hs : h ≡ hash_of t) where
  pub product_fits : n ≤ most_links → Fits w64 (h * n)
  product_fits l =
      let s = hash_small t in
      let b : h ≤ 4_294_967_296 = omega arith in
      let p : h * n ≤ 4_294_967_296 * most_links = mul-le-mul b l in
      record { fits = omega arith }

  bucket_is : h * n / 4_294_967_296 ≡ bucket_of t (buckets_in links)
  unfolding bucket_of
  bucket_is = rw (hs, e)

  pub bucket_inside : (count : ℕ) → count < n → 2 * n ≤ length links → h * n / 4_294_967_296 < length links
  bucket_inside count l k = let b = bucket_below t (buckets_in links) (omega arith) in rw bucket_is (omega arith)

  module _ (doc words : List ℕ) (count : ℕ) where
    module _ (l : count < n) (r : Bool) (rs : r ≡ followed doc t words links (buckets_in links) (get_or links (h * n / 4_294_967_296) 0)) where
      by_chain : seen_in doc t words links count ≡ r
      unfolding seen_in choose
      by_chain = let m : count < buckets_in links = omega arith in rw (lt-ltb count (buckets_in links) m) (sym (rw bucket_is at rs))

      pub chain_met : r ≡ true → None ≡ sought_in doc t words links count
      unfolding sought_in choose
      chain_met q = rw (by_chain, q)

      pub chain_fresh : r ≡ false → Some (h * n / 4_294_967_296) ≡ sought_in doc t words links count
      unfolding sought_in choose
      chain_fresh q = rw (by_chain, q, bucket_is)

    module _ (l : n ≤ count) (r : Bool) (rs : r ≡ met doc t (keys_in words count)) where
      by_scan : seen_in doc t words links count ≡ r
      unfolding seen_in choose
      by_scan = let m : buckets_in links ≤ count = omega arith in rw (le-ltb count (buckets_in links) m) (sym rs)

      pub scan_met : r ≡ true → None ≡ sought_in doc t words links count
      unfolding sought_in choose
      scan_met q = rw (by_scan, q)

      pub scan_fresh : r ≡ false → Some (h * n / 4_294_967_296) ≡ sought_in doc t words links count
      unfolding sought_in choose
      scan_fresh q = rw (by_scan, q, bucket_is)

pub ruleset seek_laws = (product_fits, bucket_inside, chain_met, chain_fresh, scan_met, scan_fresh, rules)

-- what an answer says
module _ (doc t words links : List ℕ) (count : ℕ) where
  by_test : (P : Option ℕ → Bool → Type 0) → P None true → P (Some (bucket_of t (buckets_in links))) false → P (sought_in doc t words links count) (seen_in doc t words links count)
  unfolding sought_in choose
  by_test P y n = go (seen_in doc t words links count)
    where
      go : (b : Bool) → P (choose b None (Some (bucket_of t (buckets_in links)))) b
      go true = y
      go false = n

  pub sought_met : None ≡ sought_in doc t words links count → seen_in doc t words links count ≡ true
  sought_met = by_test (λ o b. None ≡ o → b ≡ true) (λ e. refl) (λ e. cc)

  pub sought_fresh : (b : ℕ) → Some b ≡ sought_in doc t words links count → (seen_in doc t words links count ≡ false) × (b ≡ bucket_of t (buckets_in links))
  sought_fresh b = by_test (λ o s. Some b ≡ o → (s ≡ false) × (b ≡ bucket_of t (buckets_in links))) (λ e. cc) (λ e. (refl, cc))

-- ---- a link more

module _ (links : List ℕ) (count b n : ℕ) (e : n ≡ buckets_in links) where
  pub link_stored : count < n → b < n → set (set links (n + count) (get_or links b 0)) b (count + 1) ≡ linked_in links count b
  unfolding linked_in choose
  link_stored h k =
      let l : count < buckets_in links = omega arith in
      let m : b < buckets_in links = omega arith in
      rw (lt-ltb count (buckets_in links) l, lt-ltb b (buckets_in links) m, e)

  pub no_bucket : count < n → n ≤ b → links ≡ linked_in links count b
  unfolding linked_in choose
  no_bucket h k =
      let l : count < buckets_in links = omega arith in
      let m : buckets_in links ≤ b = omega arith in
      rw (lt-ltb count (buckets_in links) l, le-ltb b (buckets_in links) m)

  pub links_full : n ≤ count → links ≡ linked_in links count b
  unfolding linked_in choose
  links_full h = let l : buckets_in links ≤ count = omega arith in rw (le-ltb count (buckets_in links) l)

pub ruleset link_laws = (link_stored, no_bucket, links_full, rules)
