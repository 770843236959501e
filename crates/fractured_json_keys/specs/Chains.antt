-- The test of rules 39 and 54 by chains: for each bucket of hashes the last key passed whose text falls into it, and for each key
-- the one before it in its bucket; a name of the key list counts as a key. A link is one more than the number of its key, and 0
-- where the chain ends. The links are the code's own; proofs/Chained.antt shows that the chains find what the rules' test finds.
use Rattle.std.specs.Prelude.{ℕ, zero, suc, ◌+◌, ◌*◌, ◌/◌, ◌^◌, min, Bool, true, false, List, Option, Some, None, ltb, length, get_or, set}
use Rattle.json_model.specs.Choose.{choose}
use Rattle.json_model.specs.Texts.{compare_texts, is_equal}
use Rattle.text.specs.Hash.{hash_of}
use Rattle.fractured_json_rules.specs.Meaning.{key_text}
use Rattle.fractured_json_rules.specs.KeyList.{met}
use Rattle.fractured_json_rules.specs.KeyTable.{key_of}
use Rattle.fractured_json_keys.specs.Passed.{keys_in}

-- the most keys that are chained: a link has 16 bits, and is one more than the number of its key
abbrev pub most_links : ℕ
most_links = 65_535

-- the links: half of them for buckets, the other half for keys
unfoldable pub buckets_in : List ℕ → ℕ
buckets_in links = min most_links (length links / 2)

-- the bucket of a text among so many
unfoldable pub bucket_of : List ℕ → ℕ → ℕ
bucket_of t buckets = hash_of t * buckets / 2 ^ 32

-- t is the text of one of at most n keys on the chain that goes on with a link
unfoldable pub followed : List ℕ → List ℕ → List ℕ → List ℕ → ℕ → ℕ → Bool
followed doc t words links zero next = false
followed doc t words links (suc n) zero = false
followed doc t words links (suc n) (suc j) =
    choose (is_equal (compare_texts (key_text doc (key_of words j)) t)) true (followed doc t words links n (get_or links (buckets_in links + j) 0))

-- t is the text of a key passed: by its chain while there are links for all keys, else by a scan
unfoldable pub seen_in : List ℕ → List ℕ → List ℕ → List ℕ → ℕ → Bool
seen_in doc t words links count =
    choose (ltb count (buckets_in links)) (followed doc t words links (buckets_in links) (get_or links (bucket_of t (buckets_in links)) 0)) (met doc t (keys_in words count))

-- none for the text of a key passed, and else the bucket of t
unfoldable pub sought_in : List ℕ → List ℕ → List ℕ → List ℕ → ℕ → Option ℕ
sought_in doc t words links count = choose (seen_in doc t words links count) None (Some (bucket_of t (buckets_in links)))

-- the links once key `count` has been passed, whose text falls into the bucket b; a key for which there is no link has none
unfoldable pub linked_in : List ℕ → ℕ → ℕ → List ℕ
linked_in links count b =
    choose (ltb count (buckets_in links)) (choose (ltb b (buckets_in links)) (set (set links (buckets_in links + count) (get_or links b 0)) b (count + 1)) links) links
