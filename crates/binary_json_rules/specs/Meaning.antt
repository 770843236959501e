-- Which BinaryJson documents keep the rules of the format, and which tree each of them means:
-- docs/format/BINARY_JSON.md, sections 3 and 6.3. This says what a good document is. It says nothing of the order in
-- which a check looks at it, nor of numbers of refusal. What Entries stand for, and where containers stand, are
-- separate definitions.
use Rattle.std.specs.Prelude.{ℕ, suc, ◌+◌, ◌-◌, ◌*◌, ◌%◌, ◌≤◌, ◌<◌, true, false, List, ◌≡◌, T, ltb, leb, length, get_or}
use Rattle.json_model.specs.Bytes.{number}
use Rattle.json_model.specs.Choose.{choose}
use Rattle.json_model.specs.Limits.{least_binary, longest, deepest}
use Rattle.json_model.specs.Number.{binary64, finite, float_tree}
use Rattle.json_model.specs.Texts.{compare_texts}
use Rattle.std.specs.declared.cmp.Ordering.TheVariants.{Less}
use Rattle.json_model.specs.Tree.{Tree, null, bool, num, str, arr, obj, Trees, none, more, Members, end, member, size, sizem, depth}
use Rattle.binary_json_rules.specs.Areas.{word, low, high, index, count, slot, text, content, numbers, Kind, k_array, k_object, k_scalar, kind_of, t_false, t_true, t_null, t_string, t_number, t_container, type_of}
use Rattle.binary_json_rules.specs.Marks.{words, word_place}

-- ---- what an offset may name

-- v is the offset of slot k
pub record SlotIs (doc : List ℕ) (v k : ℕ) : Type 0 where
  pub counted : k < count doc
  pub place : v ≡ slot doc k

-- v is the offset of number k: eight bytes each from N on, inside the document
pub record NumberIs (doc : List ℕ) (v k : ℕ) : Type 0 where
  pub place : v ≡ numbers doc + 8 * k
  pub inside : v + 8 ≤ length doc

-- a Meta word at o, of a kind and a size n, with w words after it that lie in the tree
pub record Meta (doc : List ℕ) (o : ℕ) (kind : Kind) (n w : ℕ) : Type 0 where
  pub kind_is : kind_of (low doc o) ≡ kind
  pub size_is : high doc o ≡ n
  pub inside : o + 4 + 4 * w ≤ index doc

-- ---- what an Entry stands for

-- The Entry at a stands for a tree. Types 0 to 2 ignore the value field; the others name a slot, a number or a container.
abbrev mutual
  pub EntryIs : List ℕ → Tree → ℕ → Type 0
  EntryIs doc null a = type_of (low doc a) ≡ t_null
  EntryIs doc (bool false) a = type_of (low doc a) ≡ t_false
  EntryIs doc (bool true) a = type_of (low doc a) ≡ t_true
  EntryIs doc (num s m) a =
      (k : ℕ) × (type_of (low doc a) ≡ t_number) × NumberIs doc (high doc a) k × T (finite binary64 (number doc (high doc a) 8))
      × (num s m ≡ float_tree binary64 (number doc (high doc a) 8))
  EntryIs doc (str s) a = (k : ℕ) × (type_of (low doc a) ≡ t_string) × SlotIs doc (high doc a) k × (s ≡ content doc k)
  EntryIs doc (arr ts) a =
      (type_of (low doc a) ≡ t_container) × (Meta doc (high doc a) k_array (size ts) (size ts) × EntriesAre doc ts (high doc a + 4))
  EntryIs doc (obj ms) a =
      (type_of (low doc a) ≡ t_container)
      × (Meta doc (high doc a) k_object (sizem ms) (2 * sizem ms) × MembersAre doc ms 0 (high doc a + 4) (high doc a + 4 + 4 * sizem ms))

  -- the Entries from a on stand for the values of an array
  pub EntriesAre : List ℕ → Trees → ℕ → Type 0
  EntriesAre doc none a = Unit {0}
  EntriesAre doc (more t ts) a = EntryIs doc t a × EntriesAre doc ts (a + 4)

  -- The KeyEntries from q on, each above the one before (the first above p), and the Entries from a on stand for the
  -- members of an object: the key is the content of the KeyEntry's text, the value what the Entry stands for.
  pub MembersAre : List ℕ → Members → ℕ → ℕ → ℕ → Type 0
  MembersAre doc end p q a = Unit {0}
  MembersAre doc (member x t ms) p q a =
      (k : ℕ) × SlotIs doc (word doc q) k × (x ≡ content doc k) × (p < word doc q) × EntryIs doc t a × MembersAre doc ms (word doc q) (q + 4) (a + 4)

-- ---- what a container stands for

-- The container at c stands for a tree: an array, an object, or a scalar in a container of kind 2 with one Entry. An object's
-- first KeyEntry has to be above 0, which is below every slot's offset.
abbrev pub ScalarIs : List ℕ → Tree → ℕ → Type 0
ScalarIs doc t c = Meta doc c k_scalar 1 1 × EntryIs doc t (c + 4)

abbrev pub ContainerIs : List ℕ → Tree → ℕ → Type 0
ContainerIs doc null c = ScalarIs doc null c
ContainerIs doc (bool b) c = ScalarIs doc (bool b) c
ContainerIs doc (num s m) c = ScalarIs doc (num s m) c
ContainerIs doc (str s) c = ScalarIs doc (str s) c
ContainerIs doc (arr ts) c = Meta doc c k_array (size ts) (size ts) × EntriesAre doc ts (c + 4)
ContainerIs doc (obj ms) c = Meta doc c k_object (sizem ms) (2 * sizem ms) × MembersAre doc ms 0 (c + 4) (c + 4 + 4 * sizem ms)

-- ---- where containers stand: in any order, each after its parent's Meta, and together they tile the tree

-- The containers at and below the Entry at a, which is one of the container at c: each stands at a multiple of 4, past the
-- Meta of the container whose Entry names it.
abbrev mutual
  pub Placed : List ℕ → Tree → ℕ → ℕ → Type 0
  Placed doc null c a = Unit {0}
  Placed doc (bool b) c a = Unit {0}
  Placed doc (num s m) c a = Unit {0}
  Placed doc (str s) c a = Unit {0}
  Placed doc (arr ts) c a = (high doc a % 4 ≡ 0) × (c < high doc a) × PlacedAll doc ts (high doc a) (high doc a + 4)
  Placed doc (obj ms) c a = (high doc a % 4 ≡ 0) × (c < high doc a) × PlacedMembers doc ms (high doc a) (high doc a + 4 + 4 * sizem ms)

  pub PlacedAll : List ℕ → Trees → ℕ → ℕ → Type 0
  PlacedAll doc none c a = Unit {0}
  PlacedAll doc (more t ts) c a = Placed doc t c a × PlacedAll doc ts c (a + 4)

  pub PlacedMembers : List ℕ → Members → ℕ → ℕ → Type 0
  PlacedMembers doc end c a = Unit {0}
  PlacedMembers doc (member x t ms) c a = Placed doc t c a × PlacedMembers doc ms c (a + 4)

-- the containers below the container at c
abbrev pub PlacedUnder : List ℕ → Tree → ℕ → Type 0
PlacedUnder doc null c = Unit {0}
PlacedUnder doc (bool b) c = Unit {0}
PlacedUnder doc (num s m) c = Unit {0}
PlacedUnder doc (str s) c = Unit {0}
PlacedUnder doc (arr ts) c = PlacedAll doc ts c (c + 4)
PlacedUnder doc (obj ms) c = PlacedMembers doc ms c (c + 4 + 4 * sizem ms)

-- 1 if the word k of the tree, which stands at 4 + 4k, is one of the w words from o on, else 0
unfoldable pub within : ℕ → ℕ → ℕ → ℕ
within o w k = choose (leb o (word_place k)) (choose (ltb (word_place k) (o + 4 * w)) 1 0) 0

-- In how many bodies, Meta included, the word k stands: those of the containers at and below the Entry at a, counted
-- once for every Entry that names a container. So a container that two Entries name counts twice.
abbrev mutual
  pub bodies : List ℕ → Tree → ℕ → ℕ → ℕ
  bodies doc null a k = 0
  bodies doc (bool b) a k = 0
  bodies doc (num s m) a k = 0
  bodies doc (str s) a k = 0
  bodies doc (arr ts) a k = within (high doc a) (1 + size ts) k + bodies_all doc ts (high doc a + 4) k
  bodies doc (obj ms) a k = within (high doc a) (1 + 2 * sizem ms) k + bodies_members doc ms (high doc a + 4 + 4 * sizem ms) k

  pub bodies_all : List ℕ → Trees → ℕ → ℕ → ℕ
  bodies_all doc none a k = 0
  bodies_all doc (more t ts) a k = bodies doc t a k + bodies_all doc ts (a + 4) k

  pub bodies_members : List ℕ → Members → ℕ → ℕ → ℕ
  bodies_members doc end a k = 0
  bodies_members doc (member x t ms) a k = bodies doc t a k + bodies_members doc ms (a + 4) k

-- those of the container at c and of the containers below it
abbrev pub bodies_from : List ℕ → Tree → ℕ → ℕ → ℕ
bodies_from doc null c k = within c 2 k
bodies_from doc (bool b) c k = within c 2 k
bodies_from doc (num s m) c k = within c 2 k
bodies_from doc (str s) c k = within c 2 k
bodies_from doc (arr ts) c k = within c (1 + size ts) k + bodies_all doc ts (c + 4) k
bodies_from doc (obj ms) c k = within c (1 + 2 * sizem ms) k + bodies_members doc ms (c + 4 + 4 * sizem ms) k

-- every word of the tree, from 4 to S, stands in one body, and in one only
abbrev pub Tiles : List ℕ → Tree → Type 0
Tiles doc t = (k : ℕ) → k < words doc → bodies_from doc t 4 k ≡ 1

-- ---- the string index

-- slot k: its low five bits are 0, its text has at least one byte, the closing zero, lies in the document and ends in a closing zero
pub record SlotGood (doc : List ℕ) (k : ℕ) : Type 0 where
  pub clear : low doc (slot doc k) ≡ 0
  pub forward : text doc k < text doc (suc k)
  pub inside : text doc (suc k) ≤ length doc
  pub closed : get_or doc (text doc (suc k) - 1) 0 ≡ 0

-- ---- the whole document

-- The document keeps the rules of the format and means the tree t.
pub record Means (doc : List ℕ) (t : Tree) : Type 0 where
  pub long : least_binary ≤ length doc
  pub short : length doc ≤ longest
  pub version : low doc 0 ≡ 1
  pub index_least : 8 ≤ index doc
  pub index_step : index doc % 4 ≡ 0
  pub index_inside : index doc + 4 ≤ length doc
  pub slots_inside : slot doc (count doc) ≤ length doc
  pub slots_good : (k : ℕ) → k < count doc → SlotGood doc k
  pub ascending : (k : ℕ) → suc k < count doc → compare_texts (content doc k) (content doc (suc k)) ≡ Less
  pub numbers_step : (length doc - numbers doc) % 8 ≡ 0
  pub root : ContainerIs doc t 4
  pub placed : PlacedUnder doc t 4
  pub tiled : Tiles doc t
  pub nested : depth t ≤ deepest
