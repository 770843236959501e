-- Which Fractured JSON documents keep the rules of the format, with a key list beside them, and which tree each of them
-- means: docs/format/FRACTURED_JSON.md, sections 2.3, 3, 4, 5 and 8. This says what a good document and a good key list
-- are, by recursion over the tree and over the names; it says nothing of the order in which a check reads them, nor of
-- numbers of refusal. The immediate keys met so far are threaded through, since a back reference goes by their numbers.
-- How many there may be is the key table's matter, and stands beside the meaning.
use Rattle.std.specs.Prelude.{ℕ, ◌+◌, ◌-◌, ◌*◌, ◌≤◌, ◌<◌, Bool, true, false, List, [], ◌∷◌, ◌++◌, ◌≢◌, ◌≡◌, T, ltb, length, get_or}
use Rattle.json_model.specs.Bytes.{number, part}
use Rattle.json_model.specs.Choose.{choose}
use Rattle.json_model.specs.Limits.{least_fractured, longest, deepest}
use Rattle.json_model.specs.Number.{Float, finite, float_tree, whole_tree, signed_tree, scaled}
use Rattle.json_model.specs.Tree.{Tree, null, bool, num, str, arr, obj, Trees, none, more, Members, end, member, size, sizem, depth}
use Rattle.fractured_json_rules.specs.ByteTables.{Width, bytes, Len, tiny, after, Form, f_null, f_bool, f_int, f_float, f_tiny, f_string, f_object, f_array, form_of, KeyNumber, in_byte, spelled, KeyForm, immediate, back_reference, global_index, key_form_of}

-- ---- bytes and lengths

-- the byte at o is there, and is the type byte of a form, or the key byte of one
pub record Starts (doc : List ℕ) (o : ℕ) (form : Form) : Type 0 where
  pub inside : o < length doc
  pub form_is : form_of (get_or doc o 0) ≡ form

pub record KeyStarts (doc : List ℕ) (o : ℕ) (form : KeyForm) : Type 0 where
  pub inside : o < length doc
  pub form_is : key_form_of (get_or doc o 0) ≡ form

-- the length at the type byte at o is n; what it measures starts after it
abbrev pub LengthIs : List ℕ → ℕ → Len → ℕ → Type 0
LengthIs doc o (tiny k) n = n ≡ k
LengthIs doc o (after w) n = (o + 1 + bytes w ≤ length doc) × (n ≡ number doc (o + 1) (bytes w))

abbrev pub after_length : ℕ → Len → ℕ
after_length o (tiny k) = o + 1
after_length o (after w) = o + 1 + bytes w

-- the text t is the n bytes from o, which are there
pub record TextIs (doc : List ℕ) (o n : ℕ) (t : List ℕ) : Type 0 where
  pub inside : o + n ≤ length doc
  pub same : t ≡ part doc o n

-- ---- the key list: a config byte, a 16-bit count, then 16-bit lengths with texts

abbrev pub Names : Type 0
Names = List (List ℕ)

-- the names stand from o to the end of the list, each after its length
abbrev pub NamesFrom : List ℕ → ℕ → Names → Type 0
NamesFrom list o [] = o ≡ length list
NamesFrom list o (t ∷ ts) = (o + 2 ≤ length list) × TextIs list (o + 2) (number list o 2) t × NamesFrom list (o + 2 + number list o 2) ts

-- no two names are equal
unfoldable pub Distinct : Names → Type 0
Distinct names = (i j : ℕ) → i < j → j < length names → get_or names i [] ≢ get_or names j []

-- The key list keeps the rules and means these names.
pub record Lists (list : List ℕ) (names : Names) : Type 0 where
  pub counted : 3 ≤ length list
  pub config : get_or list 0 0 ≡ 0
  pub count : length names ≡ number list 1 2
  pub laid_out : NamesFrom list 3 names
  pub distinct : Distinct names

-- ---- numbers

-- negatives are two's complement; a tiny int is the byte less 222
abbrev pub int_tree : Bool → Width → ℕ → Tree
int_tree true w n = signed_tree (8 * bytes w) n
int_tree false w n = whole_tree n

unfoldable pub tiny_tree : ℕ → Tree
tiny_tree b = choose (ltb b 222) (num true (scaled (222 - b))) (whole_tree (b - 222))

-- the number t stands from o to e
pub data NumberIs (doc : List ℕ) (t : Tree) (o e : ℕ) : Type 0 where
  as_tiny : (b : ℕ) → Starts doc o (f_tiny b) → t ≡ tiny_tree b → e ≡ o + 1 → NumberIs doc t o e
  as_int : (s : Bool) (w : Width) → Starts doc o (f_int s w) → o + 1 + bytes w ≤ length doc
      → t ≡ int_tree s w (number doc (o + 1) (bytes w)) → e ≡ o + 1 + bytes w → NumberIs doc t o e
  as_float : (f : Float) (w : Width) → Starts doc o (f_float f w) → o + 1 + bytes w ≤ length doc → T (finite f (number doc (o + 1) (bytes w)))
      → t ≡ float_tree f (number doc (o + 1) (bytes w)) → e ≡ o + 1 + bytes w → NumberIs doc t o e

-- ---- keys

-- The v_uint16 after the byte at o is n and ends at e: one to three bytes, seven bits each, lowest first, the top bit
-- saying that another follows; a third byte is at most 3.
pub data Spelled (doc : List ℕ) (o n e : ℕ) : Type 0 where
  one_byte : o + 1 < length doc → get_or doc (o + 1) 0 < 128 → n ≡ get_or doc (o + 1) 0 → e ≡ o + 2 → Spelled doc o n e
  two_bytes : o + 2 < length doc → 128 ≤ get_or doc (o + 1) 0 → get_or doc (o + 2) 0 < 128
      → n ≡ get_or doc (o + 1) 0 - 128 + 128 * get_or doc (o + 2) 0 → e ≡ o + 3 → Spelled doc o n e
  three_bytes : o + 3 < length doc → 128 ≤ get_or doc (o + 1) 0 → 128 ≤ get_or doc (o + 2) 0 → get_or doc (o + 3) 0 ≤ 3
      → n ≡ get_or doc (o + 1) 0 - 128 + 128 * (get_or doc (o + 2) 0 - 128) + 16_384 * get_or doc (o + 3) 0 → e ≡ o + 4 → Spelled doc o n e

-- the number that the key byte at o carries is n, and ends at e
abbrev pub KeyNumberIs : List ℕ → ℕ → KeyNumber → ℕ → ℕ → Type 0
KeyNumberIs doc o (in_byte k) n e = (n ≡ k) × (e ≡ o + 1)
KeyNumberIs doc o spelled n e = Spelled doc o n e

-- a text by its start and its length: of an immediate key in the document, or of a name in the key list
pub record Key : Type 0 where
  pub start : ℕ
  pub len : ℕ

abbrev pub no_key : Key
no_key = record { start = 0; len = 0 }

abbrev pub Keys : Type 0
Keys = List Key

abbrev pub key_text : List ℕ → Key → List ℕ
key_text doc k = part doc k.start k.len

-- t is the text of none of the keys
unfoldable pub Fresh : List ℕ → List ℕ → Keys → Type 0
Fresh doc t ks = (j : ℕ) → j < length ks → key_text doc (get_or ks j no_key) ≢ t

-- A key with the text t stands from o to e. The immediate keys met before it are ks, those met up to e are kz: an
-- immediate key is one not met before, and takes the next number; a back reference gives the number of one met before; a
-- global index that of a name.
pub data KeyIs (doc : List ℕ) (names : Names) (t : List ℕ) (o : ℕ) (ks : Keys) (e : ℕ) (kz : Keys) : Type 0 where
  as_text : (x : KeyNumber) (n b : ℕ) → KeyStarts doc o (immediate x) → KeyNumberIs doc o x n b → TextIs doc b n t → Fresh doc t ks → e ≡ b + n
      → kz ≡ ks ++ (record { start = b; len = n } ∷ []) → KeyIs doc names t o ks e kz
  as_back : (x : KeyNumber) (j : ℕ) → KeyStarts doc o (back_reference x) → KeyNumberIs doc o x j e → j < length ks → t ≡ key_text doc (get_or ks j no_key)
      → kz ≡ ks → KeyIs doc names t o ks e kz
  as_global : (x : KeyNumber) (j : ℕ) → KeyStarts doc o (global_index x) → KeyNumberIs doc o x j e → j < length names → t ≡ get_or names j []
      → kz ≡ ks → KeyIs doc names t o ks e kz

-- ---- values

-- The bytes from o to e stand for a tree; ks are the immediate keys met before, kz those met up to e. A key is met before
-- its value is read. A key may occur twice in one object.
abbrev mutual
  pub ValueIs : List ℕ → Names → Tree → ℕ → Keys → ℕ → Keys → Type 0
  ValueIs doc names null o ks e kz = Starts doc o f_null × (e ≡ o + 1) × (kz ≡ ks)
  ValueIs doc names (bool b) o ks e kz = Starts doc o (f_bool b) × (e ≡ o + 1) × (kz ≡ ks)
  ValueIs doc names (num s m) o ks e kz = NumberIs doc (num s m) o e × (kz ≡ ks)
  ValueIs doc names (str t) o ks e kz =
      (x : Len) × (n : ℕ) × Starts doc o (f_string x) × LengthIs doc o x n × TextIs doc (after_length o x) n t × (e ≡ after_length o x + n) × (kz ≡ ks)
  ValueIs doc names (arr ts) o ks e kz = (x : Len) × Starts doc o (f_array x) × LengthIs doc o x (size ts) × ValuesAre doc names ts (after_length o x) ks e kz
  ValueIs doc names (obj ms) o ks e kz = (x : Len) × Starts doc o (f_object x) × LengthIs doc o x (sizem ms) × MembersAre doc names ms (after_length o x) ks e kz

  pub ValuesAre : List ℕ → Names → Trees → ℕ → Keys → ℕ → Keys → Type 0
  ValuesAre doc names none o ks e kz = (e ≡ o) × (kz ≡ ks)
  ValuesAre doc names (more t ts) o ks e kz = (m : ℕ) × (km : Keys) × ValueIs doc names t o ks m km × ValuesAre doc names ts m km e kz

  pub MembersAre : List ℕ → Names → Members → ℕ → Keys → ℕ → Keys → Type 0
  MembersAre doc names end o ks e kz = (e ≡ o) × (kz ≡ ks)
  MembersAre doc names (member k t ms) o ks e kz =
      (v : ℕ) × (kv : Keys) × (m : ℕ) × (km : Keys) × KeyIs doc names k o ks v kv × ValueIs doc names t v kv m km × MembersAre doc names ms m km e kz

-- ---- the whole document: bytes 46 4A, config 01, one value, end

-- a good length, and the three bytes before the value
pub record Headed (doc : List ℕ) : Type 0 where
  pub long : least_fractured ≤ length doc
  pub short : length doc ≤ longest
  pub magic0 : get_or doc 0 0 ≡ 0x46
  pub magic1 : get_or doc 1 0 ≡ 0x4A
  pub config : get_or doc 2 0 ≡ 0x01

-- The document and the key list keep the rules and mean the tree t; `keys` are the document's immediate keys.
pub record Means (doc list : List ℕ) (t : Tree) : Type 0 where
  pub names : Names
  pub listed : Lists list names
  pub headed : Headed doc
  pub keys : Keys
  pub root : ValueIs doc names t 3 [] (length doc) keys
  pub nested : depth t ≤ deepest
