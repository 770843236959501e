-- The lent key table: the check never passes more keys than there is room for, refused or not; so each key passed has its
-- pair, and all other words keep what they held.
use Prim.Native.Nat.{ℕ, zero, suc, ◌+◌, ◌-◌, ◌*◌, ◌≤◌, ◌<◌}
use mathlib.Core.Bool.{Bool, true, false}
use mathlib.Core.List.{List, [], ◌∷◌, ◌++◌}
use mathlib.Core.Path.{◌≡◌, refl, ap, ◌∙◌}
use native.Mathlib.Omega.{arith}
use lib.Dec.{T, ltb, ltb→lt}
use lib.ListN.{length, get_or, drop, length-append, length-drop}
use lib.Seq.{get_or-append-add, get_or-drop}
use Rattle.json_model.specs.Limits.{deepest}
use Rattle.json_model.specs.Reading.{Outcome, halt, done, Reading, follow, ◌>>=◌, need, kept_of}
use Rattle.fractured_json_rules.specs.ByteTables.{Len, tiny, after, Form, f_null, f_bool, f_int, f_float, f_tiny, f_string, f_object, f_array, f_reserved, form_of}
use Rattle.fractured_json_rules.specs.ByteTables.{KeyNumber, in_byte, spelled, KeyForm, immediate, back_reference, global_index, k_reserved, key_form_of}
use Rattle.fractured_json_rules.specs.Meaning.{no_key, Keys}
use Rattle.fractured_json_rules.specs.Verdict.{header, byte_at, payload, length_at, text_at, Numeral, after_second, after_first, key_number_at, in_turn, member, value_by}
use Rattle.fractured_json_rules.specs.Verdict.{value, key_by, new_key, old_key, listed_key, check_key, document, check, verdict}
use Rattle.fractured_json_rules.specs.KeyList.{names_from, count_in, key_list}
use Rattle.fractured_json_rules.specs.KeyTable.{room_of, pairs, stored, key_of}
use Rattle.fractured_json_theorems.proofs.Readers.{kept_is, keep_is}

module _ (room : ℕ) where
  -- a reading that passes no more keys than there is room for
  abbrev Keeps : {A : Type 0} → Reading Keys A → Type 0
  Keeps m = (ks : Keys) → length ks ≤ room → length (kept_of (m ks)) ≤ room

  follows : {A B : Type 0} (r : Outcome Keys A) (f : A → Reading Keys B) → length (kept_of r) ≤ room → ((a : A) → Keeps (f a)) → length (kept_of (follow r f)) ≤ room
  unfolding follow
  follows (halt n p ks) f h k = h
  follows (done a ks) f h k = k a ks h

  keeps_then : {A B : Type 0} (m : Reading Keys A) (f : A → Reading Keys B) → Keeps m → ((a : A) → Keeps (f a)) → Keeps (m >>= f)
  unfolding ◌>>=◌
  keeps_then m f h k ks i = follows (m ks) f (h ks i) k

  keeps_need : (t : Bool) (n p : ℕ) → Keeps (need t n p)
  unfolding need
  keeps_need true n p ks h = h
  keeps_need false n p ks h = h

  -- a test, and what is known after it
  keeps_test : {B : Type 0} (t : Bool) (n p : ℕ) (f : Unit {0} → Reading Keys B) (ks : Keys) → length ks ≤ room → (T t → length (kept_of (f tt ks)) ≤ room)
      → length (kept_of ((need t n p >>= f) ks)) ≤ room
  unfolding ◌>>=◌ follow need
  keeps_test true n p f ks h k = k tt
  keeps_test false n p f ks h k = h

  -- the key list
  keeps_names : (list : List ℕ) (n o : ℕ) (names : Keys) → Keeps (names_from list n o names)
  unfolding names_from
  keeps_names list zero o names = keeps_need _ _ _
  keeps_names list (suc n) o names =
      keeps_then _ _ (keeps_need _ _ _) λ _. keeps_then _ _ (keeps_need _ _ _) λ _. keeps_then _ _ (keeps_need _ _ _) λ _. keeps_names list n _ _

  keeps_list : (list : List ℕ) → Keeps (key_list list)
  unfolding key_list
  keeps_list list =
      keeps_then _ _ (keeps_need _ _ _) λ _. keeps_then _ _ (keeps_need _ _ _) λ _. keeps_then _ _ (keeps_need _ _ _) λ _. keeps_names list (count_in list) 3 []

  -- the readers
  module _ (doc : List ℕ) where
    keeps_header : Keeps (header doc)
    unfolding header
    keeps_header =
        keeps_then _ _ (keeps_need _ _ _) λ _. keeps_then _ _ (keeps_need _ _ _) λ _. keeps_then _ _ (keeps_need _ _ _) λ _. keeps_then _ _ (keeps_need _ _ _) λ _. keeps_need _ _ _

    keeps_byte : (o p : ℕ) → Keeps (byte_at doc o p)
    unfolding byte_at
    keeps_byte o p = keeps_then _ _ (keeps_need _ _ _) (λ _ ks h. h)

    keeps_payload : (o w : ℕ) → Keeps (payload doc o w)
    unfolding payload
    keeps_payload o w = keeps_then _ _ (keeps_need _ _ _) (λ _ ks h. h)

    keeps_length : (o : ℕ) (x : Len) → Keeps (length_at doc o x)
    unfolding length_at
    keeps_length o (tiny n) ks h = h
    keeps_length o (after w) ks h = keeps_payload o _ ks h

    keeps_text : (o : ℕ) (n : Numeral) → Keeps (text_at doc o n)
    unfolding text_at
    keeps_text o n = keeps_then _ _ (keeps_need _ _ _) (λ _ ks h. h)

    keeps_second : (o b0 b1 : ℕ) (l : Bool) → Keeps (after_second doc o b0 b1 l)
    unfolding after_second
    keeps_second o b0 b1 true ks h = h
    keeps_second o b0 b1 false ks h = keeps_then _ _ (keeps_byte _ _) (λ b2. keeps_then _ _ (keeps_need _ _ _) (λ _ kz i. i)) ks h

    keeps_first : (o b0 : ℕ) (l : Bool) → Keeps (after_first doc o b0 l)
    unfolding after_first
    keeps_first o b0 true ks h = h
    keeps_first o b0 false ks h = keeps_then _ _ (keeps_byte _ _) (λ b1. keeps_second o b0 b1 (ltb b1 128)) ks h

    keeps_key_number : (o : ℕ) (x : KeyNumber) → Keeps (key_number_at doc o x)
    unfolding key_number_at
    keeps_key_number o (in_byte n) ks h = h
    keeps_key_number o spelled ks h = keeps_then _ _ (keeps_byte _ _) (λ b0. keeps_first o b0 (ltb b0 128)) ks h

    -- the one place where a key is added
    keeps_new : (o : ℕ) (n : Numeral) → Keeps (new_key room doc o n)
    unfolding new_key
    keeps_new o n ks h =
        keeps_then _ _ (keeps_text o n) (λ end kz i. rw (kept_is _ kz) (keeps_test _ _ _ _ kz i λ _. keeps_test _ _ _ _ kz i λ t.
        let spare = ltb→lt (length kz) room t in rw (keep_is _ _ kz, length-append) (omega arith))) ks h

    keeps_old : (o : ℕ) (n : Numeral) → Keeps (old_key o n)
    unfolding old_key
    keeps_old o n ks h = rw (kept_is _ ks) (keeps_test _ _ _ _ ks h λ _. h)

    keeps_listed : (names o : ℕ) (n : Numeral) → Keeps (listed_key names o n)
    unfolding listed_key
    keeps_listed names o n = keeps_then _ _ (keeps_need _ _ _) (λ _ ks h. h)

    keeps_key_by : (names o : ℕ) (k : KeyForm) → Keeps (key_by doc o (new_key room doc o) (old_key o) (listed_key names o) k)
    unfolding key_by
    keeps_key_by names o (immediate x) ks h = keeps_then _ _ (keeps_key_number o x) (λ n. keeps_new o n) ks h
    keeps_key_by names o (back_reference x) ks h = keeps_then _ _ (keeps_key_number o x) (λ n. keeps_old o n) ks h
    keeps_key_by names o (global_index x) ks h = keeps_then _ _ (keeps_key_number o x) (λ n. keeps_listed names o n) ks h
    keeps_key_by names o k_reserved ks h = h

    keeps_key : (names o : ℕ) → Keeps (check_key room doc names o)
    unfolding check_key
    keeps_key names o = keeps_then _ _ (keeps_byte _ _) (λ b. keeps_key_by names o (key_form_of b))

    keeps_turns : (thing : ℕ → Reading Keys ℕ) → ((o : ℕ) → Keeps (thing o)) → (n o : ℕ) → Keeps (in_turn thing n o)
    unfolding in_turn
    keeps_turns thing k zero o ks h = h
    keeps_turns thing k (suc n) o ks h = keeps_then _ _ (k o) (λ next. keeps_turns thing k n next) ks h

    keeps_member : (names : ℕ) (value : ℕ → Reading Keys ℕ) → ((o : ℕ) → Keeps (value o)) → (o : ℕ) → Keeps (member (check_key room doc names) value o)
    unfolding member
    keeps_member names value k o = keeps_then _ _ (keeps_key names o) (λ v. k v)

    keeps_by : (o : ℕ) (array object : Numeral → Reading Keys ℕ) → ((n : Numeral) → Keeps (array n)) → ((n : Numeral) → Keeps (object n))
        → (f : Form) → Keeps (value_by doc o array object f)
    unfolding value_by
    keeps_by o array object ha ho f_null ks h = h
    keeps_by o array object ha ho (f_bool b) ks h = h
    keeps_by o array object ha ho (f_tiny b) ks h = h
    keeps_by o array object ha ho (f_int s w) ks h = keeps_then _ _ (keeps_payload o _) (λ _ kz i. i) ks h
    keeps_by o array object ha ho (f_float f w) ks h = keeps_then _ _ (keeps_payload o _) (λ bits. keeps_then _ _ (keeps_need _ _ _) (λ _ kz i. i)) ks h
    keeps_by o array object ha ho (f_string x) ks h = keeps_then _ _ (keeps_length o x) (keeps_text o) ks h
    keeps_by o array object ha ho (f_object x) ks h = keeps_then _ _ (keeps_length o x) ho ks h
    keeps_by o array object ha ho (f_array x) ks h = keeps_then _ _ (keeps_length o x) ha ks h
    keeps_by o array object ha ho f_reserved ks h = h

    keeps_value : (names l o : ℕ) → Keeps (value (check_key room doc names) l doc o)
    unfolding value
    keeps_value names zero o = keeps_then _ _ (keeps_byte _ _) (λ b. keeps_by o _ _ (λ n ks h. h) (λ n ks h. h) (form_of b))
    keeps_value names (suc l) o =
        keeps_then _ _ (keeps_byte _ _) (λ b. keeps_by o _ _ (λ n. keeps_turns _ (keeps_value names l) n.is n.past) (λ n. keeps_turns _ (keeps_member names _ (keeps_value names l)) n.is n.past) (form_of b))

    keeps_check : (list : List ℕ) → Keeps (check room doc list)
    unfolding check document
    keeps_check list = keeps_then _ _ (keeps_list list) λ _. keeps_then _ _ keeps_header λ _. keeps_then _ _ (keeps_value (count_in list) deepest 3) λ past. keeps_need _ _ _

-- the keys passed are at most the room, refused or not
pub passed_room : (room : ℕ) (doc list : List ℕ) → length (kept_of (verdict room doc list)) ≤ room
passed_room room doc list = keeps_check room doc list [] (omega arith)

-- ---- the words afterwards

pub room_words : (words : List ℕ) (n : ℕ) → n ≤ room_of words → 2 * n ≤ length words
unfolding room_of
room_words words n h = omega arith

pairs_length : (ks : Keys) → length (pairs ks) ≡ 2 * length ks
pairs_length [] = refl
pairs_length (k ∷ ks) = let r = pairs_length ks in omega arith

pub stored_length : (ks : Keys) (words : List ℕ) → 2 * length ks ≤ length words → length (stored ks words) ≡ length words
unfolding stored
stored_length ks words h = rw (length-append, pairs_length ks, length-drop) (omega arith)

pair_at : (ks : Keys) (rest : List ℕ) (j : ℕ) → j < length ks → key_of (pairs ks ++ rest) j ≡ get_or ks j no_key
pair_at [] rest j h = absurd (omega arith)
pair_at (k ∷ ks) rest zero h = refl
pair_at (k ∷ ks) rest (suc j) h =
    let a : 2 * suc j ≡ suc (suc (2 * j)) = omega arith in
    let b : suc (suc (2 * j)) + 1 ≡ suc (suc (2 * j + 1)) = omega arith in
    rw (a, b) (pair_at ks rest j (omega arith))

pub stored_pair : (ks : Keys) (words : List ℕ) (j : ℕ) → j < length ks → key_of (stored ks words) j ≡ get_or ks j no_key
unfolding stored
stored_pair ks words j h = pair_at ks _ j h

pub stored_other : (ks : Keys) (words : List ℕ) (i : ℕ) → 2 * length ks ≤ i → get_or (stored ks words) i 0 ≡ get_or words i 0
unfolding stored
stored_other ks words i h =
    let n = pairs_length ks in
    let at : i ≡ length (pairs ks) + (i - 2 * length ks) = omega arith in
    let back : 2 * length ks + (i - 2 * length ks) ≡ i = omega arith in
    ap (λ j. get_or (pairs ks ++ drop (2 * length ks) words) j 0) at ∙ (get_or-append-add (pairs ks) _ _ 0 ∙ rw (get_or-drop, back))
