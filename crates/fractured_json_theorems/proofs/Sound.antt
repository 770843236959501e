-- What the check accepts keeps the rules: from a reading that is done, the tree that the document means.
use Prim.Native.Nat.{ℕ, zero, suc, ◌-◌, ◌*◌, ◌^◌, ◌≤◌, ◌<◌}
use mathlib.Core.Bool.{Bool, true, false}
use mathlib.Core.List.{List, []}
use mathlib.Core.Path.{◌≡◌, refl, sym, ap, ◌∙◌}
use native.Mathlib.Nat.{max-le}
use native.Mathlib.Omega.{arith}
use lib.Dec.{ltb, leb→le, ltb→lt, eqb→eq}
use lib.ListN.{length, get_or}
use Rattle.json_model.specs.Bytes.{part}
use Rattle.json_model.specs.Choose.{choose}
use Rattle.json_model.specs.Limits.{deepest}
use Rattle.json_model.specs.Number.{Float, float_tree, signed_tree, whole_tree, scaled}
use Rattle.json_model.specs.Reading.{Reading, done}
use Rattle.json_model.specs.Tree.{Tree, null, bool, num, str, arr, obj, Trees, none, more, Members, end, depth, depths, depthm, size, sizem}
use Rattle.json_model.specs.Tree as Tree
use Rattle.json_model.proofs.Reading.{halt≢done, done_answer, done_kept, step, passed}
use Rattle.fractured_json_rules.specs.ByteTables.{Width, bytes, Form, f_null, f_bool, f_int, f_float, f_tiny, f_string, f_object, f_array, f_reserved, form_of}
use Rattle.fractured_json_rules.specs.ByteTables.{KeyForm, immediate, back_reference, global_index, k_reserved, key_form_of}
use Rattle.fractured_json_rules.specs.Meaning.{after_length, int_tree, tiny_tree, NumberIs, as_tiny, as_int, as_float, Names, no_key, Keys, key_text, KeyIs, as_text}
use Rattle.fractured_json_rules.specs.Meaning.{as_back, as_global, ValueIs, ValuesAre, MembersAre, Lists, Headed, Means}
use Rattle.fractured_json_rules.specs.Verdict.{Numeral, numeral, text_at, in_turn, member, value_by, value, key_by, new_key, old_key, listed_key, check_key, document, check, verdict}
use Rattle.fractured_json_theorems.proofs.Keys.{met_fresh}
use Rattle.fractured_json_theorems.proofs.KeyList.{list_step}
use Rattle.fractured_json_theorems.proofs.Readers.{kept_is, keep_is, header_step, last_test, byte_step, payload_step, length_step, text_step, key_number_step}

record FoundKey (doc : List ℕ) (names : Names) (o : ℕ) (ks : Keys) (e : ℕ) (kz : Keys) : Type 0 where
  text : List ℕ
  here : KeyIs doc names text o ks e kz

record FoundValue (doc : List ℕ) (names : Names) (l o : ℕ) (ks : Keys) (e : ℕ) (kz : Keys) : Type 0 where
  tree : Tree
  here : ValueIs doc names tree o ks e kz
  shallow : depth tree ≤ l

record FoundValues (doc : List ℕ) (names : Names) (l n o : ℕ) (ks : Keys) (e : ℕ) (kz : Keys) : Type 0 where
  trees : Trees
  count : size trees ≡ n
  here : ValuesAre doc names trees o ks e kz
  shallow : depths trees ≤ l

record FoundMembers (doc : List ℕ) (names : Names) (l n o : ℕ) (ks : Keys) (e : ℕ) (kz : Keys) : Type 0 where
  members : Members
  count : sizem members ≡ n
  here : MembersAre doc names members o ks e kz
  shallow : depthm members ≤ l

-- ---- a number's tree is a number

abbrev IsNumber : Tree → Type 0
IsNumber t = (s : Bool) × (m : ℕ) × (t ≡ num s m)

either_number : (c s u : Bool) (m n : ℕ) → IsNumber (choose c (num s m) (num u n))
unfolding choose
either_number true s u m n = (s, m, refl)
either_number false s u m n = (u, n, refl)

tiny_number : (b : ℕ) → IsNumber (tiny_tree b)
unfolding tiny_tree whole_tree
tiny_number b = either_number (ltb b 222) true false (scaled (222 - b)) (scaled (b - 222))

int_number : (s : Bool) (w : Width) (n : ℕ) → IsNumber (int_tree s w n)
unfolding signed_tree whole_tree
int_number true w n = either_number (ltb n (2 ^ (8 * bytes w - 1))) false true (scaled n) (scaled (2 ^ (8 * bytes w) - n))
int_number false w n = (false, scaled n, refl)

float_number : (f : Float) (n : ℕ) → IsNumber (float_tree f n)
unfolding float_tree
float_number f n = (_, _, refl)

module _ (room : ℕ) (doc : List ℕ) (names : Names) where
  -- ---- keys

  key_by_lem : (o : ℕ) (ks : Keys) {e : ℕ} {kz : Keys} → o < length doc → (k : KeyForm) → key_form_of (get_or doc o 0) ≡ k → key_by doc o (new_key room doc o) (old_key o) (listed_key (length names) o) k ks ≡ done e kz
      → FoundKey doc names o ks e kz
  unfolding key_by new_key old_key listed_key
  key_by_lem o ks i (immediate x) form e =
      let (n, b, ix, e0) = key_number_step doc o x _ ks e in
      let (fits, e1) = text_step doc o (numeral n b) _ ks e0 in
      let s2 = passed _ _ _ _ ks (sym (kept_is _ ks) ∙ e1) in
      let s3 = passed _ _ _ _ ks s2.rest in
      let last = sym (keep_is _ _ ks) ∙ s3.rest in
      record {
        text = part doc b n;
        here = as_text x n b (record { inside = i; form_is = form }) ix (record { inside = fits; same = refl }) (met_fresh doc _ ks s2.test)
            (sym (done_answer last)) (sym (done_kept last));
      }
  key_by_lem o ks i (back_reference x) form e =
      let (n, b, ix, e0) = key_number_step doc o x _ ks e in
      let s1 = passed _ _ _ _ ks (sym (kept_is _ ks) ∙ e0) in
      let past = done_answer s1.rest in
      record {
        text = key_text doc (get_or ks n no_key);
        here = as_back x n (record { inside = i; form_is = form }) (rw past at ix) (ltb→lt _ _ s1.test) refl (sym (done_kept s1.rest));
      }
  key_by_lem o ks i (global_index x) form e =
      let (n, b, ix, e0) = key_number_step doc o x _ ks e in
      let s1 = passed _ _ _ _ ks e0 in
      let past = done_answer s1.rest in
      record {
        text = get_or names n [];
        here = as_global x n (record { inside = i; form_is = form }) (rw past at ix) (ltb→lt _ _ s1.test) refl (sym (done_kept s1.rest));
      }
  key_by_lem o ks i k_reserved form e = absurd (halt≢done e)

  key_sound : (o : ℕ) (ks : Keys) {e : ℕ} {kz : Keys} → check_key room doc (length names) o ks ≡ done e kz → FoundKey doc names o ks e kz
  unfolding check_key
  key_sound o ks e = let (i, e0) = byte_step doc o o _ ks e in key_by_lem o ks i _ refl e0

  -- ---- things in a row

  values_sound : (f : ℕ → Reading Keys ℕ) (l : ℕ) → ((o : ℕ) (ks : Keys) (e : ℕ) (kz : Keys) → f o ks ≡ done e kz → FoundValue doc names l o ks e kz)
      → (n o : ℕ) (ks : Keys) {e : ℕ} {kz : Keys} → in_turn f n o ks ≡ done e kz → FoundValues doc names l n o ks e kz
  unfolding in_turn
  values_sound f l ih zero o ks e = record { trees = none; count = refl; here = (sym (done_answer e), sym (done_kept e)); shallow = omega arith }
  values_sound f l ih (suc n) o ks e =
      let s = step _ _ ks e in
      let t = ih o ks _ _ s.first in
      let ts = values_sound f l ih n s.got s.mid s.rest in
      record { trees = more t.tree ts.trees; count = ap suc ts.count; here = (s.got, s.mid, t.here, ts.here); shallow = max-le t.shallow ts.shallow }

  members_sound : (f : ℕ → Reading Keys ℕ) (l : ℕ) → ((o : ℕ) (ks : Keys) (e : ℕ) (kz : Keys) → f o ks ≡ done e kz → FoundValue doc names l o ks e kz)
      → (n o : ℕ) (ks : Keys) {e : ℕ} {kz : Keys} → in_turn (member (check_key room doc (length names)) f) n o ks ≡ done e kz → FoundMembers doc names l n o ks e kz
  unfolding in_turn member
  members_sound f l ih zero o ks e = record { members = end; count = refl; here = (sym (done_answer e), sym (done_kept e)); shallow = omega arith }
  members_sound f l ih (suc n) o ks e =
      let s = step _ _ ks e in
      let s0 = step _ _ ks s.first in
      let k = key_sound o ks s0.first in
      let t = ih s0.got s0.mid _ _ s0.rest in
      let ms = members_sound f l ih n s.got s.mid s.rest in
      record {
        members = Tree.member k.text t.tree ms.members;
        count = ap suc ms.count;
        here = (s0.got, s0.mid, s.got, s.mid, k.here, t.here, ms.here);
        shallow = max-le t.shallow ms.shallow;
      }

  -- ---- values

  number_found : (l o : ℕ) (ks : Keys) {e : ℕ} {kz : Keys} (t : Tree) → NumberIs doc t o e → IsNumber t → kz ≡ ks → FoundValue doc names l o ks e kz
  number_found l o ks t h n q = record { tree = num n.0 n.1; here = (rw n.2 at h, q); shallow = omega arith }

  value_by_lem : (l o : ℕ) (ks : Keys) {e : ℕ} {kz : Keys} (array object : Numeral → Reading Keys ℕ)
      → ((n : Numeral) → array n ks ≡ done e kz → (m : ℕ) × (l ≡ suc m) × FoundValues doc names m n.is n.past ks e kz)
      → ((n : Numeral) → object n ks ≡ done e kz → (m : ℕ) × (l ≡ suc m) × FoundMembers doc names m n.is n.past ks e kz)
      → o < length doc → (k : Form) → form_of (get_or doc o 0) ≡ k → value_by doc o array object k ks ≡ done e kz → FoundValue doc names l o ks e kz
  unfolding value_by text_at
  value_by_lem l o ks array object ha ho i f_null form e =
      record { tree = null; here = (record { inside = i; form_is = form }, sym (done_answer e), sym (done_kept e)); shallow = omega arith }
  value_by_lem l o ks array object ha ho i (f_bool b) form e =
      record { tree = bool b; here = (record { inside = i; form_is = form }, sym (done_answer e), sym (done_kept e)); shallow = omega arith }
  value_by_lem l o ks array object ha ho i (f_tiny b) form e =
      number_found l o ks _ (as_tiny b (record { inside = i; form_is = form }) refl (sym (done_answer e))) (tiny_number b) (sym (done_kept e))
  value_by_lem l o ks array object ha ho i (f_int s w) form e =
      let (fits, e0) = payload_step doc o (bytes w) _ ks e in
      number_found l o ks _ (as_int s w (record { inside = i; form_is = form }) fits refl (sym (done_answer e0))) (int_number s w _) (sym (done_kept e0))
  value_by_lem l o ks array object ha ho i (f_float f w) form e =
      let (fits, e0) = payload_step doc o (bytes w) _ ks e in
      let s = passed _ _ _ _ ks e0 in
      number_found l o ks _ (as_float f w (record { inside = i; form_is = form }) fits s.test refl (sym (done_answer s.rest))) (float_number f _) (sym (done_kept s.rest))
  value_by_lem l o ks array object ha ho i (f_string x) form e =
      let (n, len, e0) = length_step doc o x _ ks e in
      let s = passed _ _ _ _ ks e0 in
      record {
        tree = str (part doc (after_length o x) n);
        here = (x, n, record { inside = i; form_is = form }, len, record { inside = leb→le _ _ s.test; same = refl }, sym (done_answer s.rest), sym (done_kept s.rest));
        shallow = omega arith;
      }
  value_by_lem l o ks array object ha ho i (f_object x) form e =
      let (n, len, e0) = length_step doc o x _ ks e in
      let (m, le, f) = ho (numeral n (after_length o x)) e0 in
      record { tree = obj f.members; here = (x, record { inside = i; form_is = form }, rw f.count len, f.here); shallow = rw le (omega arith) }
  value_by_lem l o ks array object ha ho i (f_array x) form e =
      let (n, len, e0) = length_step doc o x _ ks e in
      let (m, le, f) = ha (numeral n (after_length o x)) e0 in
      record { tree = arr f.trees; here = (x, record { inside = i; form_is = form }, rw f.count len, f.here); shallow = rw le (omega arith) }
  value_by_lem l o ks array object ha ho i f_reserved form e = absurd (halt≢done e)

  value_sound : (l o : ℕ) (ks : Keys) (e : ℕ) (kz : Keys) → value (check_key room doc (length names)) l doc o ks ≡ done e kz → FoundValue doc names l o ks e kz
  unfolding value
  value_sound zero o ks e kz h =
      let (i, r) = byte_step doc o o _ ks h in
      value_by_lem zero o ks _ _ (λ n q. absurd (halt≢done q)) (λ n q. absurd (halt≢done q)) i _ refl r
  value_sound (suc l) o ks e kz h =
      let (i, r) = byte_step doc o o _ ks h in
      value_by_lem (suc l) o ks _ _
      (λ n q. (l, refl, values_sound (value (check_key room doc (length names)) l doc) l (value_sound l) n.is n.past ks q))
      (λ n q. (l, refl, members_sound (value (check_key room doc (length names)) l doc) l (value_sound l) n.is n.past ks q))
      i _ refl r

-- ---- the document

module _ (room : ℕ) (doc list : List ℕ) where
  found_means : (names : Names) → Lists list names → Headed doc → (e : ℕ) (kz : Keys) → FoundValue doc names deepest 3 [] e kz → e ≡ length doc
      → (t : Tree) × (m : Means doc list t) × (m.keys ≡ kz)
  found_means names l o e kz f past = (f.tree, record { names = names; listed = l; headed = o; keys = kz; root = rw past at f.here; nested = f.shallow }, refl)

  pub sound : (kz : Keys) → verdict room doc list ≡ done tt kz → (t : Tree) × (m : Means doc list t) × (m.keys ≡ kz)
  unfolding check document
  sound kz e =
      let ((names, l), e0) = list_step list _ [] e in
      let (o, e1) = header_step doc _ [] e0 in
      let v = step _ _ [] e1 in
      let (whole, same) = last_test _ _ _ v.mid v.rest in
      let walked : value (check_key room doc (length names)) deepest doc 3 [] ≡ done v.got v.mid = rw l.count v.first in
      let (t, m, k) = found_means names l o v.got v.mid (value_sound room doc names deepest 3 [] v.got v.mid walked) (eqb→eq _ _ whole) in
      (t, m, k ∙ same)
