-- A number's type byte and 64 bits have the value of the number: extending by sign or by zeros changes no value.
use Prim.Native.Nat.{ℕ, zero, suc, ◌+◌, ◌-◌, ◌*◌, ◌^◌, ◌≤◌, ◌<◌}
use mathlib.Core.Bool.{Bool, true, false, not}
use mathlib.Core.List.{List, [], ◌∷◌}
use mathlib.Core.Path.{◌≡◌, refl, sym, ap, ◌∙◌, subst}
use native.Mathlib.Omega.{arith}
use borrow.Author.Tests.{lt-ltb, le-ltb}
use lib.Dec.{T, ltb, ltb→lt, nltb→le}
use lib.ListN.{get_or}
use Rattle.json_model.specs.Choose.{choose}
use Rattle.json_model.specs.Number.{signed_tree, whole_tree, scaled}
use Rattle.json_model.specs.Tree.{num}
use Rattle.fractured_json_rules.specs.ByteTables.{Width, one, two, four, eight, bytes, Form, f_null, f_bool, f_int, f_float, f_tiny, f_string, f_object, f_array, f_reserved, first_forms, form_of}
use Rattle.fractured_json_rules.specs.Meaning.{tiny_tree}
use Rattle.fractured_json_rules.specs.Questions.{extended, tiny_bits}

-- ---- two ways to choose

lower : {A : Type 0} (a b : ℕ) (x y : A) → a < b → choose (ltb a b) x y ≡ x
unfolding choose
lower a b x y h = rw (lt-ltb a b h)

upper : {A : Type 0} (a b : ℕ) (x y : A) → b ≤ a → choose (ltb a b) x y ≡ y
unfolding choose
upper a b x y h = rw (le-ltb a b h)

by_order : (P : Type 0) (a b : ℕ) → (a < b → P) → (b ≤ a → P) → P
by_order P a b f g = go (ltb a b) (ltb→lt a b) (nltb→le a b)
  where
    go : (l : Bool) → (T l → a < b) → (T (not l) → b ≤ a) → P
    go true p q = f (p tt)
    go false p q = g (q tt)

-- a number below the half is itself, and any other is the full turn less it
signed_low : (k n : ℕ) → n < 2 ^ (k - 1) → signed_tree k n ≡ num false (scaled n)
unfolding signed_tree whole_tree
signed_low k n h = lower n (2 ^ (k - 1)) _ _ h

signed_high : (k n : ℕ) → 2 ^ (k - 1) ≤ n → signed_tree k n ≡ num true (scaled (2 ^ k - n))
unfolding signed_tree
signed_high k n h = upper n (2 ^ (k - 1)) _ _ h

-- ---- integers of one, two, four and eight bytes: k bits, of which 64 are made

extends : (k n : ℕ) → 2 ^ (k - 1) ≤ 2 ^ 63 → 2 ^ k ≤ 2 ^ 64 → 2 * 2 ^ (k - 1) ≡ 2 ^ k → n < 2 ^ k
    → signed_tree 64 (choose (ltb n (2 ^ (k - 1))) n (n + (2 ^ 64 - 2 ^ k))) ≡ signed_tree k n
extends k n a b c h =
    by_order _ n (2 ^ (k - 1))
    (λ l. rw (lower n (2 ^ (k - 1)) n (n + (2 ^ 64 - 2 ^ k)) l) (signed_low 64 n (omega arith) ∙ sym (signed_low k n l)))
    (λ g. let e : 2 ^ 64 - (n + (2 ^ 64 - 2 ^ k)) ≡ 2 ^ k - n = omega arith in
    rw (upper n (2 ^ (k - 1)) n (n + (2 ^ 64 - 2 ^ k)) g) (signed_high 64 (n + (2 ^ 64 - 2 ^ k)) (omega arith) ∙ (ap (λ m. num true (scaled m)) e ∙ sym (signed_high k n g))))

pub int_value : (w : Width) (n : ℕ) → n < 256 ^ bytes w → signed_tree 64 (extended true (bytes w) n) ≡ signed_tree (8 * bytes w) n
int_value one n h = extends 8 n (omega arith) (omega arith) (omega arith) (omega arith)
int_value two n h = extends 16 n (omega arith) (omega arith) (omega arith) (omega arith)
int_value four n h = extends 32 n (omega arith) (omega arith) (omega arith) (omega arith)
int_value eight n h = extends 64 n (omega arith) (omega arith) (omega arith) (omega arith)

-- ---- tiny ints

pub tiny_value : (b : ℕ) → b < 256 → signed_tree 64 (tiny_bits b) ≡ tiny_tree b
unfolding tiny_tree whole_tree
tiny_value b h =
    by_order _ b 222
    (λ l. let e : 2 ^ 64 - (2 ^ 64 - (222 - b)) ≡ 222 - b = omega arith in
    rw (lower b 222 (2 ^ 64 - (222 - b)) (b - 222) l)
    (signed_high 64 (2 ^ 64 - (222 - b)) (omega arith) ∙ (ap (λ m. num true (scaled m)) e ∙ sym (lower b 222 (num true (scaled (222 - b))) (num false (scaled (b - 222))) l))))
    (λ g. rw (upper b 222 (2 ^ 64 - (222 - b)) (b - 222) g)
    (signed_low 64 (b - 222) (omega arith) ∙ sym (upper b 222 (num true (scaled (222 - b))) (num false (scaled (b - 222))) g)))

-- the byte that the form of a tiny int keeps, and y of any other form
abbrev tiny_or : Form → ℕ → ℕ
tiny_or f_null y = y
tiny_or (f_bool b) y = y
tiny_or (f_int s w) y = y
tiny_or (f_float f w) y = y
tiny_or (f_tiny b) y = b
tiny_or (f_string x) y = y
tiny_or (f_object x) y = y
tiny_or (f_array x) y = y
tiny_or f_reserved y = y

-- none of the forms is a tiny int's
abbrev Plain : ℕ → List Form → Type 0
Plain y [] = Unit {0}
Plain y (f ∷ fs) = (tiny_or f y ≡ y) × Plain y fs

plain_at : (y : ℕ) (fs : List Form) → Plain y fs → (x : ℕ) → tiny_or (get_or fs x f_reserved) y ≡ y
plain_at y [] h x = refl
plain_at y (f ∷ fs) h zero = h.0
plain_at y (f ∷ fs) h (suc x) = plain_at y fs h.1 x

either_tiny : (c : Bool) (f g : Form) (y : ℕ) → tiny_or f y ≡ y → tiny_or g y ≡ y → tiny_or (choose c f g) y ≡ y
unfolding choose
either_tiny true f g y p q = p
either_tiny false f g y p q = q

-- the form of a tiny int keeps its byte
kept_byte : (x : ℕ) → tiny_or (form_of x) x ≡ x
unfolding form_of
kept_byte x =
    either_tiny _ _ _ x (plain_at x first_forms (omega arith) x)
    (either_tiny _ _ _ x refl (either_tiny _ _ _ x refl (either_tiny _ _ _ x refl (either_tiny _ _ _ x refl refl))))

pub tiny_byte : (x b : ℕ) → form_of x ≡ f_tiny b → b ≡ x
tiny_byte x b e = subst (λ (f : Form). tiny_or f x ≡ x) e (kept_byte x)
