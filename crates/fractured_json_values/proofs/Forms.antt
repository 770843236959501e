-- What holds of every form that a type byte can have: of the forms with a byte of their own, of every tiny one, and of the
-- reserved ones.
use mathlib.Core.Bool.{Bool, true, false, not}
use mathlib.Core.List.{List, [], ◌∷◌}
use Prim.Native.Nat.{ℕ, zero, suc, ◌-◌, ◌≤◌, ◌<◌}
use lib.Dec.{T, ltb, ltb→lt, nltb→le}
use lib.ListN.{get_or}
use Rattle.json_model.specs.Choose.{choose}
use Rattle.fractured_json_rules.specs.ByteTables.{tiny, Form, f_tiny, f_string, f_object, f_array, f_reserved, first_forms, form_of}

module _ (P : Form → Type 0) where
  abbrev pub All : List Form → Type 0
  All [] = Unit {0}
  All (f ∷ fs) = P f × All fs

  either : (m n : ℕ) (f g : Form) → (m < n → P f) → (n ≤ m → P g) → P (choose (ltb m n) f g)
  unfolding choose
  either m n f g h k = go (ltb m n) (ltb→lt m n) (nltb→le m n)
    where
      go : (b : Bool) → (T b → m < n) → (T (not b) → n ≤ m) → P (choose b f g)
      go true p q = h (p tt)
      go false p q = k (q tt)

  module _ (reserved : P f_reserved) where
    all_at : (fs : List Form) → All fs → (i : ℕ) → P (get_or fs i f_reserved)
    all_at [] h i = reserved
    all_at (f ∷ fs) h zero = h.0
    all_at (f ∷ fs) h (suc i) = all_at fs h.1 i

    pub every_form : All first_forms → ((n : ℕ) → P (f_string (tiny n))) → ((n : ℕ) → P (f_object (tiny n))) → ((n : ℕ) → P (f_array (tiny n)))
        → ((b : ℕ) → 0xBE ≤ b → b < 0xFE → P (f_tiny b)) → (b : ℕ) → P (form_of b)
    unfolding form_of
    every_form first string object array int b =
        either b 0x16 (get_or first_forms b f_reserved) _ (λ _. all_at first_forms first b)
        (λ _. either b 0x6E _ _ (λ _. string (b - 0x16)) (λ _. either b 0x9E _ _ (λ _. object (b - 0x6E)) (λ _. either b 0xBE _ _ (λ _. array (b - 0x9E)) (λ l. either b 0xFE _ _ (λ u. int b l u) (λ _. reserved)))))
