-- A fact of every kind of a Meta, and of every type of an Entry, from its cases: one for each number, and one for all above.
use Prim.Native.Nat.{ℕ, zero, suc}
use Rattle.binary_json_rules.specs.Areas.{Kind, k_array, k_object, k_scalar, k_other, kind_of, EntryType, t_false, t_true, t_null, t_string, t_number, t_container, t_other, type_of}

pub by_kind : (P : ℕ → Kind → Type 0) → P 0 k_array → P 1 k_object → P 2 k_scalar → ((n : ℕ) → P (suc (suc (suc n))) k_other) → (n : ℕ) → P n (kind_of n)
unfolding kind_of
by_kind P p0 p1 p2 other zero = p0
by_kind P p0 p1 p2 other (suc zero) = p1
by_kind P p0 p1 p2 other (suc (suc zero)) = p2
by_kind P p0 p1 p2 other (suc (suc (suc n))) = other n

pub by_type : (P : ℕ → EntryType → Type 0) → P 0 t_false → P 1 t_true → P 2 t_null → P 3 t_string → P 4 t_number → P 5 t_container
    → ((n : ℕ) → P (suc (suc (suc (suc (suc (suc n)))))) t_other) → (n : ℕ) → P n (type_of n)
unfolding type_of
by_type P p0 p1 p2 p3 p4 p5 other zero = p0
by_type P p0 p1 p2 p3 p4 p5 other (suc zero) = p1
by_type P p0 p1 p2 p3 p4 p5 other (suc (suc zero)) = p2
by_type P p0 p1 p2 p3 p4 p5 other (suc (suc (suc zero))) = p3
by_type P p0 p1 p2 p3 p4 p5 other (suc (suc (suc (suc zero)))) = p4
by_type P p0 p1 p2 p3 p4 p5 other (suc (suc (suc (suc (suc zero))))) = p5
by_type P p0 p1 p2 p3 p4 p5 other (suc (suc (suc (suc (suc (suc n)))))) = other n
