-- A reading that neither looks at what is kept nor changes it says the same whatever is kept.
use mathlib.Core.Path.{◌≡◌, refl, ◌∙◌}
use mathlib.Core.Bool.{Bool, true, false}
use mathlib.Core.List.{List}
use Prim.Native.Nat.{ℕ}
use lib.Dec.{ltb, eqb}
use Rattle.std.specs.Prelude.{Option, Some, None}
use Rattle.json_model.specs.Choose.{choose}
use Rattle.json_model.specs.Reading.{halt, done, Reading, ask, answers, refuses}
use Rattle.json_model.proofs.Reading.{carry, carry_then, carry_need}
use Rattle.fractured_json_rules.specs.ByteTables.{KeyNumber, in_byte, spelled, form_of}
use Rattle.fractured_json_rules.specs.Verdict.{byte_at, payload, Numeral, after_second, after_first, key_number_at, header}
use Rattle.fractured_json_values.specs.Heads.{head_of}
use Rattle.fractured_json_values.specs.Opened.{sized_at, Opened, open_scalar, open_type, open_head, opened_at}
use Rattle.fractured_json_values.specs.declared.types.Head.{Head}
use Rattle.fractured_json_values.specs.declared.types.ValueType.{ValueType}
use Rattle.fractured_json_values.specs.declared.types.ValueType.TheVariants.{String, Object, Array}

module _ {S : Type 0} where
  module _ (doc : List ℕ) where
    pub carry_byte : (o p : ℕ) (s : S) → byte_at doc o p s ≡ carry s (ask (byte_at doc o p))
    unfolding byte_at
    carry_byte o p s = carry_then _ _ _ _ s (carry_need _ _ _ s) (λ u. refl)

    pub carry_payload : (o w : ℕ) (s : S) → payload doc o w s ≡ carry s (ask (payload doc o w))
    unfolding payload
    carry_payload o w s = carry_then _ _ _ _ s (carry_need _ _ _ s) (λ u. refl)

    carry_second : (o b0 b1 : ℕ) (l : Bool) (s : S) → after_second doc o b0 b1 l s ≡ carry s (ask (after_second doc o b0 b1 l))
    unfolding after_second
    carry_second o b0 b1 true s = refl
    carry_second o b0 b1 false s = carry_then _ _ _ _ s (carry_byte _ _ s) (λ b2. carry_then _ _ _ _ s (carry_need _ _ _ s) (λ u. refl))

    carry_first : (o b0 : ℕ) (l : Bool) (s : S) → after_first doc o b0 l s ≡ carry s (ask (after_first doc o b0 l))
    unfolding after_first
    carry_first o b0 true s = refl
    carry_first o b0 false s = carry_then _ _ _ _ s (carry_byte _ _ s) (λ b1. carry_second o b0 b1 (ltb b1 128) s)

    pub carry_key_number : (o : ℕ) (x : KeyNumber) (s : S) → key_number_at doc o x s ≡ carry s (ask (key_number_at doc o x))
    unfolding key_number_at
    carry_key_number o (in_byte n) s = refl
    carry_key_number o spelled s = carry_then _ _ _ _ s (carry_byte _ _ s) (λ b0. carry_first o b0 (ltb b0 128) s)

    pub key_number_done : (o : ℕ) (x : KeyNumber) (n : Numeral) (s : S) → ask (key_number_at doc o x) ≡ answers n → key_number_at doc o x s ≡ done n s
    key_number_done o x n s e = carry_key_number o x s ∙ rw e

    pub key_number_halts : (o : ℕ) (x : KeyNumber) (n p : ℕ) (s : S) → ask (key_number_at doc o x) ≡ refuses n p → key_number_at doc o x s ≡ halt n p s
    key_number_halts o x n p s e = carry_key_number o x s ∙ rw e

    -- ---- a value up to a container's contents

    carry_choose : {A : Type 0} (b : Bool) (m n : Reading S A) (m' n' : Reading (Unit {0}) A) (s : S) → m s ≡ carry s (m' tt) → n s ≡ carry s (n' tt)
        → choose b m n s ≡ carry s (choose b m' n' tt)
    unfolding choose
    carry_choose true m n m' n' s h k = h
    carry_choose false m n m' n' s h k = k

    carry_sized : (o w t : ℕ) (s : S) → sized_at doc o w t s ≡ carry s (ask (sized_at doc o w t))
    unfolding sized_at
    carry_sized o w t s = carry_choose (eqb w 0) _ _ _ _ s refl (carry_payload _ _ s)

    carry_scalar : (o : ℕ) (kind : ValueType) (n past : ℕ) (s : S) → open_scalar o kind n past s ≡ carry s (ask (open_scalar o kind n past))
    unfolding open_scalar
    carry_scalar o kind n past s = carry_then _ _ _ _ s (carry_need _ _ _ s) (λ u. refl)

    carry_type : (len o : ℕ) (kind : ValueType) (n past : ℕ) (s : S) → open_type len o kind n past s ≡ carry s (ask (open_type len o kind n past))
    unfolding open_type
    carry_type len o String n past s = carry_then _ _ _ _ s (carry_need _ _ _ s) (λ u. refl)
    carry_type len o Object n past s = refl
    carry_type len o Array n past s = refl
    carry_type len o _ n past s = carry_scalar o _ n past s

    carry_head : (o : ℕ) (h : Option Head) (s : S) → open_head doc o h s ≡ carry s (ask (open_head doc o h))
    unfolding open_head
    carry_head o None s = refl
    carry_head o (Some h) s = carry_then _ _ _ _ s (carry_sized _ _ _ s) (λ n. carry_type _ _ h.kind _ _ s)

    pub carry_opened : (o : ℕ) (s : S) → opened_at doc o s ≡ carry s (ask (opened_at doc o))
    unfolding opened_at
    carry_opened o s = carry_then _ _ _ _ s (carry_byte _ _ s) (λ b. carry_head o (head_of (form_of b)) s)

    pub opened_done : (o : ℕ) (x : Opened) (s : S) → ask (opened_at doc o) ≡ answers x → opened_at doc o s ≡ done x s
    opened_done o x s e = carry_opened o s ∙ rw e

    pub opened_halts : (o n p : ℕ) (s : S) → ask (opened_at doc o) ≡ refuses n p → opened_at doc o s ≡ halt n p s
    opened_halts o n p s e = carry_opened o s ∙ rw e

    pub carry_header : (s : S) → header doc s ≡ carry s (ask (header doc))
    unfolding header
    carry_header s =
        carry_then _ _ _ _ s (carry_need _ _ _ s) λ _. carry_then _ _ _ _ s (carry_need _ _ _ s) λ _. carry_then _ _ _ _ s (carry_need _ _ _ s) λ _.
        carry_then _ _ _ _ s (carry_need _ _ _ s) λ _. carry_need _ _ _ s
