-- The exact value of a bit pattern is the one that the toolchain's account of IEEE 754 gives it: finite exactly where that
-- is, with the same sign and the same magnitude. Proved once, for any format whose fields lie as ours do.
use mathlib.Core.Path.{◌≡◌, refl, sym, ap, ◌∙◌, subst}
use mathlib.Core.Bool.{Bool, true, false, not, cond}
use Prim.Native.Nat.{ℕ, zero, suc, ◌+◌, ◌-◌, ◌*◌, ◌/◌, ◌%◌, ◌^◌, ◌<◌}
use native.Mathlib.Nat.{mul-one, mul_assoc, mul_comm}
use native.Mathlib.Omega.{arith}
use lib.Dec.{T, eqb, eqb→eq}
use lib.Ieee as Ieee
use lib.Ieee.Digits.{Equals, odd_val}
use lib.Ieee.Bits.{cond_no}
use Rattle.json_model.specs.Number.{Float, binary32, binary64, exponent, fraction, negative, finite, significand, magnitude}

-- x is finite, negative where s is true, and m is 2 ^ 1074 times its magnitude
abbrev pub Valued : Ieee.Float → Bool → ℕ → Type 0
Valued Ieee.nan s m = ⊥
Valued (Ieee.inf t) s m = ⊥
Valued (Ieee.fin t n e) s m = (t ≡ s) × Equals (Ieee.fin t n e) m (2 ^ 1074)

-- x is no number
abbrev pub Unvalued : Ieee.Float → Type 0
Unvalued Ieee.nan = Unit {0}
Unvalued (Ieee.inf t) = Unit {0}
Unvalued (Ieee.fin t n e) = ⊥

-- a fraction's two sides times one number
stretched : (x : Ieee.Float) (a c d : ℕ) → Equals x a c → Equals x (a * d) (c * d)
stretched Ieee.nan a c d h = h
stretched (Ieee.inf t) a c d h = h
stretched (Ieee.fin t m e) a c d h =
    sym (mul_assoc (m * Ieee.up e) c d) ∙ ap (λ (y : ℕ). y * d) h ∙ mul_assoc a (Ieee.down e) d ∙ ap (λ (y : ℕ). a * y) (mul_comm (Ieee.down e) d)
    ∙ sym (mul_assoc a d (Ieee.down e))

valued : (x : Ieee.Float) (s : Bool) (m : ℕ) → ((t : Bool) (n : ℕ) (e : _) → x ≡ Ieee.fin t n e → t ≡ s) → Equals x m (2 ^ 1074) → Valued x s m
valued Ieee.nan s m h q = q
valued (Ieee.inf t) s m h q = q
valued (Ieee.fin t n e) s m h q = (h t n e refl, q)

odd_sign : (d : ℕ) (s : Bool) (q k l : ℕ) (t : Bool) (n : ℕ) (e : _) → Ieee.odd d s q k l ≡ Ieee.fin t n e → t ≡ s
unfolding Ieee.odd
odd_sign d s zero k l t n e h = cc
odd_sign d s (suc q) k l t n e h = cc

not_not : (b : Bool) → T (not (not b)) → T b
not_not true h = tt
not_not false h = h

cond_yes : {X : Type 0} (b : Bool) (x y : X) → T b → cond b x y ≡ x
cond_yes true x y t = refl
cond_yes false x y t = absurd t

unvalued : (s b : Bool) → Unvalued (cond b (Ieee.inf s) Ieee.nan)
unvalued s true = tt
unvalued s false = tt

-- f is the toolchain's format and g ours
module _ (f : Ieee.Format) (g : Float)
    (leading : Ieee.hid f ≡ 2 ^ g.p)
    (ones : Ieee.ones f ≡ 2 ^ g.w - 1)
    (top : Ieee.top f ≡ 2 ^ (g.p + g.w))
    (field : (b : ℕ) → b % Ieee.top f / Ieee.hid f ≡ exponent g b)
    (unit : 2 ^ Ieee.low f * 2 ^ g.low ≡ 2 ^ 1074)
  where
    odd_valued : (s : Bool) (q k : ℕ) → Valued (Ieee.odd (Ieee.prec f) s q k (Ieee.low f)) s (q * 2 ^ k * 2 ^ g.low)
    odd_valued s q k =
        let x = Ieee.odd (Ieee.prec f) s q k (Ieee.low f) in
        valued x s (q * 2 ^ k * 2 ^ g.low) (odd_sign (Ieee.prec f) s q k (Ieee.low f))
        (subst (λ (y : ℕ). Equals x (q * 2 ^ k * 2 ^ g.low) y) unit (stretched x (q * 2 ^ k) (2 ^ Ieee.low f) (2 ^ g.low) (odd_val (Ieee.prec f) s q k (Ieee.low f))))

    fields : (s : Bool) (x t : ℕ) → T (not (eqb x (2 ^ g.w - 1))) → Valued (Ieee.of_fields f s x t) s (significand g x t * 2 ^ g.low)
    unfolding Ieee.of_fields
    fields s zero t h =
        subst (λ (y : ℕ). Valued (Ieee.odd (Ieee.prec f) s t 0 (Ieee.low f)) s (y * 2 ^ g.low)) (mul-one t) (odd_valued s t 0)
    fields s (suc x) t h =
        rw (ones, cond_no (eqb (suc x) (2 ^ g.w - 1)) (cond (eqb t 0) (Ieee.inf s) Ieee.nan) (Ieee.odd (Ieee.prec f) s (Ieee.hid f + t) x (Ieee.low f)) h, leading)
        (odd_valued s (2 ^ g.p + t) x)

    agrees : (b : ℕ) → T (finite g b) → Valued (Ieee.of_bits f b) (negative g b) (magnitude g b)
    unfolding Ieee.of_bits finite magnitude
    agrees b h = rw (field b, top, leading) (fields (negative g b) (exponent g b) (fraction g b) h)

    no_fields : (s : Bool) (x t : ℕ) → 0 < 2 ^ g.w - 1 → T (not (not (eqb x (2 ^ g.w - 1)))) → Unvalued (Ieee.of_fields f s x t)
    unfolding Ieee.of_fields
    no_fields s zero t o h = let e : 0 ≡ 2 ^ g.w - 1 = eqb→eq _ _ (not_not (eqb 0 (2 ^ g.w - 1)) h) in absurd (omega arith)
    no_fields s (suc x) t o h = rw (ones, cond_yes (eqb (suc x) (2 ^ g.w - 1)) (cond (eqb t 0) (Ieee.inf s) Ieee.nan) (Ieee.odd (Ieee.prec f) s (Ieee.hid f + t) x (Ieee.low f)) (not_not (eqb (suc x) (2 ^ g.w - 1)) h)) (unvalued s (eqb t 0))

    differs : 0 < 2 ^ g.w - 1 → (b : ℕ) → T (not (finite g b)) → Unvalued (Ieee.of_bits f b)
    unfolding Ieee.of_bits finite
    differs o b h = rw (field b, top, leading) (no_fields (negative g b) (exponent g b) (fraction g b) o h)

-- a finite binary64 has, as our number, the sign and the magnitude that IEEE 754 gives it; any other is none
pub agrees64 : (b : ℕ) → T (finite binary64 b) → Valued (Ieee.of_bits Ieee.binary64 b) (negative binary64 b) (magnitude binary64 b)
agrees64 = agrees Ieee.binary64 binary64 refl refl refl (λ b. omega arith) refl

pub infinite64 : (b : ℕ) → T (not (finite binary64 b)) → Unvalued (Ieee.of_bits Ieee.binary64 b)
infinite64 = differs Ieee.binary64 binary64 refl refl refl (λ b. omega arith) refl (omega arith)

pub agrees32 : (b : ℕ) → T (finite binary32 b) → Valued (Ieee.of_bits Ieee.binary32 b) (negative binary32 b) (magnitude binary32 b)
agrees32 = agrees Ieee.binary32 binary32 refl refl refl (λ b. omega arith) refl

pub infinite32 : (b : ℕ) → T (not (finite binary32 b)) → Unvalued (Ieee.of_bits Ieee.binary32 b)
infinite32 = differs Ieee.binary32 binary32 refl refl refl (λ b. omega arith) refl (omega arith)
