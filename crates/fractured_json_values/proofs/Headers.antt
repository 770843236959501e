-- Rules 31 to 34, one law for each way through `read_header`.
use mathlib.Core.Path.{◌≡◌, refl, sym, ◌∙◌}
use mathlib.Core.Bool.{Bool, true, false, ◌&&◌}
use mathlib.Core.List.{List, [], ◌∷◌}
use Prim.Native.Nat.{ℕ, ◌≤◌, ◌<◌}
use native.Mathlib.Omega.{arith}
use borrow.Author.Rules.{rules}
use borrow.Author.Tests.{eqb-true, eqb-false}
use lib.Dec.{eqb, le→leb}
use lib.ListN.{length, get_or}
use Rattle.std.specs.List.{starts_with}
use Rattle.std.specs.Prelude.{nat_eq}
use Rattle.json_model.specs.Limits.{least_fractured, longest}
use Rattle.json_model.specs.Reading.{ask, answers, refuses, answer}
use Rattle.json_model.proofs.Reading.{over, unlike, then, pass, fail, need_no}
use Rattle.fractured_json_rules.specs.Verdict.{header}
use Rattle.fractured_json_theorems.proofs.Readers.{Headed, header_is, header_step}

-- ---- the first two bytes

starts_both : (doc : List ℕ) → get_or doc 0 0 ≡ 0x46 → get_or doc 1 0 ≡ 0x4A → starts_with nat_eq doc (0x46 ∷ 0x4A ∷ []) ≡ true
starts_both [] e f = absurd (omega arith)
starts_both (x ∷ []) e f = absurd (omega arith)
starts_both (x ∷ y ∷ doc) e f = rw (e, f)

first_there : (a b : Bool) → (a && (b && true)) ≡ true → (a ≡ true) × (b ≡ true)
first_there true true e = (refl, refl)
first_there true false e = absurd (cc)
first_there false b e = absurd (cc)

never : (a : Bool) → (a && false) ≡ true → ⊥
never true e = cc
never false e = cc

both_there : (doc : List ℕ) → starts_with nat_eq doc (0x46 ∷ 0x4A ∷ []) ≡ true → (get_or doc 0 0 ≡ 0x46) × (get_or doc 1 0 ≡ 0x4A)
both_there [] e = absurd (cc)
both_there (x ∷ []) e = absurd (never _ e)
both_there (x ∷ y ∷ doc) e = let w = first_there _ _ e in (sym (eqb-true 0x46 x w.0), sym (eqb-true 0x4A y w.1))

-- ---- the rules

module _ (doc : List ℕ) where
  pub too_short : length doc < least_fractured → refuses 31 (length doc) ≡ ask (header doc)
  unfolding header
  too_short h = sym (fail _ _ _ _ tt (over h))

  module _ (a : least_fractured ≤ length doc) where
    pub too_long : longest < length doc → refuses 32 (length doc) ≡ ask (header doc)
    unfolding header
    too_long h = sym (pass _ _ _ _ tt (le→leb _ _ a) ∙ fail _ _ _ _ tt (over h))

    module _ (b : length doc ≤ longest) where
      other_first : (get_or doc 0 0 ≡ 0x46 → ⊥) → refuses 33 0 ≡ ask (header doc)
      unfolding header
      other_first h = sym (pass _ _ _ _ tt (le→leb _ _ a) ∙ (pass _ _ _ _ tt (le→leb _ _ b) ∙ fail _ _ _ _ tt (unlike h)))

      module _ (m0 : get_or doc 0 0 ≡ 0x46) where
        other_second : (get_or doc 1 0 ≡ 0x4A → ⊥) → refuses 33 0 ≡ ask (header doc)
        unfolding header
        other_second h = sym (pass _ _ _ _ tt (le→leb _ _ a) ∙ (pass _ _ _ _ tt (le→leb _ _ b) ∙ (pass _ _ _ _ tt (rw m0 tt) ∙ fail _ _ _ _ tt (unlike h))))

      module _ (t : Bool) (ts : t ≡ starts_with nat_eq doc (0x46 ∷ 0x4A ∷ [])) where
        pub other_magic : t ≡ false → refuses 33 0 ≡ ask (header doc)
        other_magic e = go (eqb (get_or doc 0 0) 0x46) refl
          where
            go : (c : Bool) → eqb (get_or doc 0 0) 0x46 ≡ c → refuses 33 0 ≡ ask (header doc)
            go true q = other_second (eqb-true _ _ q) (λ z. let w : true ≡ false = sym (starts_both doc (eqb-true _ _ q) z) ∙ (sym ts ∙ e) in cc)
            go false q = other_first (eqb-false _ _ q)

        module _ (e : t ≡ true) where
          both : (get_or doc 0 0 ≡ 0x46) × (get_or doc 1 0 ≡ 0x4A)
          both = both_there doc (sym ts ∙ e)

          pub other_config : (get_or doc 2 0 ≡ 0x01 → ⊥) → refuses 34 2 ≡ ask (header doc)
          unfolding header
          other_config h =
              sym (pass _ _ _ _ tt (le→leb _ _ a) ∙ (pass _ _ _ _ tt (le→leb _ _ b) ∙ (pass _ _ _ _ tt (rw both.0 tt) ∙ (pass _ _ _ _ tt (rw both.1 tt) ∙ need_no _ _ _ tt (unlike h)))))

          pub opens : get_or doc 2 0 ≡ 0x01 → answers tt ≡ ask (header doc)
          opens h = sym (header_is doc tt (record { long = a; short = b; magic0 = both.0; magic1 = both.1; config = h }))

pub ruleset header_laws = (too_short, too_long, other_magic, other_config, opens, rules)

-- a document whose header passes
pub header_opens : (doc : List ℕ) → ask (header doc) ≡ answers tt → Headed doc
header_opens doc e = (header_step doc (λ u. answer u) tt (then (header doc) (λ u. answer u) tt e)).0
