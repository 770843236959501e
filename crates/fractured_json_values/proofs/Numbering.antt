-- The number that a key byte carries, one law for each way through `key_number_at`, `spelled_at` and `after_first`.
use mathlib.Core.Path.{◌≡◌, refl, ap, ◌∙◌}
use mathlib.Core.Bool.{false}
use mathlib.Core.List.{List}
use Prim.Native.Nat.{ℕ, ◌+◌, ◌-◌, ◌*◌, ◌≤◌, ◌<◌}
use native.Mathlib.Omega.{arith}
use borrow.Author.Rules.{rules}
use borrow.Author.Tests.{lt-ltb, le-ltb}
use lib.Dec.{ltb, le→leb}
use lib.ListN.{length, get_or}
use Rattle.json_model.specs.Reading.{ask, answers, refuses}
use Rattle.json_model.specs.declared.Refusal.{Refusal}
use Rattle.json_model.proofs.Reading.{over, then, stops, pass, fail}
use Rattle.std.specs.Prelude.{Result}
use Rattle.fractured_json_rules.specs.ByteTables.{in_byte, spelled}
use Rattle.fractured_json_rules.specs.Verdict.{numeral, after_second, after_first, key_number_at}
use Rattle.fractured_json_theorems.proofs.Readers.{byte_is, byte_past}
use Rattle.fractured_json_values.specs.Opened.{ReadsNumeral}
use Rattle.fractured_json_values.specs.declared.values.Numeral.{Numeral}

module _ (doc : List ℕ) (at : ℕ) where
  -- ---- the first byte

  pub first_short : at < length doc → length doc - at ≤ 1 → ask (key_number_at doc at spelled) ≡ refuses 35 at
  unfolding key_number_at
  first_short i h = stops _ _ tt (byte_past doc (at + 1) at tt (omega arith))

  module _ (b0 : ℕ) (i : at < length doc) (h : 1 < length doc - at) (e : b0 ≡ get_or doc (at + 1) 0) where
    first : ask (key_number_at doc at spelled) ≡ ask (after_first doc at b0 (ltb b0 128))
    unfolding key_number_at
    first = then _ _ tt (byte_is doc (at + 1) at tt (omega arith)) ∙ rw e

    pub first_last : b0 < 128 → ask (key_number_at doc at spelled) ≡ answers (numeral b0 (at + 2))
    unfolding after_first
    first_last l = first ∙ rw (lt-ltb b0 128 l)

    pub first_more : (c : Result Numeral Refusal) → 128 ≤ b0 → ReadsNumeral (length doc) (ask (after_first doc at b0 false)) c → ReadsNumeral (length doc) (ask (key_number_at doc at spelled)) c
    first_more c l s = rw (first ∙ ap (λ b. ask (after_first doc at b0 b)) (le-ltb b0 128 l)) s

  -- ---- the second and the third

  module _ (b0 : ℕ) where
    pub second_short : at + 1 < length doc → length doc - at ≤ 2 → ask (after_first doc at b0 false) ≡ refuses 35 at
    unfolding after_first
    second_short i h = stops _ _ tt (byte_past doc (at + 2) at tt (omega arith))

    module _ (b1 : ℕ) (i : at + 1 < length doc) (h : 2 < length doc - at) (e : b1 ≡ get_or doc (at + 2) 0) where
      second : ask (after_first doc at b0 false) ≡ ask (after_second doc at b0 b1 (ltb b1 128))
      unfolding after_first
      second = then _ _ tt (byte_is doc (at + 2) at tt (omega arith)) ∙ rw e

      pub second_last : b1 < 128 → ask (after_first doc at b0 false) ≡ answers (numeral (b0 - 128 + 128 * b1) (at + 3))
      unfolding after_second
      second_last l = second ∙ rw (lt-ltb b1 128 l)

      module _ (m : 128 ≤ b1) where
        second_more : ask (after_first doc at b0 false) ≡ ask (after_second doc at b0 b1 false)
        second_more = second ∙ ap (λ b. ask (after_second doc at b0 b1 b)) (le-ltb b1 128 m)

        pub third_short : length doc - at ≤ 3 → ask (after_first doc at b0 false) ≡ refuses 35 at
        unfolding after_second
        third_short l = second_more ∙ stops _ _ tt (byte_past doc (at + 3) at tt (omega arith))

        module _ (b2 : ℕ) (k : 3 < length doc - at) (f : b2 ≡ get_or doc (at + 3) 0) where
          pub third_wide : 3 < b2 → ask (after_first doc at b0 false) ≡ refuses 37 (at + 3)
          unfolding after_second
          third_wide l = second_more ∙ (then _ _ tt (byte_is doc (at + 3) at tt (omega arith)) ∙ rw (← f) (fail _ _ _ _ tt (over l)))

          pub third_last : b2 ≤ 3 → ask (after_first doc at b0 false) ≡ answers (numeral (b0 - 128 + 128 * (b1 - 128) + 16_384 * b2) (at + 4))
          unfolding after_second
          third_last l = second_more ∙ (then _ _ tt (byte_is doc (at + 3) at tt (omega arith)) ∙ rw (← f) (pass _ _ _ _ tt (le→leb _ _ l)))

  -- ---- in the key byte

  pub key_number_in_byte : (n : ℕ) → ask (key_number_at doc at (in_byte n)) ≡ answers (numeral n (at + 1))
  unfolding key_number_at
  key_number_in_byte n = refl

pub ruleset first_laws = (first_short, first_last, first_more, rules)

pub ruleset later_laws = (second_short, second_last, third_short, third_wide, third_last, rules)

pub ruleset key_number_laws = (key_number_in_byte, rules)
