-- The 16-bit numbers of the list, and where name j stands: one law for each way through `number_at` and `name_of`.
use mathlib.Core.Path.{◌≡◌, ap, ◌∙◌}
use mathlib.Core.List.{List}
use Prim.Native.Nat.{ℕ, suc, ◌+◌, ◌-◌, ◌≤◌, ◌<◌}
use native.Mathlib.Omega.{arith}
use borrow.Author.Rules.{rules}
use mir.Syntax.{w8, w64}
use mir.Val.{Fits}
use lib.ListN.{length, get_or, get_or-eq_default}
use Rattle.json_model.specs.Bytes.{number}
use Rattle.json_model.proofs.Bytes.{number_small}
use Rattle.fractured_json_rules.specs.KeyList.{next_name, steps, name_of}

-- ---- a 16-bit number

module _ (list : List ℕ) (at : ℕ) where
  pub both_past : length list ≤ at → 0 ≡ number list at 2
  unfolding number
  both_past h =
      let k : length list ≤ at + 1 = omega arith in
      rw (get_or-eq_default list 0 h, get_or-eq_default list 0 k)

  pub second_past : length list - at < 2 → get_or list at 0 ≡ number list at 2
  unfolding number
  second_past h =
      let k : length list ≤ at + 1 = omega arith in
      rw (get_or-eq_default list 0 k) (omega arith)

  module _ (g : (k : ℕ) → Fits w8 (get_or list k 0)) where
    pub byte_fits : Fits w64 (get_or list at 0)
    byte_fits = let l = (g at).fits in record { fits = omega arith }

    pub number_below : (r : ℕ) → r ≡ number list at 2 → r < 65_536
    number_below r e = rw e (number_small list (λ k. (g k).fits) at 2)

pub ruleset number_laws = (both_past, second_past, byte_fits, number_below, rules)

-- ---- name j: the steps that are left after i lead where those from 3 on lead

module _ (list : List ℕ) (at i j : ℕ) (here : steps (next_name list) (j - i) at ≡ steps (next_name list) j 3) where
  pub one_step : (r : ℕ) → r ≡ number list at 2 → i < j → steps (next_name list) (j - (i + 1)) (at + 2 + r) ≡ steps (next_name list) j 3
  unfolding steps
  one_step r e h = let z : j - i ≡ suc (j - (i + 1)) = omega arith in rw e (rw z at here)

  module _ (h : j ≤ i) where
    no_step : at ≡ steps (next_name list) j 3
    unfolding steps
    no_step = let z : j - i ≡ 0 = omega arith in rw z at here

    pub start_is : at + 2 ≡ (name_of list j).start
    unfolding name_of
    start_is = ap (λ o. o + 2) no_step

    pub length_is : (r : ℕ) → r ≡ number list at 2 → r ≡ (name_of list j).len
    unfolding name_of
    length_is r e = e ∙ ap (λ o. number list o 2) no_step

pub ruleset name_laws = (one_step, start_is, length_is, rules)
