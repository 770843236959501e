-- The check of the list and the room for its names: one law for each way through `check_list` and the functions of room.rt.
use mathlib.Core.Path.{◌≡◌, sym, ◌∙◌}
use mathlib.Core.List.{List, []}
use Prim.Native.Nat.{ℕ, ◌/◌, ◌≤◌, ◌<◌, min}
use native.Mathlib.Omega.{arith}
use borrow.Author.Rules.{rules}
use lib.Dec.{eqb, le→leb, lt→ltb}
use lib.ListN.{length, get_or, replicate}
use Rattle.json_model.specs.Reading.{ask, refuses, need, told}
use Rattle.json_model.specs.declared.Refusal.{Refusal}
use Rattle.std.specs.Prelude.{Result}
use Rattle.json_model.proofs.Reading.{pass, fail, over, past, unlike, eq→eqb}
use Rattle.fractured_json_rules.specs.KeyList.{count_in, names_from, key_list}
use Rattle.fractured_json_list.specs.Passing.{names_in}
use Rattle.fractured_json_list.proofs.Alike.{names_alike}

-- ---- room for the names

pub names_passed : (list : List ℕ) (n m : ℕ) (v : Result (Unit {0}) Refusal) → told v ≡ ask (names_in list n 3 0 (replicate m 0) (replicate m 0)) → min n (length list / 2) ≤ m / 2 → told v ≡ ask (names_from list n 3 [])
names_passed list n m v e h = e ∙ names_alike list n m h

pub ruleset room_laws = (names_passed, rules)

-- ---- the check

module _ (list : List ℕ) where
  pub no_config : length list ≡ 0 → refuses 52 0 ≡ ask (key_list list)
  unfolding key_list
  no_config h = let l : length list ≤ 0 = omega arith in sym (fail _ _ _ _ _ (past l))

  module _ (a : length list ≡ 0 → ⊥) where
    long : 0 < length list
    long = omega arith

    pub other_config : (get_or list 0 0 ≡ 0 → ⊥) → refuses 51 0 ≡ ask (key_list list)
    unfolding key_list
    other_config h = sym (pass _ _ _ _ _ (lt→ltb _ _ long) ∙ fail _ _ _ _ _ (unlike h))

    module _ (b : get_or list 0 0 ≡ 0) where
      pub no_count : length list < 3 → refuses 52 1 ≡ ask (key_list list)
      unfolding key_list
      no_count h = sym (pass _ _ _ _ _ (lt→ltb _ _ long) ∙ (pass _ _ _ _ _ (eq→eqb b) ∙ fail _ _ _ _ _ (over h)))

      module _ (c : 3 ≤ length list) (n : ℕ) (e : n ≡ count_in list) (v : Result (Unit {0}) Refusal) where
        pub names_read : told v ≡ ask (names_from list n 3 []) → told v ≡ ask (key_list list)
        unfolding key_list
        names_read q = rw e at q ∙ sym (pass _ _ _ _ _ (lt→ltb _ _ long) ∙ (pass _ _ _ _ _ (eq→eqb b) ∙ pass _ _ _ _ _ (le→leb _ _ c)))

        pub no_names_lem : n ≡ 0 → told v ≡ ask (need (eqb 3 (length list)) 53 3) → told v ≡ ask (key_list list)
        unfolding names_from
        no_names_lem z q = names_read (rw z q)

pub ruleset check_laws = (no_config, other_config, no_count, names_read, no_names_lem, rules)
