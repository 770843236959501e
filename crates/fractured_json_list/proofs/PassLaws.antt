-- The names in one pass: one law for each way through `add_name`, `fresh_name`, `pass_name`, `end_at` and `pass_names`.
use mathlib.Core.Path.{◌≡◌, sym, ap, ◌∙◌}
use mathlib.Core.List.{List}
use Prim.Native.Nat.{ℕ, suc, ◌+◌, ◌-◌, ◌≤◌, ◌<◌}
use native.Mathlib.Omega.{arith}
use borrow.Author.Rules.{rules}
use mir.Syntax.{w8}
use mir.Val.{Fits}
use lib.Dec.{eqb, le→leb, leb→le}
use lib.ListN.{length, get_or}
use Rattle.json_model.specs.Bytes.{number, part}
use Rattle.json_model.specs.Reading.{Asked, ask, answers, refuses, need, told}
use Rattle.json_model.specs.declared.Refusal.{Refusal}
use Rattle.std.specs.Prelude.{Some, None, Result}
use Rattle.json_model.proofs.Bytes.{number_small}
use Rattle.json_model.proofs.Reading.{done_answer, passed, then, stops, pass, fail, need_yes, need_no, eq→eqb, over, unlike}
use Rattle.fractured_json_rules.specs.KeyList.{next_name}
use Rattle.fractured_json_keys.specs.Chains.{sought_in}
use Rattle.fractured_json_keys.proofs.ChainLaws.{sought_met, sought_fresh}
use Rattle.fractured_json_list.specs.Passing.{NamePassed, name_passed, added, fresh_in, name_in, names_in, Placed}

-- ---- a name whose text lies inside the list

module _ (list : List ℕ) (at len j : ℕ) (words links t : List ℕ) (ts : t ≡ part list (at + 2) len) where
  pub name_met : None ≡ sought_in list t words links j → refuses 54 at ≡ ask (fresh_in list at len j words links)
  unfolding fresh_in
  name_met e =
      let w = sought_met list (part list (at + 2) len) words links j (rw ts at e) in
      sym (fail _ _ _ _ _ (rw w (λ t. t)))

  pub name_fresh : (b : ℕ) → Some b ≡ sought_in list t words links j → (p : NamePassed) → p ≡ added j b (at + 2) len words links → answers p ≡ ask (fresh_in list at len j words links)
  unfolding fresh_in
  name_fresh b e p q =
      let w = sought_fresh list (part list (at + 2) len) words links j b (rw ts at e) in
      rw (q, w.1) (sym (pass _ _ _ _ _ (rw w.0 tt)))

pub ruleset fresh_laws = (name_met, name_fresh, rules)

-- ---- a name

module _ (list : List ℕ) (at j : ℕ) (words links : List ℕ) (placed : Placed list j at) where
  pub length_outside : length list - at < 2 → refuses 52 at ≡ ask (name_in list at j words links)
  unfolding name_in
  length_outside h = let l : length list < at + 2 = omega arith in sym (fail _ _ _ _ _ (over l))

  module _ (h : 2 ≤ length list - at) (len : ℕ) (e : len ≡ number list at 2) where
    length_inside : at + 2 ≤ length list
    length_inside = omega arith

    pub text_outside : length list - at - 2 < len → refuses 52 (at + 2) ≡ ask (name_in list at j words links)
    unfolding name_in
    text_outside k = let l : length list < next_name list at = omega arith in sym (pass _ _ _ _ _ (le→leb _ _ length_inside) ∙ fail _ _ _ _ _ (over l))

    pub text_inside : len ≤ length list - at - 2 → (q : Asked NamePassed) → q ≡ ask (fresh_in list at len j words links) → q ≡ ask (name_in list at j words links)
    unfolding name_in
    text_inside k q s = let l : next_name list at ≤ length list = omega arith in rw e at s ∙ sym (pass _ _ _ _ _ (le→leb _ _ length_inside) ∙ pass _ _ _ _ _ (le→leb _ _ l))

pub ruleset name_laws = (length_outside, text_outside, text_inside, rules)

-- ---- the end

pub ends : (list : List ℕ) (at : ℕ) → at ≡ length list → answers tt ≡ ask (need (eqb at (length list)) 53 at)
ends list at h = sym (need_yes _ _ _ _ (eq→eqb h))

pub more_bytes : (list : List ℕ) (at : ℕ) → (at ≡ length list → ⊥) → refuses 53 at ≡ ask (need (eqb at (length list)) 53 at)
more_bytes list at h = sym (need_no _ _ _ _ (unlike h))

pub ruleset end_laws = (ends, more_bytes, rules)

-- ---- the names

-- what they say from name j at o on, with the names before it in the words and the links, is x
pub record Going (list : List ℕ) (n o j : ℕ) (words links : List ℕ) (x : Asked (Unit {0})) : Type 0 where
  pub placed : Placed list j o
  pub says : ask (names_in list (n - j) o j words links) ≡ x

pub names_begin : (list : List ℕ) (n : ℕ) (words links : List ℕ) → 3 ≤ length list → Going list n 3 0 words links (ask (names_in list n 3 0 words links))
names_begin list n words links h =
    let z : n - 0 ≡ n = omega arith in
    record { placed = record { inside = h; least = omega arith; most = omega arith }; says = rw z }

-- a name that has been passed lies inside the list
passed_at : (list : List ℕ) (o j next : ℕ) (words links after linked : List ℕ) → answers (name_passed next after linked) ≡ ask (name_in list o j words links)
    → (next ≡ next_name list o) × (next ≤ length list)
unfolding name_in fresh_in added
passed_at list o j next words links after linked e =
    let a = passed _ _ _ _ tt (sym e) in
    let b = passed _ _ _ _ tt a.rest in
    let c = passed _ _ _ _ tt b.rest in
    let q : next ≡ next_name list o = ap (λ (p : NamePassed). p.next) (sym (done_answer c.rest)) in
    let l = leb→le (next_name list o) (length list) b.test in
    (q, omega arith)

module _ (list : List ℕ) (n at j : ℕ) (words links : List ℕ) (x : Asked (Unit {0})) (here : Going list n at j words links x) where
  module _ (h : j < n) where
    one_left : n - j ≡ suc (n - (j + 1))
    one_left = omega arith

    pub name_passed_lem : (next : ℕ) (after linked : List ℕ) → answers (name_passed next after linked) ≡ ask (name_in list at j words links) → ((k : ℕ) → Fits w8 (get_or list k 0))
        → Going list n next (j + 1) after linked x
    unfolding names_in
    name_passed_lem next after linked e g =
        let p = passed_at list at j next words links after linked e in
        let m = number_small list (λ k. (g k).fits) at 2 in
        let f = p.0 in
        record {
          placed = record { inside = p.1; least = omega arith; most = omega arith };
          says = sym (then _ _ _ (sym e)) ∙ (rw one_left at here.says);
        }

    pub name_refused : (r : Refusal) → refuses r.number r.place ≡ ask (name_in list at j words links) → refuses r.number r.place ≡ x
    unfolding names_in
    name_refused r e = sym (stops _ _ _ (sym e)) ∙ (rw one_left at here.says)

  pub names_end : n ≤ j → (v : Result (Unit {0}) Refusal) → told v ≡ ask (need (eqb at (length list)) 53 at) → told v ≡ x
  unfolding names_in
  names_end h v e = let z : n - j ≡ 0 = omega arith in e ∙ (rw z at here.says)

pub ruleset names_laws = (names_begin, name_passed_lem, name_refused, names_end, rules)
