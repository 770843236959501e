-- The check's walk, one law for each way through `value`, `contents` and `entry`.
use mathlib.Core.Path.{◌≡◌, refl, sym, ◌∙◌}
use mathlib.Core.Bool.{Bool, true, false}
use mathlib.Core.List.{List}
use Prim.Native.Nat.{ℕ, ◌+◌, ◌-◌, ◌^◌, ◌≤◌, ◌<◌}
use borrow.Author.Rules.{rules}
use lib.ListN.{length}
use mir.Syntax.{w64}
use mir.Val.{Fits}
use native.Mathlib.Omega.{arith}
use Rattle.json_model.specs.Reading.{Outcome, halt, done, Reading, ask, answers, refuses, follow, ◌>>=◌}
use Rattle.json_model.proofs.Reading.{then, stops}
use Rattle.json_model.specs.declared.Refusal.{Refusal}
use Rattle.fractured_json_rules.specs.Verdict.{in_turn, member, value}
use Rattle.fractured_json_values.specs.Opened.{opened_at, entry, opened_of}
use Rattle.fractured_json_check.specs.Known.{Known}
use Rattle.fractured_json_check.specs.Table.{Table, table, key_in, keyed_in}
use Rattle.fractured_json_values.specs.declared.values.Open.{Open}
use Rattle.fractured_json_values.proofs.Walks.{value_leaf, value_halts, value_deep, value_inside, turns_done, turn_passes, turn_halts}

module _ (doc : List ℕ) (names at levels count : ℕ) (words links : List ℕ) where
  pub open_halts : (r : Refusal) → refuses r.number r.place ≡ ask (opened_at doc at) → halt r.number r.place (table count words links) ≡ value (key_in doc names) levels doc at (table count words links)
  open_halts r e = sym (value_halts (key_in doc names) doc at _ levels _ _ (sym e))

  module _ (o : Open) (os : answers (opened_of o) ≡ ask (opened_at doc at)) where
    pub leaf_ends : (e : ℕ) → o ≡ Open.Leaf e → done e (table count words links) ≡ value (key_in doc names) levels doc at (table count words links)
    leaf_ends e h = sym (value_leaf (key_in doc names) doc at _ levels e (sym (rw h at os)))

    module _ (b : Bool) (n p : ℕ) (h : o ≡ Open.Container p n b) where
      pub too_deep : levels ≡ 0 → halt 41 at (table count words links) ≡ value (key_in doc names) levels doc at (table count words links)
      too_deep z = sym (value_deep (key_in doc names) doc at _ levels b n p (sym (rw h at os)) z)

      pub contents_end : (r : Outcome Table ℕ) → (levels ≡ 0 → ⊥) → r ≡ in_turn (entry b (key_in doc names) (value (key_in doc names) (levels - 1) doc)) n p (table count words links)
          → r ≡ value (key_in doc names) levels doc at (table count words links)
      contents_end r z e = e ∙ sym (value_inside (key_in doc names) doc at _ levels b n p (sym (rw h at os)) z)

pub ruleset value_laws = (leaf_ends, open_halts, too_deep, contents_end, rules)

-- x is what the entries say from the first one on, of which i have been passed
module _ (doc : List ℕ) (names : ℕ) (object : Bool) (below n i at count : ℕ) (words links : List ℕ) (x : Outcome Table ℕ)
    (here : in_turn (entry object (key_in doc names) (value (key_in doc names) below doc)) (n - i) at (table count words links) ≡ x) where
  pub none_left : n ≤ i → done at (table count words links) ≡ x
  none_left h = let l : n - i ≤ 0 = omega arith in sym (turns_done _ (n - i) at _ l) ∙ here

  module _ (h : i < n) where
    some_left : 0 < n - i
    some_left = omega arith

    pub entry_passes : (a c : ℕ) (after linked : List ℕ) → done a (table c after linked) ≡ entry object (key_in doc names) (value (key_in doc names) below doc) at (table count words links)
        → in_turn (entry object (key_in doc names) (value (key_in doc names) below doc)) (n - (i + 1)) a (table c after linked) ≡ x
    entry_passes a c after linked e = let l : n - (i + 1) ≡ n - i - 1 = omega arith in rw l (sym (turn_passes _ (n - i) at _ a _ some_left (sym e)) ∙ here)

    pub entry_refused : (r : Refusal) (c : ℕ) (after linked : List ℕ) → halt r.number r.place (table c after linked) ≡ entry object (key_in doc names) (value (key_in doc names) below doc) at (table count words links)
        → halt r.number r.place (table c after linked) ≡ x
    entry_refused r c after linked e = sym (turn_halts _ (n - i) at _ _ _ _ some_left (sym e)) ∙ here

pub ruleset contents_laws = (none_left, entry_passes, entry_refused, rules)

-- ---- an entry: where its value starts, and then the value

module _ (doc : List ℕ) (names : ℕ) (object : Bool) (at : ℕ) where
  entry_is : (val : ℕ → Reading Table ℕ) (s : Table) → entry object (key_in doc names) val at s ≡ (keyed_in object doc names at >>= val) s
  unfolding entry member keyed_in ◌>>=◌ follow
  entry_is val s = go object
    where
      go : (b : Bool) → entry b (key_in doc names) val at s ≡ (keyed_in b doc names at >>= val) s
      go true = refl
      go false = refl

  module _ (below count : ℕ) (words links : List ℕ) where
    pub after_key : (v c : ℕ) (after linked : List ℕ) (r : Outcome Table ℕ) → done v (table c after linked) ≡ keyed_in object doc names at (table count words links)
        → r ≡ value (key_in doc names) below doc v (table c after linked) → r ≡ entry object (key_in doc names) (value (key_in doc names) below doc) at (table count words links)
    after_key v c after linked r e h = h ∙ sym (entry_is _ _ ∙ then _ _ _ (sym e))

    pub key_halts : (r : Refusal) (c : ℕ) (after linked : List ℕ) → halt r.number r.place (table c after linked) ≡ keyed_in object doc names at (table count words links)
        → halt r.number r.place (table c after linked) ≡ entry object (key_in doc names) (value (key_in doc names) below doc) at (table count words links)
    key_halts r c after linked e = sym (entry_is _ _ ∙ stops _ _ _ (sym e))

pub ruleset entry_laws = (after_key, key_halts, rules)

-- ---- where the value of an entry starts

module _ (doc : List ℕ) (names : ℕ) (object : Bool) (at count : ℕ) (words links : List ℕ) where
  pub no_key : object ≡ false → done at (table count words links) ≡ keyed_in object doc names at (table count words links)
  unfolding keyed_in
  no_key e = rw e

  pub key_read : object ≡ true → (r : Outcome Table ℕ) → r ≡ key_in doc names at (table count words links) → r ≡ keyed_in object doc names at (table count words links)
  unfolding keyed_in
  key_read e r h = rw e h

  pub key_known : object ≡ true → (r : Bool) → Known doc names count at r → r ≡ true → done (at + 1) (table count words links) ≡ keyed_in object doc names at (table count words links)
  unfolding keyed_in Known
  key_known e r k t = rw e (sym ((k t).1 words links))

pub after_fits : (doc : List ℕ) (names count at : ℕ) (r : Bool) → Known doc names count at r → r ≡ true → length doc < 2 ^ 32 → Fits w64 (at + 1)
unfolding Known
after_fits doc names count at r k t l = let i = (k t).0 in record { fits = omega arith }

pub ruleset keyed_laws = (no_key, key_read, key_known, after_fits, rules)
