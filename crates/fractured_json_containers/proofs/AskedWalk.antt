-- The questions' walk, one law for each way through `pass_key`, `skip`, `skip_entries` and `skip_entry`.
use mathlib.Core.Path.{◌≡◌, sym, ap, ◌∙◌}
use mathlib.Core.Bool.{Bool, true, false}
use mathlib.Core.List.{List}
use Prim.Native.Nat.{ℕ, ◌+◌, ◌-◌, ◌≤◌, ◌<◌}
use native.Mathlib.Omega.{arith}
use Rattle.std.specs.Prelude.{Ok}
use borrow.Author.Rules.{rules}
use Rattle.json_model.specs.Reading.{Asked, ask, answers, refuses}
use Rattle.json_model.specs.declared.Refusal.{Refusal}
use Rattle.json_model.proofs.Reading.{then, stops}
use Rattle.fractured_json_rules.specs.Verdict.{in_turn, member, value}
use Rattle.fractured_json_rules.specs.Questions.{read_key, pass_key}
use Rattle.fractured_json_values.specs.Opened.{opened_at, entry, opened_of}
use Rattle.fractured_json_containers.specs.Asked.{ReadsKey}
use Rattle.fractured_json_values.specs.declared.values.Open.{Open}
use Rattle.fractured_json_containers.specs.declared.skip.KeyText.{KeyText}
use Rattle.fractured_json_values.proofs.Walks.{value_leaf, value_halts, value_deep, value_inside, turns_done, turn_passes, turn_halts}

module _ (doc list words : List ℕ) (count at levels : ℕ) where
  pub open_halts : (r : Refusal) → refuses r.number r.place ≡ ask (opened_at doc at) → refuses r.number r.place ≡ ask (value (pass_key doc list words count) levels doc at)
  open_halts r h = sym (value_halts (pass_key doc list words count) doc at tt levels _ _ (sym h))

  module _ (o : Open) (os : answers (opened_of o) ≡ ask (opened_at doc at)) where
    pub leaf_ends : (e : ℕ) → o ≡ Open.Leaf e → answers e ≡ ask (value (pass_key doc list words count) levels doc at)
    leaf_ends e h = sym (value_leaf (pass_key doc list words count) doc at tt levels e (sym os ∙ ap (λ x. answers (opened_of x)) h))

    module _ (b : Bool) (n p : ℕ) (h : o ≡ Open.Container p n b) where
      pub too_deep : levels ≡ 0 → refuses 41 at ≡ ask (value (pass_key doc list words count) levels doc at)
      too_deep z = sym (value_deep (pass_key doc list words count) doc at tt levels b n p (sym os ∙ ap (λ x. answers (opened_of x)) h) z)

      pub contents_end : (r : Asked ℕ) → (levels ≡ 0 → ⊥) → r ≡ ask (in_turn (entry b (pass_key doc list words count) (value (pass_key doc list words count) (levels - 1) doc)) n p)
          → r ≡ ask (value (pass_key doc list words count) levels doc at)
      contents_end r z e = e ∙ sym (value_inside (pass_key doc list words count) doc at tt levels b n p (sym os ∙ ap (λ x. answers (opened_of x)) h) z)

pub ruleset skip_laws = (open_halts, leaf_ends, too_deep, contents_end, rules)

-- k of n entries have been passed, and x is what the entries say from the first one on
module _ (doc list words : List ℕ) (count : ℕ) (object : Bool) (below n k at : ℕ) (x : Asked ℕ)
    (here : ask (in_turn (entry object (pass_key doc list words count) (value (pass_key doc list words count) below doc)) (n - k) at) ≡ x) where
  pub none_left : n ≤ k → answers at ≡ x
  none_left h = sym (turns_done _ (n - k) at tt (omega arith)) ∙ here

  module _ (h : k < n) where
    pub entry_passes : (a : ℕ) → answers a ≡ ask (entry object (pass_key doc list words count) (value (pass_key doc list words count) below doc) at)
        → ask (in_turn (entry object (pass_key doc list words count) (value (pass_key doc list words count) below doc)) (n - (k + 1)) a) ≡ x
    entry_passes a e =
        let l : n - (k + 1) ≡ n - k - 1 = omega arith in
        rw l (sym (turn_passes _ (n - k) at tt a _ (omega arith) (sym e)) ∙ here)

    pub entry_refused : (r : Refusal) → refuses r.number r.place ≡ ask (entry object (pass_key doc list words count) (value (pass_key doc list words count) below doc) at) → refuses r.number r.place ≡ x
    entry_refused r e = sym (turn_halts _ (n - k) at tt _ _ _ (omega arith) (sym e)) ∙ here

pub ruleset entries_laws = (none_left, entry_passes, entry_refused, rules)

-- the key's end alone
module _ (doc list words : List ℕ) (count at : ℕ) where
  pub stops_at_key : (r : Refusal) → ask (read_key doc list words count at) ≡ refuses r.number r.place → refuses r.number r.place ≡ ask (pass_key doc list words count at)
  unfolding pass_key
  stops_at_key r q = sym (stops _ _ tt q)

  module _ (k : KeyText) (ks : ReadsKey list (ask (read_key doc list words count at)) (Ok k)) where
    pub passes_text : (s l p : ℕ) → k ≡ KeyText.At s l p → answers p ≡ ask (pass_key doc list words count at)
    unfolding pass_key
    passes_text s l p q = let w : ReadsKey list (ask (read_key doc list words count at)) (Ok (KeyText.At s l p)) = rw q at ks in sym (then _ _ tt w)

    pub passes_name : (j p : ℕ) → k ≡ KeyText.Name j p → answers p ≡ ask (pass_key doc list words count at)
    unfolding pass_key
    passes_name j p q = let w : ReadsKey list (ask (read_key doc list words count at)) (Ok (KeyText.Name j p)) = rw q at ks in sym (then _ _ tt w.0)

pub ruleset pass_laws = (passes_text, passes_name, stops_at_key, rules)

module _ (doc list words : List ℕ) (count : ℕ) (object : Bool) (below at : ℕ) where
  pub as_value : (r : Asked ℕ) → object ≡ false → r ≡ ask (value (pass_key doc list words count) below doc at)
      → r ≡ ask (entry object (pass_key doc list words count) (value (pass_key doc list words count) below doc) at)
  unfolding entry
  as_value r e h = rw e h

  module _ (o : object ≡ true) where
    pub after_key : (p : ℕ) (r : Asked ℕ) → answers p ≡ ask (pass_key doc list words count at) → r ≡ ask (value (pass_key doc list words count) below doc p)
        → r ≡ ask (entry object (pass_key doc list words count) (value (pass_key doc list words count) below doc) at)
    unfolding entry member
    after_key p r q h = rw o (h ∙ sym (then _ _ tt (sym q)))

    pub key_halts : (r : Refusal) → refuses r.number r.place ≡ ask (pass_key doc list words count at)
        → refuses r.number r.place ≡ ask (entry object (pass_key doc list words count) (value (pass_key doc list words count) below doc) at)
    unfolding entry member
    key_halts r q = rw o (sym (stops _ _ tt (sym q)))

pub ruleset entry_laws = (as_value, after_key, key_halts, rules)
