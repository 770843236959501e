-- The first member by its key, one law for each way through `compare_key`, `look_at` and `find`.
use mathlib.Core.Path.{◌≡◌, refl, sym, ap, ◌∙◌}
use mathlib.Core.Bool.{Bool, true, false}
use mathlib.Core.List.{List}
use Prim.Native.Nat.{ℕ, zero, suc, ◌+◌, ◌-◌}
use native.Mathlib.Omega.{arith}
use Rattle.std.specs.Prelude.{Option, Ok}
use Rattle.std.specs.declared.ops.ControlFlow.{ControlFlow}
use Rattle.std.specs.declared.ops.ControlFlow.TheVariants.{Continue, Break}
use borrow.Author.Rules.{rules}
use Rattle.json_model.specs.Choose.{choose}
use Rattle.json_model.specs.Reading.{Asked, ask, answers, refuses, ◌>>=◌}
use Rattle.json_model.specs.declared.Refusal.{Refusal}
use Rattle.json_model.proofs.Reading.{then, stops}
use Rattle.fractured_json_rules.specs.Verdict.{value}
use Rattle.fractured_json_rules.specs.Questions.{read_key, pass_key, inner, Found, value_at, absent, find_from, find_in}
use Rattle.fractured_json_answers.specs.Told.{found_of}
use Rattle.fractured_json_containers.specs.Asked.{ComparesAs, Looks}

-- ---- one member

module _ (doc list words : List ℕ) (count : ℕ) (x : List ℕ) (later at : ℕ) where
  key_halts : (l : ℕ) (r : Refusal) → ask (read_key doc list words count at) ≡ refuses r.number r.place → ask (find_from doc list words count x l at) ≡ refuses r.number r.place
  unfolding find_from
  key_halts zero r q = stops _ _ tt q
  key_halts (suc l) r q = stops _ _ tt q

  pub key_refused : (r : Refusal) → ask (read_key doc list words count at) ≡ refuses r.number r.place → ask (find_from doc list words count x later at) ≡ refuses r.number r.place
  key_refused r q = key_halts later r q

  module _ (b : Bool) (past : ℕ) (c : ComparesAs doc list words count x at b past) where
    here_by : (l : ℕ) → b ≡ true → ask (find_from doc list words count x l at) ≡ answers (value_at past)
    unfolding find_from choose
    here_by zero e = then _ _ tt c.read ∙ rw (c.alike, c.ends, e)
    here_by (suc l) e = then _ _ tt c.read ∙ rw (c.alike, c.ends, e)

    pub key_here : b ≡ true → ask (find_from doc list words count x later at) ≡ answers (value_at past)
    key_here e = here_by later e

    module _ (e : b ≡ false) where
      pub last_key : later ≡ 0 → ask (find_from doc list words count x later at) ≡ answers absent
      unfolding find_from choose
      last_key z = rw z (then _ _ tt c.read ∙ rw (c.alike, e))

      past_key : (l : ℕ) → ask (find_from doc list words count x (suc l) at) ≡ (value (pass_key doc list words count) inner doc past >>= λ next. find_from doc list words count x l next) tt
      unfolding find_from choose
      past_key l = then _ _ tt c.read ∙ rw (c.alike, c.ends, e)

      module _ (f : later ≡ 0 → ⊥) where
        one_more : later ≡ suc (later - 1)
        one_more = omega (arith, f)

        pub value_refused : (r : Refusal) → refuses r.number r.place ≡ ask (value (pass_key doc list words count) inner doc past) → ask (find_from doc list words count x later at) ≡ refuses r.number r.place
        value_refused r p = ap (λ l. ask (find_from doc list words count x l at)) one_more ∙ (past_key (later - 1) ∙ stops _ _ tt (sym p))

        pub next_member : (o : ℕ) → answers o ≡ ask (value (pass_key doc list words count) inner doc past) → ask (find_from doc list words count x later at) ≡ ask (find_from doc list words count x (later - 1) o)
        next_member o p = ap (λ l. ask (find_from doc list words count x l at)) one_more ∙ (past_key (later - 1) ∙ then _ _ tt (sym p))

pub ruleset look_laws = (key_refused, key_here, last_key, value_refused, next_member, rules)

-- ---- all members

find_more : (doc list words : List ℕ) (count : ℕ) (x : List ℕ) (l o : ℕ) → ask (find_in doc list words count x (suc l) o) ≡ ask (find_from doc list words count x l o)
unfolding find_in
find_more doc list words count x l o = refl

-- n members are left, and z is what the members say from the first one on
module _ (doc list words : List ℕ) (count : ℕ) (x : List ℕ) (n at : ℕ) (z : Asked Found) (here : ask (find_in doc list words count x n at) ≡ z) where
  pub none_left : n ≡ 0 → answers absent ≡ z
  unfolding find_in
  none_left h = rw h at here

  module _ (later : ℕ) (h : n ≡ later + 1) where
    from_here : ask (find_from doc list words count x later at) ≡ z
    unfolding find_in
    from_here = let e : n ≡ suc later = omega arith in rw e at here

    pub look_refused : (r : Refusal) → ask (find_from doc list words count x later at) ≡ refuses r.number r.place → refuses r.number r.place ≡ z
    look_refused r q = sym q ∙ from_here

    module _ (l : ControlFlow (Option ℕ) ℕ) (ls : Looks doc list words count x later at (Ok l)) where
      pub found_here : (p : Option ℕ) → l ≡ Break p → answers (found_of p) ≡ z
      found_here p q = let w : Looks doc list words count x later at (Ok (Break p)) = rw q at ls in sym w ∙ from_here

      pub look_on : (o : ℕ) → l ≡ Continue o → ask (find_in doc list words count x later o) ≡ z
      look_on o q =
          let w : Looks doc list words count x later at (Ok (Continue o)) = rw q at ls in
          let more = w.0 in
          let e : later ≡ suc (later - 1) = omega (arith, more) in
          ap (λ m. ask (find_in doc list words count x m o)) e ∙ (find_more doc list words count x (later - 1) o ∙ (sym w.1 ∙ from_here))

pub ruleset find_laws = (none_left, look_refused, found_here, look_on, rules)
