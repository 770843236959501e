-- One law for each way through the questions of questions.rt: first what they ask after the opening, then the questions
-- themselves.
use mathlib.Core.Path.{◌≡◌, sym, ◌∙◌}
use mathlib.Core.List.{List}
use Prim.Native.Nat.{ℕ, ◌-◌, ◌≤◌, ◌<◌}
use native.Mathlib.Omega.{arith}
use borrow.Author.Rules.{rules}
use lib.ListN.{length}
use Rattle.json_model.specs.Reading.{Asked, ask, answers, refuses}
use Rattle.json_model.specs.declared.Span.{Span}
use Rattle.json_model.specs.declared.Refusal.{Refusal}
use Rattle.json_model.proofs.Reading.{then, stops}
use Rattle.fractured_json_rules.specs.ByteTables.{form_of}
use Rattle.fractured_json_rules.specs.Verdict.{byte_at, numeral}
use Rattle.fractured_json_rules.specs.Questions.{opening, Kind, kind_by, kind_here, kind, Bits, number_by, number_here, number_at, a_string, string_here, string_at}
use Rattle.fractured_json_scalars.specs.Asked.{wanted_type}
use Rattle.fractured_json_values.specs.declared.types.ValueType.TheVariants.{String}
use Rattle.fractured_json_scalars.proofs.Entering.{opening_refused, opening_passed, length_refused, length_read}
use Rattle.fractured_json_theorems.proofs.Readers.{text_is_lem, text_past}

-- ---- its kind, and its number

module _ (doc : List ℕ) (at : ℕ) where
  pub kind_refused : (r : Refusal) → ask (byte_at doc at at) ≡ refuses r.number r.place → refuses r.number r.place ≡ ask (kind_here doc at)
  unfolding kind_here
  kind_refused r q = sym (stops _ _ tt q)

  pub kind_read : (b : ℕ) (r : Asked Kind) → ask (byte_at doc at at) ≡ answers b → r ≡ ask (kind_by doc at (form_of b)) → r ≡ ask (kind_here doc at)
  unfolding kind_here
  kind_read b r q h = h ∙ sym (then _ _ tt q)

  pub number_refused : (r : Refusal) → ask (byte_at doc at at) ≡ refuses r.number r.place → refuses r.number r.place ≡ ask (number_here doc at)
  unfolding number_here
  number_refused r q = sym (stops _ _ tt q)

  pub number_read : (b : ℕ) (r : Asked Bits) → ask (byte_at doc at at) ≡ answers b → r ≡ ask (number_by doc at b (form_of b)) → r ≡ ask (number_here doc at)
  unfolding number_here
  number_read b r q h = h ∙ sym (then _ _ tt q)

pub ruleset kind_here_laws = (kind_refused, kind_read, rules)

pub ruleset number_here_laws = (number_refused, number_read, rules)

-- ---- its string

module _ (doc : List ℕ) (at : ℕ) where
  pub string_refused : (r : Refusal) → ask (wanted_type doc at String) ≡ refuses r.number r.place → refuses r.number r.place ≡ ask (string_here doc at)
  unfolding string_here
  string_refused r q = sym (length_refused doc at a_string _ r q)

  module _ (n p : ℕ) (q : ask (wanted_type doc at String) ≡ answers (numeral n p)) (i : p ≤ length doc) where
    pub text_outside : length doc - p < n → refuses 35 at ≡ ask (string_here doc at)
    unfolding string_here
    text_outside h = sym (length_read doc at a_string _ n p q ∙ stops _ _ tt (text_past doc at _ tt (omega arith)))

    pub text_inside : n ≤ length doc - p → answers (record { place = p; len = n }) ≡ ask (string_here doc at)
    unfolding string_here
    text_inside h = sym (length_read doc at a_string _ n p q ∙ then _ _ tt (text_is_lem doc at _ tt (omega arith)))

pub ruleset string_here_laws = (string_refused, text_outside, text_inside, rules)

-- ---- the questions: refused by the opening, or what they ask after it

module _ (doc list : List ℕ) (at : ℕ) where
  pub kind_closed : (r : Refusal) → refuses r.number r.place ≡ ask (opening doc list at) → refuses r.number r.place ≡ ask (kind doc list at)
  unfolding kind
  kind_closed r e = opening_refused doc list at _ r e

  pub kind_opened : (r : Asked Kind) → answers tt ≡ ask (opening doc list at) → r ≡ ask (kind_here doc at) → r ≡ ask (kind doc list at)
  unfolding kind
  kind_opened r e h = opening_passed doc list at _ r e h

  pub number_closed : (r : Refusal) → refuses r.number r.place ≡ ask (opening doc list at) → refuses r.number r.place ≡ ask (number_at doc list at)
  unfolding number_at
  number_closed r e = opening_refused doc list at _ r e

  pub number_opened : (r : Asked Bits) → answers tt ≡ ask (opening doc list at) → r ≡ ask (number_here doc at) → r ≡ ask (number_at doc list at)
  unfolding number_at
  number_opened r e h = opening_passed doc list at _ r e h

  pub string_closed : (r : Refusal) → refuses r.number r.place ≡ ask (opening doc list at) → refuses r.number r.place ≡ ask (string_at doc list at)
  unfolding string_at
  string_closed r e = opening_refused doc list at _ r e

  pub string_opened : (r : Asked Span) → answers tt ≡ ask (opening doc list at) → r ≡ ask (string_here doc at) → r ≡ ask (string_at doc list at)
  unfolding string_at
  string_opened r e h = opening_passed doc list at _ r e h

pub ruleset kind_laws = (kind_closed, kind_opened, rules)

pub ruleset number_laws = (number_closed, number_opened, rules)

pub ruleset string_laws = (string_closed, string_opened, rules)
