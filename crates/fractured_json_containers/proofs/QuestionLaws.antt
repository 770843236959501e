-- One law for each way through the questions of questions.rt: first what they ask after the opening, then the questions
-- themselves.
use mathlib.Core.Path.{◌≡◌, sym, ◌∙◌}
use mathlib.Core.Bool.{true, false}
use mathlib.Core.List.{List}
use Prim.Native.Nat.{ℕ, ◌≤◌, ◌<◌}
use native.Mathlib.Omega.{arith}
use Rattle.std.specs.Prelude.{Ok}
use borrow.Author.Rules.{rules}
use lib.Dec.{lt→ltb, ltb→lt}
use Rattle.json_model.specs.Limits.{deepest}
use Rattle.json_model.specs.Reading.{Asked, ask, answers, refuses}
use Rattle.json_model.specs.declared.Refusal.{Refusal}
use Rattle.json_model.proofs.Reading.{step, then, stops, pass, fail}
use Rattle.fractured_json_rules.specs.KeyList.{key_list}
use Rattle.fractured_json_rules.specs.Verdict.{numeral, in_turn, value}
use Rattle.fractured_json_rules.specs.Questions.{opening, KeyRead, read_key, pass_key, inner, end_of, an_object, an_array, element_from, element_here, element_at, MemberAt, member_from, member_here, member_at, Found, find_in, first_here, first_member, key_at}
use Rattle.fractured_json_values.specs.Opened.{entry}
use Rattle.fractured_json_containers.specs.Asked.{ReadsKey}
use Rattle.fractured_json_containers.specs.declared.skip.KeyText.{KeyText}
use Rattle.fractured_json_list.proofs.FindLaws.{answer_names}
use Rattle.fractured_json_scalars.specs.Asked.{wanted_type}
use Rattle.fractured_json_values.specs.declared.types.ValueType.TheVariants.{Object, Array}
use Rattle.fractured_json_scalars.proofs.Entering.{opening_refused, opening_passed, length_refused, length_read}

-- ---- element i

module _ (doc list words : List ℕ) (count at i : ℕ) where
  pub element_past : (n first : ℕ) → n ≤ i → refuses 22 at ≡ ask (element_from doc list words count at i n first)
  unfolding element_from
  element_past n first h = sym (fail _ _ _ _ tt (λ t. let l = ltb→lt i n t in omega arith))

  pub element_walked : (n first : ℕ) (r : Asked ℕ) → i < n → r ≡ ask (in_turn (entry false (pass_key doc list words count) (value (pass_key doc list words count) inner doc)) i first)
      → r ≡ ask (element_from doc list words count at i n first)
  unfolding element_from entry
  element_walked n first r h e = e ∙ sym (pass _ _ _ _ tt (lt→ltb _ _ h))

  pub element_refused : (r : Refusal) → ask (wanted_type doc at Array) ≡ refuses r.number r.place → refuses r.number r.place ≡ ask (element_here doc list words count at i)
  unfolding element_here
  element_refused r q = sym (length_refused doc at an_array _ r q)

  pub element_read : (n p : ℕ) (r : Asked ℕ) → ask (wanted_type doc at Array) ≡ answers (numeral n p) → r ≡ ask (element_from doc list words count at i n p)
      → r ≡ ask (element_here doc list words count at i)
  unfolding element_here
  element_read n p r q e = e ∙ sym (length_read doc at an_array _ n p q)

pub ruleset element_from_laws = (element_past, element_walked, rules)

pub ruleset element_here_laws = (element_refused, element_read, rules)

-- ---- member j

module _ (doc list words : List ℕ) (count at j : ℕ) where
  pub member_past : (n first : ℕ) → n ≤ j → refuses 22 at ≡ ask (member_from doc list words count at j n first)
  unfolding member_from
  member_past n first h = sym (fail _ _ _ _ tt (λ t. let l = ltb→lt j n t in omega arith))

  module _ (n first : ℕ) (h : j < n) where
    pub members_refused : (r : Refusal) → refuses r.number r.place ≡ ask (in_turn (entry true (pass_key doc list words count) (value (pass_key doc list words count) inner doc)) j first)
        → refuses r.number r.place ≡ ask (member_from doc list words count at j n first)
    unfolding member_from entry
    members_refused r q = sym (pass _ _ _ _ tt (lt→ltb _ _ h) ∙ stops _ _ tt (sym q))

    module _ (o : ℕ) (q : answers o ≡ ask (in_turn (entry true (pass_key doc list words count) (value (pass_key doc list words count) inner doc)) j first)) where
      pub key_refused : (r : Refusal) → refuses r.number r.place ≡ ask (pass_key doc list words count o) → refuses r.number r.place ≡ ask (member_from doc list words count at j n first)
      unfolding member_from entry
      key_refused r e = sym (pass _ _ _ _ tt (lt→ltb _ _ h) ∙ (then _ _ tt (sym q) ∙ stops _ _ tt (sym e)))

      pub member_found : (p : ℕ) → answers p ≡ ask (pass_key doc list words count o) → answers (record { key = o; value = p }) ≡ ask (member_from doc list words count at j n first)
      unfolding member_from entry
      member_found p e = sym (pass _ _ _ _ tt (lt→ltb _ _ h) ∙ (then _ _ tt (sym q) ∙ then _ _ tt (sym e)))

  pub member_refused : (r : Refusal) → ask (wanted_type doc at Object) ≡ refuses r.number r.place → refuses r.number r.place ≡ ask (member_here doc list words count at j)
  unfolding member_here
  member_refused r q = sym (length_refused doc at an_object _ r q)

  pub member_read : (n p : ℕ) (r : Asked MemberAt) → ask (wanted_type doc at Object) ≡ answers (numeral n p) → r ≡ ask (member_from doc list words count at j n p)
      → r ≡ ask (member_here doc list words count at j)
  unfolding member_here
  member_read n p r q e = e ∙ sym (length_read doc at an_object _ n p q)

pub ruleset member_from_laws = (member_past, members_refused, key_refused, member_found, rules)

pub ruleset member_here_laws = (member_refused, member_read, rules)

-- ---- the first member by key

module _ (doc list words : List ℕ) (count at : ℕ) (x : List ℕ) where
  pub find_refused : (r : Refusal) → ask (wanted_type doc at Object) ≡ refuses r.number r.place → refuses r.number r.place ≡ ask (first_here doc list words count at x)
  unfolding first_here
  find_refused r q = sym (length_refused doc at an_object _ r q)

  pub find_read : (n p : ℕ) (r : Asked Found) → ask (wanted_type doc at Object) ≡ answers (numeral n p) → r ≡ ask (find_in doc list words count x n p) → r ≡ ask (first_here doc list words count at x)
  unfolding first_here
  find_read n p r q e = e ∙ sym (length_read doc at an_object _ n p q)

pub ruleset first_here_laws = (find_refused, answer_names, find_read, rules)

-- ---- a key

module _ (doc list words : List ℕ) (count at : ℕ) (k : KeyText) (ks : ReadsKey list (ask (read_key doc list words count at)) (Ok k)) where
  pub name_number : (j p : ℕ) → k ≡ KeyText.Name j p → j < 65_536
  name_number j p q =
      let w : ReadsKey list (ask (read_key doc list words count at)) (Ok (KeyText.Name j p)) = rw q at ks in
      w.2

pub ruleset key_here_laws = (name_number, rules)

-- ---- the questions: refused by the opening, or what they ask after it

module _ (doc list words : List ℕ) (count at : ℕ) where
  pub end_closed : (r : Refusal) → refuses r.number r.place ≡ ask (opening doc list at) → refuses r.number r.place ≡ ask (end_of doc list words count at)
  unfolding end_of
  end_closed r e = opening_refused doc list at _ r e

  pub end_opened : (r : Asked ℕ) → answers tt ≡ ask (opening doc list at) → r ≡ ask (value (pass_key doc list words count) deepest doc at) → r ≡ ask (end_of doc list words count at)
  unfolding end_of
  end_opened r e h = opening_passed doc list at _ r e h

  pub element_closed : (i : ℕ) (r : Refusal) → refuses r.number r.place ≡ ask (opening doc list at) → refuses r.number r.place ≡ ask (element_at doc list words count at i)
  unfolding element_at
  element_closed i r e = opening_refused doc list at _ r e

  pub element_opened : (i : ℕ) (r : Asked ℕ) → answers tt ≡ ask (opening doc list at) → r ≡ ask (element_here doc list words count at i) → r ≡ ask (element_at doc list words count at i)
  unfolding element_at
  element_opened i r e h = opening_passed doc list at _ r e h

  pub member_closed : (j : ℕ) (r : Refusal) → refuses r.number r.place ≡ ask (opening doc list at) → refuses r.number r.place ≡ ask (member_at doc list words count at j)
  unfolding member_at
  member_closed j r e = opening_refused doc list at _ r e

  pub member_opened : (j : ℕ) (r : Asked MemberAt) → answers tt ≡ ask (opening doc list at) → r ≡ ask (member_here doc list words count at j) → r ≡ ask (member_at doc list words count at j)
  unfolding member_at
  member_opened j r e h = opening_passed doc list at _ r e h

  pub first_closed : (x : List ℕ) (r : Refusal) → refuses r.number r.place ≡ ask (opening doc list at) → refuses r.number r.place ≡ ask (first_member doc list words count at x)
  unfolding first_member
  first_closed x r e = opening_refused doc list at _ r e

  pub first_opened : (x : List ℕ) (r : Asked Found) → answers tt ≡ ask (opening doc list at) → r ≡ ask (first_here doc list words count at x) → r ≡ ask (first_member doc list words count at x)
  unfolding first_member
  first_opened x r e h = opening_passed doc list at _ r e h

  pub key_closed : (r : Refusal) → refuses r.number r.place ≡ ask (opening doc list at) → refuses r.number r.place ≡ ask (key_at doc list words count at)
  unfolding key_at
  key_closed r e = opening_refused doc list at _ r e

  pub key_opened : (r : Asked KeyRead) → answers tt ≡ ask (opening doc list at) → r ≡ ask (read_key doc list words count at) → r ≡ ask (key_at doc list words count at)
  unfolding key_at
  key_opened r e h = opening_passed doc list at _ r e h

-- opened, the key list is good
pub list_good : (doc list : List ℕ) (at : ℕ) → answers tt ≡ ask (opening doc list at) → ask (key_list list) ≡ answers tt
unfolding opening
list_good doc list at e = (step _ _ tt (sym e)).first

pub ruleset end_laws = (end_closed, end_opened, rules)

pub ruleset element_laws = (element_closed, element_opened, rules)

pub ruleset member_laws = (member_closed, member_opened, rules)

pub ruleset first_member_laws = (list_good, first_closed, first_opened, rules)

pub ruleset key_laws = (key_closed, key_opened, rules)
