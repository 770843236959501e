-- What every question reads first, one law for each way through `open_question` and `wanted`; and what goes on after it.
use mathlib.Core.Path.{◌≡◌, sym, ◌∙◌}
use mathlib.Core.List.{List}
use Prim.Native.Nat.{ℕ, ◌≤◌, ◌<◌}
use borrow.Author.Rules.{rules}
use borrow.Author.Tests.{eq-eqb, ne_eqb}
use lib.Dec.{le→leb}
use lib.ListN.{length}
use Rattle.json_model.specs.Choose.{choose}
use Rattle.json_model.specs.Reading.{Reading, Asked, ask, answers, refuses, ◌>>=◌, ◌>>◌}
use Rattle.json_model.specs.declared.Refusal.{Refusal}
use Rattle.json_model.proofs.Reading.{over, then, stops, need_yes, need_no}
use Rattle.std.specs.Prelude.{Option, Some, None, Result}
use Rattle.fractured_json_rules.specs.ByteTables.{form_of}
use Rattle.fractured_json_rules.specs.KeyList.{key_list}
use Rattle.fractured_json_rules.specs.Verdict.{header, numeral, byte_at}
use Rattle.fractured_json_rules.specs.Verdict as Rules
use Rattle.fractured_json_rules.specs.Questions.{opening, Wanted, wanted_here}
use Rattle.fractured_json_values.specs.Heads.{head_of}
use Rattle.fractured_json_values.specs.Opened.{sized_at, ReadsNumeral}
use Rattle.fractured_json_scalars.specs.Asked.{place_of, wanted_head, wanted_in, wanted_type}
use Rattle.fractured_json_values.specs.declared.types.Head.{Head}
use Rattle.fractured_json_values.specs.declared.values.Numeral.{Numeral}
use Rattle.fractured_json_values.proofs.Opening.{head_width}
use Rattle.fractured_json_values.proofs.Walks.{then_same}
use Rattle.fractured_json_scalars.proofs.Forms.{type_of, wanted_form}

-- ---- 51 to 54, 31 to 34, and 20

module _ (doc list : List ℕ) (at : ℕ) where
  pub list_refused : (r : Refusal) → refuses r.number r.place ≡ ask (key_list list) → refuses r.number r.place ≡ ask (opening doc list at)
  unfolding opening
  list_refused r e = sym (stops _ _ tt (sym e))

  module _ (good : answers tt ≡ ask (key_list list)) where
    pub header_refused : (r : Refusal) → refuses r.number r.place ≡ ask (header doc) → refuses r.number r.place ≡ ask (opening doc list at)
    unfolding opening
    header_refused r e = sym (then _ _ tt (sym good) ∙ stops _ _ tt (sym e))

    module _ (e : answers tt ≡ ask (header doc)) where
      pub cursor_low : at < 3 → refuses 20 at ≡ ask (opening doc list at)
      unfolding opening
      cursor_low h = sym (then _ _ tt (sym good) ∙ (then _ _ tt (sym e) ∙ need_no _ _ _ tt (over h)))

      pub cursor_good : 3 ≤ at → answers tt ≡ ask (opening doc list at)
      unfolding opening
      cursor_good h = sym (then _ _ tt (sym good) ∙ (then _ _ tt (sym e) ∙ need_yes _ _ _ tt (le→leb _ _ h)))

pub ruleset opening_laws = (list_refused, header_refused, cursor_low, cursor_good, rules)

-- ---- a question: refused by the opening, or what it asks after it

module _ {A : Type 0} (doc list : List ℕ) (at : ℕ) (rest : Reading (Unit {0}) A) where
  pub opening_refused : (r : Refusal) → refuses r.number r.place ≡ ask (opening doc list at) → refuses r.number r.place ≡ ask (opening doc list at >> rest)
  opening_refused r e = sym (stops _ _ tt (sym e))

  pub opening_passed : (r : Asked A) → answers tt ≡ ask (opening doc list at) → r ≡ ask rest → r ≡ ask (opening doc list at >> rest)
  opening_passed r e h = h ∙ sym (then _ _ tt (sym e))

-- ---- a length, by the type that is wanted

module _ (doc : List ℕ) (at want : ℕ) where
  pub wanted_refused : (r : Refusal) → ask (byte_at doc at at) ≡ refuses r.number r.place → ask (wanted_in doc at want) ≡ refuses r.number r.place
  unfolding wanted_in
  wanted_refused r q = stops _ _ tt q

  module _ (b : ℕ) (q : ask (byte_at doc at at) ≡ answers b) where
    by_head : (o : Option Head) → o ≡ head_of (form_of b) → ask (wanted_in doc at want) ≡ ask (wanted_head doc at want o)
    unfolding wanted_in
    by_head o os = then _ _ tt q ∙ rw os

    pub wanted_reserved : None ≡ head_of (form_of b) → ask (wanted_in doc at want) ≡ refuses 36 at
    unfolding wanted_head
    wanted_reserved os = by_head None os

    module _ (h : Head) (hs : Some h ≡ head_of (form_of b)) where
      pub wanted_sized : (c : Result Numeral Refusal) → place_of h.kind ≡ want → ReadsNumeral (length doc) (ask (sized_at doc at h.width h.tiny)) c → ReadsNumeral (length doc) (ask (wanted_in doc at want)) c
      unfolding wanted_head choose
      wanted_sized c k s =
          let e : ask (wanted_in doc at want) ≡ ask (sized_at doc at h.width h.tiny) = by_head _ hs ∙ rw (eq-eqb (place_of h.kind) want k) in
          rw e s

      pub wanted_other : (place_of h.kind ≡ want → ⊥) → ask (wanted_in doc at want) ≡ refuses 21 at
      unfolding wanted_head choose
      wanted_other k = by_head _ hs ∙ rw (ne_eqb (place_of h.kind) want k)

pub ruleset wanted_laws = (head_width, wanted_refused, wanted_reserved, wanted_sized, wanted_other, rules)

-- ---- a question of one type, which goes on with its length

module _ {A : Type 0} (doc : List ℕ) (at : ℕ) (want : Wanted) (rest : Rules.Numeral → Reading (Unit {0}) A) where
  wanted_is : ask (wanted_here doc at want) ≡ ask (wanted_type doc at (type_of want))
  unfolding wanted_here wanted_in
  wanted_is = then_same _ _ _ tt (λ b s. wanted_form doc at want (form_of b) s)

  pub length_refused : (r : Refusal) → ask (wanted_type doc at (type_of want)) ≡ refuses r.number r.place → ask (wanted_here doc at want >>= rest) ≡ refuses r.number r.place
  length_refused r q = stops _ _ tt (wanted_is ∙ q)

  pub length_read : (n p : ℕ) → ask (wanted_type doc at (type_of want)) ≡ answers (numeral n p) → ask (wanted_here doc at want >>= rest) ≡ ask (rest (numeral n p))
  length_read n p q = then _ _ tt (wanted_is ∙ q)
