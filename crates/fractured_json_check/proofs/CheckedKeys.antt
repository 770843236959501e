-- A key as the check reads it, one law for each way through `new_key`, `numbered` and `check_key`.
use mathlib.Core.Path.{◌≡◌, refl, sym, subst, ◌∙◌}
use mathlib.Core.Bool.{false}
use mathlib.Core.List.{List}
use Prim.Native.Nat.{ℕ, ◌+◌, ◌-◌, ◌/◌, ◌≤◌, ◌<◌}
use native.Mathlib.Omega.{arith}
use Rattle.std.specs.Prelude.{Option, Some, None}
use borrow.Author.Rules.{rules}
use mir.Syntax.{w64}
use mir.Val.{Fits}
use lib.Dec.{T, ltb, lt→ltb, ltb→lt}
use lib.ListN.{length}
use Rattle.json_model.specs.Bytes.{part}
use Rattle.json_model.specs.Reading.{Outcome, halt, done, ask, answers, refuses}
use Rattle.json_model.specs.declared.Refusal.{Refusal}
use Rattle.json_model.proofs.Reading.{then, stops, pass, fail}
use Rattle.fractured_json_rules.specs.ByteTables.{key_form_of}
use Rattle.fractured_json_rules.specs.Verdict.{byte_at, numeral, key_number_at, listed_key}
use Rattle.fractured_json_rules.specs.KeyTable.{room_of}
use Rattle.fractured_json_theorems.proofs.Readers.{kept_is, keep_is, text_is_lem, text_past}
use Rattle.fractured_json_values.specs.Heads.{key_head, key_head_of, key_number_by, numbered_by}
use Rattle.fractured_json_check.specs.Known.{Known}
use Rattle.fractured_json_check.specs.Table.{Table, table, fresh_key_in, new_key_in, old_key_in, key_in}
use Rattle.fractured_json_values.specs.declared.types.KeyKind.{KeyKind}
use Rattle.fractured_json_values.specs.declared.types.KeyKind.TheVariants.{Back, Global}
use Rattle.fractured_json_keys.specs.Passed.{with_pair}
use Rattle.fractured_json_keys.specs.Chains.{sought_in, linked_in}
use Rattle.fractured_json_keys.proofs.ChainLaws.{sought_met, sought_fresh}
use Rattle.fractured_json_values.proofs.KeyHeads.{byte_refused, head_reserved, head_numbered, number_refused, number_read}

-- ---- an immediate key

module _ (doc : List ℕ) (at number past count : ℕ) (words links : List ℕ) where
  pub text_outside : past ≤ length doc → length doc - past < number → halt 35 at (table count words links) ≡ new_key_in doc at (numeral number past) (table count words links)
  unfolding new_key_in
  text_outside p h = sym (stops _ _ _ (text_past doc at _ _ (omega arith)))

  module _ (p : past ≤ length doc) (h : number ≤ length doc - past) (t : List ℕ) (ts : t ≡ part doc past number) where
    inside : past + number ≤ length doc
    inside = omega arith

    pub text_met : None ≡ sought_in doc t words links count → halt 39 at (table count words links) ≡ new_key_in doc at (numeral number past) (table count words links)
    unfolding new_key_in
    text_met e =
        let w = sought_met doc (part doc past number) words links count (rw ts at e) in
        sym (then _ _ _ (text_is_lem doc at _ _ inside) ∙ (kept_is _ _ ∙ fail _ _ _ _ _ (rw w (λ t. t))))

    pub text_fresh : (b : ℕ) → Some b ≡ sought_in doc t words links count → (r : Outcome Table ℕ) → r ≡ fresh_key_in b at (numeral number past) (table count words links)
        → r ≡ new_key_in doc at (numeral number past) (table count words links)
    unfolding new_key_in
    text_fresh b e r q =
        let w = sought_fresh doc (part doc past number) words links count b (rw ts at e) in
        rw w.1 at q ∙ sym (then _ _ _ (text_is_lem doc at _ _ inside) ∙ (kept_is _ _ ∙ pass _ _ _ _ _ (rw w.0 tt)))

pub ruleset new_laws = (text_outside, text_met, text_fresh, rules)

-- ---- a fresh one

module _ (at number past count b : ℕ) (words links : List ℕ) (room : ℕ) (r : room ≡ room_of words) where
  pub no_room : room ≤ count → halt 40 at (table count words links) ≡ fresh_key_in b at (numeral number past) (table count words links)
  unfolding fresh_key_in
  no_room l = sym (kept_is _ _ ∙ fail _ _ _ _ _ (λ t. let m = ltb→lt count (room_of words) t in omega arith))

  pub key_passed : count < room → (after linked : List ℕ) → after ≡ with_pair words count past number → linked ≡ linked_in links count b
      → done (past + number) (table (count + 1) after linked) ≡ fresh_key_in b at (numeral number past) (table count words links)
  unfolding fresh_key_in
  key_passed l after linked a k =
      let m : count < room_of words = omega arith in
      rw (a, k) (sym (kept_is _ _ ∙ (pass _ _ _ _ _ (lt→ltb _ _ m) ∙ keep_is _ _ _)))

pub room_held : (words : List ℕ) (count room : ℕ) → room ≡ room_of words → count < room → count < length words / 2
unfolding room_of
room_held words count room e h = omega arith

pub count_fits : (words : List ℕ) (count room : ℕ) → room ≡ room_of words → count < room → Fits w64 (count + 1)
unfolding room_of
count_fits words count room e h = record { fits = omega arith }

pub ruleset fresh_laws = (no_room, key_passed, room_held, count_fits, rules)

-- ---- a key by its kind

module _ (doc : List ℕ) (names at number past count : ℕ) (words links : List ℕ) (kind : KeyKind) where
  pub as_old : kind ≡ Back → number < count
      → done past (table count words links) ≡ numbered_by (new_key_in doc at) (old_key_in at) (listed_key names at) kind (numeral number past) (table count words links)
  unfolding old_key_in
  as_old k h = rw k (sym (kept_is _ _ ∙ pass _ _ _ _ _ (lt→ltb _ _ h)))

  pub as_unknown : kind ≡ Back → count ≤ number
      → halt 38 at (table count words links) ≡ numbered_by (new_key_in doc at) (old_key_in at) (listed_key names at) kind (numeral number past) (table count words links)
  unfolding old_key_in
  as_unknown k h = rw k (sym (kept_is _ _ ∙ fail _ _ _ _ _ (λ t. let l = ltb→lt number count t in omega arith)))

  pub as_listed : kind ≡ Global → number < names
      → done past (table count words links) ≡ numbered_by (new_key_in doc at) (old_key_in at) (listed_key names at) kind (numeral number past) (table count words links)
  unfolding listed_key
  as_listed k h = rw k (sym (pass _ _ _ _ _ (lt→ltb _ _ h)))

  pub as_unlisted : kind ≡ Global → names ≤ number
      → halt 38 at (table count words links) ≡ numbered_by (new_key_in doc at) (old_key_in at) (listed_key names at) kind (numeral number past) (table count words links)
  unfolding listed_key
  as_unlisted k h = rw k (sym (fail _ _ _ _ _ (λ t. let l = ltb→lt number names t in omega arith)))

pub ruleset numbered_laws = (as_old, as_unknown, as_listed, as_unlisted, rules)

-- ---- a key at a place

module _ (doc : List ℕ) (names at count : ℕ) (words links : List ℕ) where
  pub key_past : (r : Refusal) → ask (byte_at doc at at) ≡ refuses r.number r.place → halt r.number r.place (table count words links) ≡ key_in doc names at (table count words links)
  unfolding key_in
  key_past r e = sym (byte_refused doc at _ _ _ _ r e)

  module _ (b : ℕ) (i : ask (byte_at doc at at) ≡ answers b) where
    pub key_reserved : None ≡ key_head_of (key_form_of b) → halt 36 at (table count words links) ≡ key_in doc names at (table count words links)
    unfolding key_in
    key_reserved e = sym (head_reserved doc at _ _ _ _ b i e)

    module _ (kind : KeyKind) (number : Option ℕ) (h : Some (key_head kind number) ≡ key_head_of (key_form_of b)) where
      pub key_refused : (r : Refusal) → ask (key_number_at doc at (key_number_by number)) ≡ refuses r.number r.place → halt r.number r.place (table count words links) ≡ key_in doc names at (table count words links)
      unfolding key_in
      key_refused r e = sym (number_refused doc at _ _ _ _ b i kind number h r e)

      pub key_by_number : (n p : ℕ) (z : Outcome Table ℕ) → ask (key_number_at doc at (key_number_by number)) ≡ answers (numeral n p)
          → z ≡ numbered_by (new_key_in doc at) (old_key_in at) (listed_key names at) kind (numeral n p) (table count words links) → z ≡ key_in doc names at (table count words links)
      unfolding key_in
      key_by_number n p z e q = q ∙ sym (number_read doc at _ _ _ _ b i kind number h n p e)

pub ruleset check_key_laws = (key_past, key_reserved, key_refused, key_by_number, rules)

-- ---- a key that is known by its byte

pub unknown : (doc : List ℕ) (names count at : ℕ) → Known doc names count at false
unfolding Known
unknown doc names count at e = absurd (subst T (sym e) tt)

module _ (doc : List ℕ) (names count at number b : ℕ) (q : ask (byte_at doc at at) ≡ answers b) (i : at < length doc) where
  pub known_below : Some (key_head Back (Some number)) ≡ key_head_of (key_form_of b) → Known doc names count at (ltb number count)
  unfolding Known key_in key_number_at
  known_below h e = (
    i,
    λ words links.
        head_numbered doc at _ _ _ _ b q Back (Some number) h
        ∙ (then _ _ _ refl ∙ sym (as_old doc names at number (at + 1) count words links Back refl (ltb→lt number count (subst T (sym e) tt)))),
  )

  pub listed_below : Some (key_head Global (Some number)) ≡ key_head_of (key_form_of b) → Known doc names count at (ltb number names)
  unfolding Known key_in key_number_at
  listed_below h e = (
    i,
    λ words links.
        head_numbered doc at _ _ _ _ b q Global (Some number) h
        ∙ (then _ _ _ refl ∙ sym (as_listed doc names at number (at + 1) count words links Global refl (ltb→lt number names (subst T (sym e) tt)))),
  )

pub ruleset known_laws = (unknown, known_below, listed_below, rules)
