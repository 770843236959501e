-- A key as a question reads it, one law for each way through `back_key`, `numbered_key` and `read_key`.
use mathlib.Core.Path.{◌≡◌, ◌∙◌}
use mathlib.Core.List.{List}
use Prim.Native.Nat.{ℕ, ◌+◌, ◌-◌, ◌*◌, ◌≤◌, ◌<◌}
use native.Mathlib.Omega.{arith}
use borrow.Author.Rules.{rules}
use lib.Dec.{leb, ltb, le→leb, lt→ltb, ltb→lt}
use lib.ListN.{length, get_or}
use Rattle.json_model.specs.Reading.{Reading, ask, answers, refuses, ◌>>=◌, need}
use Rattle.std.specs.Prelude.{Option, Some, None, Result}
use Rattle.json_model.specs.declared.Refusal.{Refusal}
use Rattle.json_model.proofs.Reading.{over, then, stops, pass, fail}
use Rattle.fractured_json_rules.specs.ByteTables.{key_form_of}
use Rattle.fractured_json_rules.specs.Verdict.{byte_at, numeral, key_number_at}
use Rattle.fractured_json_rules.specs.KeyList.{count_in}
use Rattle.fractured_json_rules.specs.KeyTable.{room_of}
use Rattle.fractured_json_rules.specs.Questions.{text_key, back_key, name_key, read_key}
use Rattle.fractured_json_theorems.proofs.Readers.{text_is_lem, text_past}
use Rattle.fractured_json_values.specs.Heads.{key_head, key_head_of, key_number_by, numbered_by}
use Rattle.fractured_json_containers.specs.Asked.{in_document, in_list, ReadsKey}
use Rattle.fractured_json_containers.specs.declared.skip.KeyText.{KeyText}
use Rattle.fractured_json_values.specs.declared.types.KeyKind.{KeyKind}
use Rattle.fractured_json_values.specs.declared.types.KeyKind.TheVariants.{Immediate, Global}
use Rattle.fractured_json_values.proofs.KeyHeads.{byte_refused, head_reserved, number_refused, number_read}

-- ---- a back reference

module _ (doc words : List ℕ) (count at number past : ℕ) where
  pub over_count : count ≤ number → ask (back_key doc words count at (numeral number past)) ≡ refuses 38 at
  unfolding back_key
  over_count h = fail _ _ _ _ tt (λ t. let l = ltb→lt number count t in omega arith)

  module _ (h : number < count) (room : ℕ) (rs : room ≡ room_of words) where
    pub over_room : room < count → ask (back_key doc words count at (numeral number past)) ≡ refuses 38 at
    unfolding back_key
    over_room l = let o : room_of words < count = omega arith in pass _ _ _ _ tt (lt→ltb _ _ h) ∙ fail _ _ _ _ tt (over o)

    module _ (l : count ≤ room) (start len : ℕ) (s : start ≡ get_or words (2 * number) 0) (n : len ≡ get_or words (2 * number + 1) 0) where
      two : {A : Type 0} (f : Unit {0} → Reading (Unit {0}) A) → (need (ltb number count) 38 at >>= λ _. need (leb count (room_of words)) 38 at >>= f) tt ≡ f tt tt
      two f = let o : count ≤ room_of words = omega arith in pass _ _ _ _ tt (lt→ltb _ _ h) ∙ pass _ _ _ _ tt (le→leb _ _ o)

      pub pair_outside : length doc < start + len → ask (back_key doc words count at (numeral number past)) ≡ refuses 38 at
      unfolding back_key
      pair_outside o = two _ ∙ fail _ _ _ _ tt (over (rw (s, n) at o))

      pub pair_read : start + len ≤ length doc → ask (back_key doc words count at (numeral number past)) ≡ answers (in_document start len past)
      unfolding back_key
      pair_read o = two _ ∙ (pass _ _ _ _ tt (le→leb _ _ (rw (s, n) at o)) ∙ rw (s, n))

pub ruleset back_laws = (over_count, over_room, pair_outside, pair_read, rules)

-- ---- a key by its kind

module _ (doc list words : List ℕ) (count at number past : ℕ) (kind : KeyKind) where
  pub text_outside : kind ≡ Immediate → past ≤ length doc → length doc - past < number → ask (numbered_by (text_key doc at) (back_key doc words count at) (name_key list at) kind (numeral number past)) ≡ refuses 35 at
  unfolding text_key
  text_outside e p h = rw e (stops _ _ tt (text_past doc at _ tt (omega arith)))

  pub text_read : kind ≡ Immediate → past ≤ length doc → number ≤ length doc - past → ask (numbered_by (text_key doc at) (back_key doc words count at) (name_key list at) kind (numeral number past)) ≡ answers (in_document past number (past + number))
  unfolding text_key
  text_read e p h = rw e (then _ _ tt (text_is_lem doc at _ tt (omega arith)))

  module _ (e : kind ≡ Global) (n : ℕ) (ns : n ≡ count_in list) where
    pub as_name : number < n → ask (numbered_by (text_key doc at) (back_key doc words count at) (name_key list at) kind (numeral number past)) ≡ answers (in_list list number past)
    unfolding name_key
    as_name h = let l : number < count_in list = omega arith in rw e (pass _ _ _ _ tt (lt→ltb _ _ l))

    pub as_unlisted : n ≤ number → ask (numbered_by (text_key doc at) (back_key doc words count at) (name_key list at) kind (numeral number past)) ≡ refuses 38 at
    unfolding name_key
    as_unlisted h = rw e (fail _ _ _ _ tt (λ t. let l = ltb→lt number (count_in list) t in omega arith))

pub ruleset numbered_laws = (text_outside, text_read, as_name, as_unlisted, rules)

-- ---- a key at a place

module _ (doc list words : List ℕ) (count at : ℕ) where
  pub key_past : (r : Refusal) → ask (byte_at doc at at) ≡ refuses r.number r.place → ask (read_key doc list words count at) ≡ refuses r.number r.place
  unfolding read_key
  key_past r e = byte_refused doc at _ _ _ tt r e

  module _ (b : ℕ) (i : ask (byte_at doc at at) ≡ answers b) where
    pub key_reserved : None ≡ key_head_of (key_form_of b) → ask (read_key doc list words count at) ≡ refuses 36 at
    unfolding read_key
    key_reserved e = head_reserved doc at _ _ _ tt b i e

    module _ (kind : KeyKind) (number : Option ℕ) (h : Some (key_head kind number) ≡ key_head_of (key_form_of b)) where
      pub key_refused : (r : Refusal) → ask (key_number_at doc at (key_number_by number)) ≡ refuses r.number r.place → ask (read_key doc list words count at) ≡ refuses r.number r.place
      unfolding read_key
      key_refused r e = number_refused doc at _ _ _ tt b i kind number h r e

      pub key_by_number : (n p : ℕ) (k : Result KeyText Refusal) → ask (key_number_at doc at (key_number_by number)) ≡ answers (numeral n p)
          → ReadsKey list (ask (numbered_by (text_key doc at) (back_key doc words count at) (name_key list at) kind (numeral n p))) k → ReadsKey list (ask (read_key doc list words count at)) k
      unfolding read_key
      key_by_number n p k e q = rw (number_read doc at (text_key doc at) (back_key doc words count at) (name_key list at) (tt {0}) b i kind number h n p e) q

pub ruleset read_key_laws = (key_past, key_reserved, key_refused, key_by_number, rules)
