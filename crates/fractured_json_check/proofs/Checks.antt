-- One law for each way through `check`, `check_document` and the walk from the root.
use mathlib.Core.Path.{◌≡◌, refl, sym, ap, ◌∙◌}
use mathlib.Core.Bool.{Bool, true, false}
use mathlib.Core.List.{List, []}
use Prim.Native.Nat.{ℕ, zero, suc, ◌^◌, ◌<◌}
use borrow.Author.Rules.{rules}
use lib.Dec.{eqb, eqb_refl}
use lib.ListN.{length, replicate}
use Rattle.json_model.specs.Limits.{deepest}
use Rattle.json_model.specs.Reading.{Outcome, halt, done, Asked, ask, answers, refuses, answer, follow, ◌>>=◌, need}
use Rattle.json_model.specs.declared.Refusal.{Refusal}
use Rattle.std.specs.Prelude.{Result, Ok, Err}
use Rattle.json_model.proofs.Reading.{unlike, then, stops, need_yes, need_no, carry, carry_then, carry_need}
use Rattle.json_model.proofs.Sizes.{word_holds}
use Rattle.fractured_json_rules.specs.Meaning.{Keys}
use Rattle.fractured_json_rules.specs.KeyList.{names_from, count_in, key_list}
use Rattle.fractured_json_rules.specs.Verdict.{header, in_turn, value, check_key, document, check}
use Rattle.fractured_json_rules.specs.KeyTable.{room_of, stored, Checked, checked_by, checked}
use Rattle.fractured_json_values.specs.Opened.{entry}
use Rattle.fractured_json_keys.proofs.Chained.{all_zero}
use Rattle.fractured_json_values.proofs.Carried.{carry_header}
use Rattle.fractured_json_values.proofs.Headers.{header_opens}
use Rattle.fractured_json_check.specs.Told.{told_checked}
use Rattle.fractured_json_check.specs.Table.{Table, table, key_in, out, Walked, walked_by, walked, told_walk}
use Rattle.fractured_json_check.proofs.Stored.{walk_is}

-- ---- the walk from the root, with links that are all 0

-- one entry of an array is its value
one_entry : (doc : List ℕ) (names : ℕ) (s : Table) → in_turn (entry false (key_in doc names) (value (key_in doc names) deepest doc)) 1 3 s ≡ value (key_in doc names) deepest doc 3 s
unfolding in_turn entry ◌>>=◌ follow
one_entry doc names s = go (value (key_in doc names) deepest doc 3 s)
  where
    go : (r : Outcome Table ℕ) → follow r answer ≡ r
    go (halt n p t) = refl
    go (done a t) = refl

pub root_walked : (doc : List ℕ) (names : ℕ) (words : List ℕ) (n first : ℕ) (w : Result ℕ Refusal) (count : ℕ) (after linked : List ℕ)
    → out w count after linked ≡ in_turn (entry false (key_in doc names) (value (key_in doc names) deepest doc)) 1 3 (table first words (replicate n 0)) → first ≡ 0 → told_walk w count after ≡ walked doc names words
root_walked doc names words n first w count after linked e z = walk_is doc names words (replicate n 0) (all_zero n) w count after linked (rw z at e ∙ one_entry doc names _)

pub ruleset root_laws = (root_walked, rules)

-- ---- the check: what the walk over the root value ends with, and 42

closed : ℕ → Walked → Checked
closed len w = close w.end
  where
    close : Asked ℕ → Checked
    close (halt n p u) = record { verdict = refuses n p; count = w.count; words = w.words }
    close (done a u) = record { verdict = ask (need (eqb a len) 42 a); count = w.count; words = w.words }

closes : (words : List ℕ) (len : ℕ) (r : Outcome Keys ℕ) → checked_by words (follow r (λ past. need (eqb past len) 42 past)) ≡ closed len (walked_by words r)
unfolding closed follow need
closes words len (halt n p ks) = refl
closes words len (done a ks) = go (eqb a len)
  where
    go : (b : Bool) → checked_by words (need b 42 a ks) ≡ record { verdict = need b 42 a tt; count = length ks; words = stored ks words }
    go true = refl
    go false = refl

-- the header passes, and so every place and length fits a word of the key table
pub document_short : (doc : List ℕ) → answers tt ≡ ask (header doc) → length doc < 2 ^ 32
document_short doc h = let o = header_opens doc (sym h) in word_holds (length doc) o.short

module _ (doc : List ℕ) (names : ℕ) (words : List ℕ) where
  pub header_refused : (r : Refusal) (count : ℕ) → refuses r.number r.place ≡ ask (header doc) → count ≡ 0 → told_checked (record { verdict = Err r; count = count }) words ≡ checked_by words (document (room_of words) doc names [])
  unfolding document stored
  header_refused r count h z = rw z (ap (checked_by words) (sym (stops _ _ _ (carry_header doc [] ∙ ap (carry []) (sym h)))))

  module _ (h : answers tt ≡ ask (header doc)) (w : Result ℕ Refusal) (count : ℕ) (after : List ℕ) (ws : told_walk w count after ≡ walked doc names words) where
    goes_on : document (room_of words) doc names [] ≡ (value (check_key (room_of words) doc names) deepest doc 3 >>= λ past. need (eqb past (length doc)) 42 past) []
    unfolding document
    goes_on = then _ _ _ (carry_header doc [] ∙ ap (carry []) (sym h))

    checked_is : checked_by words (document (room_of words) doc names []) ≡ closed (length doc) (told_walk w count after)
    unfolding ◌>>=◌
    checked_is = ap (checked_by words) goes_on ∙ (closes words (length doc) (value (check_key (room_of words) doc names) deepest doc 3 []) ∙ ap (closed (length doc)) (sym ws))

  module _ (h : answers tt ≡ ask (header doc)) (count : ℕ) (after : List ℕ) where
    pub walk_refused : (r : Refusal) (v : Result (Unit {0}) Refusal) → told_walk (Err r) count after ≡ walked doc names words → v ≡ Err r
        → told_checked (record { verdict = v; count = count }) after ≡ checked_by words (document (room_of words) doc names [])
    unfolding closed
    walk_refused r v ws e = rw e (sym (checked_is h (Err r) count after ws))

    module _ (a : ℕ) (ws : told_walk (Ok a) count after ≡ walked doc names words) where
      ends : checked_by words (document (room_of words) doc names []) ≡ record { verdict = ask (need (eqb a (length doc)) 42 a); count = count; words = after }
      unfolding closed
      ends = checked_is h (Ok a) count after ws

      pub bytes_after : (v : Result (Unit {0}) Refusal) → (a ≡ length doc → ⊥) → v ≡ Err (record { place = a; number = 42 }) → told_checked (record { verdict = v; count = count }) after ≡ checked_by words (document (room_of words) doc names [])
      bytes_after v n e = rw e (sym (ends ∙ ap (λ x. record { verdict = x; count = count; words = after }) (need_no _ _ _ _ (unlike n))))

      pub accepts : a ≡ length doc → record { verdict = answers tt; count = count; words = after } ≡ checked_by words (document (room_of words) doc names [])
      accepts n = sym (ends ∙ ap (λ x. record { verdict = x; count = count; words = after }) (need_yes _ _ _ _ (rw n (eqb_refl (length doc)))))

pub ruleset document_laws = (document_short, header_refused, walk_refused, bytes_after, accepts, rules)

-- ---- the key list before it

carry_names : {S : Type 0} (list : List ℕ) (n o : ℕ) (ks : Keys) (s : S) → names_from list n o ks s ≡ carry s (ask (names_from list n o ks))
unfolding names_from
carry_names list zero o ks s = carry_need _ _ _ s
carry_names list (suc n) o ks s =
    carry_then _ _ _ _ s (carry_need _ _ _ s) λ _. carry_then _ _ _ _ s (carry_need _ _ _ s) λ _. carry_then _ _ _ _ s (carry_need _ _ _ s) λ _. carry_names list n _ _ s

carry_list : {S : Type 0} (list : List ℕ) (s : S) → key_list list s ≡ carry s (ask (key_list list))
unfolding key_list
carry_list list s =
    carry_then _ _ _ _ s (carry_need _ _ _ s) λ _. carry_then _ _ _ _ s (carry_need _ _ _ s) λ _. carry_then _ _ _ _ s (carry_need _ _ _ s) λ _. carry_names list _ _ _ s

-- a bad list refuses the whole check, and the lent words stay as they were
pub bad_list : (doc list words : List ℕ) (n p : ℕ) → ask (key_list list) ≡ refuses n p → checked doc list words ≡ record { verdict = refuses n p; count = 0; words = words }
unfolding check stored
bad_list doc list words n p e = ap (checked_by words) (stops _ _ _ (carry_list list [] ∙ ap (carry []) e))

module _ (doc list words : List ℕ) where
  pub list_refused : (r : Refusal) (count : ℕ) → refuses r.number r.place ≡ ask (key_list list) → count ≡ 0 → told_checked (record { verdict = Err r; count = count }) words ≡ checked doc list words
  list_refused r count h z = rw z (sym (bad_list doc list words r.number r.place (sym h)))

  pub list_passed : (names : ℕ) (v : Result (Unit {0}) Refusal) (count : ℕ) (after : List ℕ) → answers tt ≡ ask (key_list list) → names ≡ count_in list
      → told_checked (record { verdict = v; count = count }) after ≡ checked_by words (document (room_of words) doc names []) → told_checked (record { verdict = v; count = count }) after ≡ checked doc list words
  unfolding check
  list_passed names v count after h q a = a ∙ rw q (ap (checked_by words) (sym (then _ _ _ (carry_list list [] ∙ ap (carry []) (sym h)))))

pub ruleset check_laws = (list_refused, list_passed, rules)
