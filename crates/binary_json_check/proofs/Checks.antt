-- The whole check, one law for each way through `check`.
use mathlib.Core.Path.{◌≡◌, refl, sym, ap, ◌∙◌}
use mathlib.Core.List.{List}
use Prim.Native.Nat.{ℕ, ◌+◌, ◌-◌, ◌*◌, ◌/◌, ◌%◌, ◌≤◌, ◌<◌}
use native.Mathlib.Omega.{arith}
use borrow.Author.Rules.{rules}
use lib.Dec.{eqb, le→leb}
use lib.ListN.{length, take}
use borrow.Rule.Slice.PartMut.{put_mid}
use mir.Syntax.{w64}
use mir.Val.{Fits}
use Rattle.json_model.specs.Limits.{longest}
use Rattle.json_model.specs.Reading.{Outcome, halt, done, Reading, ◌>>◌, need, ask, refuses}
use Rattle.json_model.specs.declared.Refusal.{Refusal}
use Rattle.json_model.proofs.Reading.{eq→eqb, over, unlike, then, stops, pass, fail, need_yes, need_no, carry}
use Rattle.binary_json_rules.specs.Areas.{low, numbers, count, kind_of}
use Rattle.binary_json_rules.specs.Verdict.{header, slots, root_by, lent, all_marked, check, verdict}
use Rattle.binary_json_rules.specs.Marks.{words, word_place, fill, unmarked}
use Rattle.binary_json_theorems.proofs.Carried.{carry_header, carry_slots}
use Rattle.std.specs.Prelude.{Some, None, Ok}
use Rattle.binary_json_areas.specs.Laid.{Framed, Laid, Indexes}
use Rattle.binary_json_check.specs.Slots.{SlotsRead}
use Rattle.binary_json_check.specs.Taken.{Found}
use Rattle.binary_json_check.specs.Walks.{walk_all}
use Rattle.binary_json_areas.specs.declared.areas.Areas.{Areas}
use Rattle.binary_json_areas.proofs.Headers.{slots_end}
use Rattle.std.proofs.lemmas.List.{length-take-le}
use Rattle.binary_json_check.proofs.MarkLaws.{put_filled, unmarked_part}

pub header_stops : (doc ms : List ℕ) (r : Refusal) → ask (header doc) ≡ refuses r.number r.place → halt r.number r.place ms ≡ verdict doc ms
unfolding check
header_stops doc ms r h = sym (stops _ _ ms (carry_header doc ms ∙ ap (carry ms) h))

module _ (doc : List ℕ) (i c : ℕ) (g : Framed doc i c) where
  pub slots_stop : (ms : List ℕ) (r : Refusal) → ask (slots doc (count doc) 0) ≡ refuses r.number r.place → halt r.number r.place ms ≡ verdict doc ms
  unfolding check
  slots_stop ms r h = sym (then _ _ ms (carry_header doc ms ∙ ap (carry ms) g.passes) ∙ stops _ _ ms (carry_slots doc _ _ ms ∙ ap (carry ms) h))

  module _ (n : ℕ) (h : SlotsRead doc (Ok n)) where
    pub areas_laid : Laid doc (record { index = i; count = c; numbers = n })
    areas_laid =
        let s = slots_end doc i c g in
        let b = h.1 in
        record { framed = g; numbers_is = h.0; texts = omega arith; inside = h.2 }

    pub indexes : Indexes doc (record { index = i; count = c; numbers = n })
    indexes = record { laid = areas_laid; slots_pass = h.3 }

-- the rules from 7 on
unfoldable tree : List ℕ → Reading (List ℕ) (Unit {0})
tree doc = do
  need (eqb ((length doc - numbers doc) % 8) 0) 7 (numbers doc)
  lent doc
  walk_all doc

module _ (doc : List ℕ) (a : Areas) (x : Indexes doc a) (ms : List ℕ) where
  to_tree : verdict doc ms ≡ tree doc ms
  unfolding check tree walk_all
  to_tree = then _ _ ms (carry_header doc ms ∙ ap (carry ms) x.laid.framed.passes) ∙ then _ _ ms (carry_slots doc _ _ ms ∙ ap (carry ms) x.slots_pass)

  pub numbers_refused : ((length doc - a.numbers) % 8 ≡ 0 → ⊥) → halt 7 a.numbers ms ≡ verdict doc ms
  unfolding tree
  numbers_refused h = rw x.laid.numbers_is (sym (to_tree ∙ fail _ _ _ _ ms (unlike (rw x.laid.numbers_is at h))))

  pub index_least : 4 ≤ a.index
  index_least = let l = x.laid.framed.least in omega arith

  module _ (s : (length doc - a.numbers) % 8 ≡ 0) (n : ℕ) (ns : n ≡ (a.index - 4) / 4) where
    many : n ≡ words doc
    unfolding words
    many = let i = x.laid.framed.index_is in omega arith

    pub too_few : length ms < n → halt 15 a.index ms ≡ verdict doc ms
    unfolding tree lent
    too_few h =
        let w = many in let q : length ms < words doc = omega arith in
        rw x.laid.framed.index_is (sym (to_tree ∙ (pass _ _ _ _ ms (eq→eqb (rw x.laid.numbers_is at s)) ∙ stops _ _ ms (then _ _ ms refl ∙ fail _ _ _ _ ms (over q)))))

    pub zeros_enough : (zeros : List ℕ) → n ≤ length ms → length zeros ≡ length ms → n ≤ length zeros
    zeros_enough zeros h e = omega arith

    module _ (enough : n ≤ length ms) (zeros : List ℕ) (zs : zeros ≡ fill ms 0 n 0) where
      lent_done : lent doc ms ≡ done tt zeros
      unfolding lent
      lent_done =
          let w = many in let q : words doc ≤ length ms = omega arith in
          then _ _ ms refl ∙ (pass _ _ _ _ ms (le→leb _ _ q) ∙ ap (λ z. done tt z) (sym (zs ∙ ap (λ j. fill ms 0 j 0) w)))

      tree_done : walk_all doc zeros ≡ verdict doc ms
      unfolding tree
      tree_done = sym (to_tree ∙ (pass _ _ _ _ ms (eq→eqb (rw x.laid.numbers_is at s)) ∙ then _ _ ms lent_done))

    -- `part` is what the first n marks have been set to
    pub tree_ends : n ≤ length ms → (part : List ℕ) → part ≡ fill (take n ms) 0 (length (take n ms)) 0 → (r : Outcome (List ℕ) (Unit {0})) → r ≡ walk_all doc (put_mid 0 n ms part) → r ≡ verdict doc ms
    tree_ends b part ps r h = h ∙ tree_done b _ (put_filled ms 0 n n 0 part refl (omega arith) ps)

module _ (doc : List ℕ) (a : Areas) (x : Laid doc a) (ms : List ℕ) (n : ℕ) (ns : n ≡ (a.index - 4) / 4) where
  are : n ≡ words doc
  unfolding words
  are = let i = x.framed.index_is in omega arith

  pub words_are : n ≤ length ms → words doc ≤ length ms
  words_are h = let w = are in omega arith

  pub after_enough : (after : List ℕ) → n ≤ length ms → length after ≡ length ms → n ≤ length after
  after_enough after h e = omega arith

  pub walk_stops : (r : Refusal) (after : List ℕ) → halt r.number r.place after ≡ root_by doc (kind_of (low doc 4)) ms → halt r.number r.place after ≡ walk_all doc ms
  unfolding walk_all
  walk_stops r after h = sym (stops _ _ ms (sym h))

  module _ (after : List ℕ) (h : done tt after ≡ root_by doc (kind_of (low doc 4)) ms) where
    to_end : (k : ℕ) → k ≡ unmarked after 0 n → walk_all doc ms ≡ need (eqb k n) 13 (word_place k) after
    unfolding walk_all all_marked
    to_end k ks = let w = are in then _ _ ms (sym h) ∙ (then _ _ after refl ∙ rw (← w, ← ks))

    module _ (b : n ≤ length after) where
      pub accepted : Found (take n after) 0 None → done tt after ≡ walk_all doc ms
      accepted f = sym (to_end n (sym (length-take-le n after b) ∙ (f ∙ unmarked_part after n b)) ∙ need_yes _ _ _ after (eq→eqb refl))

      pub left_out : (k : ℕ) → Found (take n after) 0 (Some k) → halt 13 (4 + 4 * k) after ≡ walk_all doc ms
      left_out k f =
          let l = length-take-le n after b in
          let g = f.1 in
          sym (to_end k (f.0 ∙ unmarked_part after n b) ∙ need_no _ _ _ after (unlike (λ e. omega arith)))

module _ (doc : List ℕ) (a : Areas) (x : Laid doc a) (n : ℕ) (ns : n ≡ (a.index - 4) / 4) (after : List ℕ) (b : n ≤ length after) (k : ℕ) (f : Found (take n after) 0 (Some k)) where
  small : 4 + 4 * k ≤ longest
  small = let e = length-take-le n after b in let g = f.1 in let l = x.framed.short in let m = x.framed.slots_inside in let q = x.framed.least in omega arith

  pub words_fit : Fits w64 (4 * k)
  words_fit = let s = small in omega arith

  pub place_fits : Fits w64 (4 + 4 * k)
  place_fits = let s = small in omega arith

pub ruleset check_laws = (header_stops, slots_stop, areas_laid, indexes, rules)

pub ruleset tree_laws = (numbers_refused, index_least, too_few, zeros_enough, tree_ends, rules)

pub ruleset all_laws = (words_are, after_enough, walk_stops, accepted, left_out, words_fit, place_fits, rules)
