-- What comes before every question, one law for each way through the functions of `asking`.
use mathlib.Core.Path.{◌≡◌, sym, ap, ◌∙◌}
use mathlib.Core.Bool.{Bool, true, false}
use mathlib.Core.List.{List}
use Prim.Native.Nat.{ℕ, suc, ◌+◌, ◌-◌, ◌*◌, ◌^◌, ◌%◌, ◌≤◌, ◌<◌}
use native.Mathlib.Omega.{arith}
use borrow.Author.Rules.{rules}
use lib.Dec.{le→leb}
use lib.ListN.{length}
use mir.Syntax.{w64}
use mir.Val.{Fits}
use Rattle.json_model.specs.Reading.{ask, answers, refuses}
use Rattle.json_model.specs.declared.Refusal.{Refusal}
use Rattle.json_model.proofs.Reading.{eq→eqb, over, unlike, then, stops, pass, fail, need_yes, need_no}
use Rattle.binary_json_rules.specs.Verdict.{header}
use Rattle.binary_json_rules.specs.Areas.{low, high, count, slot, text, numbers}
use Rattle.binary_json_rules.specs.Questions.{opening, tree_word}
use Rattle.binary_json_areas.specs.Laid.{Framed, Laid}
use Rattle.binary_json_areas.specs.Asking.{WordNamed, WordAt}
use Rattle.binary_json_areas.specs.declared.areas.Areas.{Areas}
use Rattle.binary_json_areas.proofs.Headers.{slot_is, slots_end}

-- ---- where the texts end

module _ (doc : List ℕ) (i c : ℕ) (g : Framed doc i c) where
  pub no_texts : c ≡ 0 → i + 4 ≡ numbers doc
  unfolding numbers text
  no_texts z =
      let e : count doc ≡ 0 = sym g.count_is ∙ z in
      let f : i + 4 ≡ i + 4 + 4 * 0 = omega arith in
      f ∙ (slot_is doc i c 0 g ∙ (ap (slot doc) (sym e) ∙ sym (ap (text doc) e)))

  last_text : (k : ℕ) → count doc ≡ suc k → high doc (slot doc k) ≡ numbers doc
  unfolding numbers text
  last_text k e = rw e

  pub last_end : (h : ℕ) → (c ≡ 0 → ⊥) → h ≡ high doc (i + 4 * c) → h ≡ numbers doc
  last_end h some e =
      let n = g.count_is in
      let f : count doc ≡ suc (c - 1) = omega arith in
      let q : i + 4 * c ≡ i + 4 + 4 * (c - 1) = omega arith in
      e ∙ (ap (λ o. high doc o) (q ∙ slot_is doc i c (c - 1) g) ∙ last_text (c - 1) f)

pub ruleset end_laws = (no_texts, last_end, rules)

-- ---- the areas

pub header_refused : (doc : List ℕ) (c : ℕ) (r : Refusal) → ask (header doc) ≡ refuses r.number r.place → ask (opening doc c) ≡ refuses r.number r.place
unfolding opening
header_refused doc c r x = stops _ _ tt x

module _ (doc : List ℕ) (i c : ℕ) (framed : Framed doc i c) where
  pub index_fits : Fits w64 (i + 4)
  index_fits = let s = framed.slots_inside in let l = framed.short in omega arith

  pub count_fits : Fits w64 (4 * c)
  count_fits = let s = framed.slots_inside in let l = framed.short in omega arith

  pub slots_fit : Fits w64 (i + 4 + 4 * c)
  slots_fit = let s = framed.slots_inside in let l = framed.short in omega arith

  module _ (cursor n : ℕ) (ns : n ≡ numbers doc) where
    pub texts_refused : n < i + 4 + 4 * c → ask (opening doc cursor) ≡ refuses 20 cursor
    unfolding opening
    texts_refused q = then _ _ tt framed.passes ∙ fail _ _ _ _ tt (over (rw (slots_end doc i c framed, ns) at q))

    module _ (b : i + 4 + 4 * c ≤ n) where
      pub numbers_refused : length doc < n → ask (opening doc cursor) ≡ refuses 20 cursor
      unfolding opening
      numbers_refused q = then _ _ tt framed.passes ∙ (pass _ _ _ _ tt (le→leb _ _ (rw (slots_end doc i c framed, ns) at b)) ∙ need_no _ _ _ tt (over (rw ns at q)))

      pub opened : n ≤ length doc → ask (opening doc cursor) ≡ answers tt
      unfolding opening
      opened q = then _ _ tt framed.passes ∙ (pass _ _ _ _ tt (le→leb _ _ (rw (slots_end doc i c framed, ns) at b)) ∙ need_yes _ _ _ tt (le→leb _ _ (rw ns at q)))

      pub areas_laid : n ≤ length doc → Laid doc (record { index = i; count = c; numbers = n })
      areas_laid q = record { framed = framed; numbers_is = ns; texts = b; inside = q }

pub ruleset open_laws = (header_refused, index_fits, count_fits, slots_fit, texts_refused, numbers_refused, opened, areas_laid, rules)

-- ---- words of the tree

module _ (doc : List ℕ) (a : Areas) (x : Laid doc a) (at : ℕ) where
  pub below_tree : at < 4 → WordNamed doc a at false
  unfolding tree_word
  below_tree h c = fail _ _ _ _ tt (over h)

  module _ (l : 4 ≤ at) where
    pub out_of_step : (at % 4 ≡ 0 → ⊥) → WordNamed doc a at false
    unfolding tree_word
    out_of_step h c = pass _ _ _ _ tt (le→leb _ _ l) ∙ fail _ _ _ _ tt (unlike h)

    module _ (s : at % 4 ≡ 0) where
      beyond : a.index < at + 4 → WordNamed doc a at false
      unfolding tree_word
      beyond h c = pass _ _ _ _ tt (le→leb _ _ l) ∙ (pass _ _ _ _ tt (eq→eqb s) ∙ need_no _ _ _ tt (over (rw x.framed.index_is at h)))

      pub past_tree : a.index < at → WordNamed doc a at false
      past_tree h = beyond (omega arith)

      pub at_the_end : at ≤ a.index → a.index - at < 4 → WordNamed doc a at false
      at_the_end g h = beyond (omega arith)

      pub in_tree : at ≤ a.index → 4 ≤ a.index - at → WordNamed doc a at true
      unfolding tree_word
      in_tree g h =
          let q : at + 4 ≤ a.index = omega arith in
          (q, λ c. pass _ _ _ _ tt (le→leb _ _ l) ∙ (pass _ _ _ _ tt (eq→eqb s) ∙ need_yes _ _ _ tt (le→leb _ _ (rw x.framed.index_is at q))))

pub ruleset word_laws = (below_tree, out_of_step, past_tree, at_the_end, in_tree, rules)

-- ---- the word at the cursor

module _ (doc : List ℕ) (a : Areas) (x : Laid doc a) (c : ℕ) (g : Bool) (w : WordNamed doc a c g) where
  pub no_word : g ≡ false → ask (tree_word doc c c) ≡ refuses 20 c
  no_word q = (rw q at w) c

  module _ (q : g ≡ true) where
    pub word_inside : c + 4 ≤ length doc
    word_inside =
        let z : WordNamed doc a c true = rw q at w in
        let i = z.0 in
        let s = x.framed.slots_inside in
        omega arith

    pub word_at : (k v : ℕ) → k ≡ low doc c → v ≡ high doc c → v < 2 ^ 27 → WordAt doc a c k v
    word_at k v ks vs h = let z : WordNamed doc a c true = rw q at w in record { low_is = ks; high_is = vs; small = h; inside = z.0; there = z.1 c }

pub ruleset word_here_laws = (no_word, word_inside, word_at, rules)

-- a word of the tree stands at the cursor, with the fields k and v: where a body of v entries or members ends can be
-- counted
module _ (doc : List ℕ) (a : Areas) (x : Laid doc a) (c : ℕ) (k v : ℕ) (word_is : WordAt doc a c k v) where
  pub body_fits : Fits w64 (c + 4)
  body_fits = let i = word_is.inside in let s = x.framed.slots_inside in let l = x.framed.short in omega arith

  pub twice_fits : Fits w64 (2 * v)
  twice_fits = let b = word_is.small in omega arith

  pub entries_fit : Fits w64 (4 * v)
  entries_fit = let b = word_is.small in omega arith

  pub members_fit : Fits w64 (4 * (2 * v))
  members_fit = let b = word_is.small in omega arith

  pub array_fits : Fits w64 (c + 4 + 4 * v)
  array_fits = let b = word_is.small in let i = word_is.inside in let s = x.framed.slots_inside in let l = x.framed.short in omega arith

  pub object_fits : Fits w64 (c + 4 + 4 * (2 * v))
  object_fits = let b = word_is.small in let i = word_is.inside in let s = x.framed.slots_inside in let l = x.framed.short in omega arith
