-- Rules 5 and 6, one law for each way through the functions of `strings`.
use mathlib.Core.Path.{◌≡◌, refl, sym, ap, ◌∙◌}
use mathlib.Core.Bool.{true}
use mathlib.Core.Logic.{◌⊎◌, inl, inr}
use mathlib.Core.List.{List}
use Prim.Native.Nat.{ℕ, zero, suc, ◌+◌, ◌-◌, ◌*◌, ◌≤◌, ◌<◌}
use native.Mathlib.Omega.{arith}
use borrow.Author.Rules.{rules}
use lib.Dec.{T, leb, ltb, eqb, le→leb, lt→ltb}
use lib.ListN.{length, get_or}
use Rattle.json_model.specs.Reading.{Reading, ask, refuses, need, ◌>>=◌}
use Rattle.json_model.specs.Bytes.{part}
use Rattle.json_model.specs.Texts.{compare_texts, is_below}
use Rattle.std.specs.declared.cmp.Ordering.{Ordering}
use Rattle.std.specs.declared.cmp.Ordering.TheVariants.{Less, Equal, Greater}
use Rattle.json_model.specs.declared.Refusal.{Refusal}
use Rattle.json_model.proofs.Reading.{eq→eqb, over, past, unlike, then, stops, pass, fail, need_yes, need_no}
use Rattle.binary_json_rules.specs.Areas.{low, high, count, slot, text, content, numbers}
use Rattle.binary_json_rules.specs.Verdict.{ascends, slot_rules, slots}
use Rattle.binary_json_areas.specs.Laid.{Framed}
use Rattle.binary_json_check.specs.Slots.{Texts, Rule5, SlotKeeps, SlotsRead}
use Rattle.std.specs.Prelude.{Ok}
use Rattle.binary_json_areas.proofs.Headers.{slot_is, slots_end}

text_after : (doc : List ℕ) (k : ℕ) → text doc (suc k) ≡ high doc (slot doc k)
unfolding text
text_after doc k = refl

-- ---- rule 5

module _ (doc : List ℕ) (i c k start : ℕ) (g : Framed doc i c) (st : start ≡ text doc k) (l e : ℕ) (ls : l ≡ low doc (i + 4 + 4 * k)) (es : e ≡ high doc (i + 4 + 4 * k)) where
  low_is : l ≡ low doc (slot doc k)
  low_is = rw (slot_is doc i c k g) at ls

  end_is : e ≡ text doc (suc k)
  end_is = (rw (slot_is doc i c k g) at es) ∙ sym (text_after doc k)

  pub bits_refused : (l ≡ 0 → ⊥) → ask (slot_rules doc k) ≡ refuses 5 (i + 4 + 4 * k)
  unfolding slot_rules
  bits_refused h = rw (slot_is doc i c k g) (fail _ _ _ _ tt (unlike (λ q. h (low_is ∙ q))))

  module _ (clear : l ≡ 0) where
    one : {A : Type 0} (f : Unit {0} → Reading (Unit {0}) A) → (need (eqb (low doc (slot doc k)) 0) 5 (slot doc k) >>= f) tt ≡ f tt tt
    one f = pass _ _ _ f tt (eq→eqb (sym low_is ∙ clear))

    pub backward_refused : e ≤ start → ask (slot_rules doc k) ≡ refuses 5 (i + 4 + 4 * k)
    unfolding slot_rules
    backward_refused h = rw (slot_is doc i c k g) (one _ ∙ fail _ _ _ _ tt (past (rw (end_is, st) at h)))

    module _ (forward : start < e) where
      two : T (ltb (text doc k) (text doc (suc k)))
      two = let p = end_is in let q : text doc k < text doc (suc k) = omega arith in lt→ltb _ _ q

      pub outside_refused : length doc < e → ask (slot_rules doc k) ≡ refuses 5 (i + 4 + 4 * k)
      unfolding slot_rules
      outside_refused h = rw (slot_is doc i c k g) (one _ ∙ (pass _ _ _ _ tt two ∙ fail _ _ _ _ tt (over (rw end_is at h))))

      module _ (inside : e ≤ length doc) where
        three : T (leb (text doc (suc k)) (length doc))
        three = le→leb _ _ (rw end_is at inside)

        pub unclosed_refused : (get_or doc (e - 1) 0 ≡ 0 → ⊥) → ask (slot_rules doc k) ≡ refuses 5 (i + 4 + 4 * k)
        unfolding slot_rules
        unclosed_refused h = rw (slot_is doc i c k g) (one _ ∙ (pass _ _ _ _ tt two ∙ (pass _ _ _ _ tt three ∙ fail _ _ _ _ tt (unlike (rw end_is at h)))))

        pub slot_ends : get_or doc (e - 1) 0 ≡ 0 → Rule5 doc k (Ok e)
        unfolding slot_rules
        slot_ends h = (end_is, omega arith, inside, one _ ∙ (pass _ _ _ _ tt two ∙ (pass _ _ _ _ tt three ∙ pass _ _ _ _ tt (eq→eqb (rw end_is at h)))))

pub ruleset slot_end_laws = (bits_refused, backward_refused, outside_refused, unclosed_refused, slot_ends, rules)

-- ---- rule 6

predecessor : (k : ℕ) → (k ≡ 0 → ⊥) → (j : ℕ) × (k ≡ suc j)
predecessor zero h = absurd (h refl)
predecessor (suc j) h = (j, refl)

pub texts_prior : (doc : List ℕ) (k before start : ℕ) → Texts doc k before start → (k ≡ 0 → ⊥) → before < start
texts_prior doc k before start x h = let (j, e) = predecessor k h in (x.prior j e).1

ascends_at : (doc : List ℕ) (j before start e : ℕ) (o : Ordering) → before ≡ text doc j → start ≡ text doc (suc j) → e ≡ text doc (suc (suc j))
    → o ≡ compare_texts (part doc before (start - 1 - before)) (part doc start (e - 1 - start)) → ascends doc (suc j) ≡ is_below o
unfolding ascends content
ascends_at doc j before start e o a b c d = rw (d, a, b, c)

not_less : (o : Ordering) → (o ≡ Equal) ⊎ (o ≡ Greater) → T (is_below o) → ⊥
not_less o (inl e) t = rw e at t
not_less o (inr e) t = rw e at t

module _ (doc : List ℕ) (k e : ℕ) (ended : Rule5 doc k (Ok e)) where
  pub end_inside : e ≤ length doc
  end_inside = ended.2

  pub end_forward : (before start : ℕ) → Texts doc k before start → start < e
  end_forward before start x = let a = x.start_is in let b = ended.1 in omega arith

  pub first_read : k ≡ 0 → SlotKeeps doc k (Ok e)
  unfolding ascends
  first_read z = (ended.0, ended.1, ended.2, ended.3 ∙ rw z (need_yes true 6 _ tt tt))

  module _ (before start : ℕ) (x : Texts doc k before start) (later : k ≡ 0 → ⊥) (o : Ordering)
      (p q : List ℕ) (first : p ≡ part doc before (start - 1 - before)) (second : q ≡ part doc start (e - 1 - start)) (compared : o ≡ compare_texts p q) where
    ascends_is : ascends doc k ≡ is_below o
    ascends_is =
        let (j, r) = predecessor k later in
        ap (ascends doc) r ∙ ascends_at doc j before start e o (x.prior j r).0 (x.start_is ∙ ap (text doc) r) (ended.0 ∙ ap (λ n. text doc (suc n)) r) (compared ∙ rw (first, second))

    pub below_read : o ≡ Less → SlotKeeps doc k (Ok e)
    below_read q = (ended.0, ended.1, ended.2, ended.3 ∙ need_yes _ _ _ tt (rw (ascends_is, q) tt))

    pub not_below : (i c : ℕ) → Framed doc i c → (o ≡ Equal) ⊎ (o ≡ Greater) → ask (slot_rules doc k) ≡ refuses 6 (i + 4 + 4 * k)
    not_below i c g q = ended.3 ∙ rw (slot_is doc i c k g) (need_no _ _ _ tt (λ t. not_less o q (rw ascends_is at t)))

pub ruleset read_slot_laws = (texts_prior, end_inside, end_forward, first_read, below_read, not_below, rules)

-- ---- all slots in turn

-- the rules have been passed up to slot k, of c
pub record Slotted (doc : List ℕ) (c k before start : ℕ) : Type 0 where
  pub upto : k ≤ c
  pub same : ask (slots doc (c - k) k) ≡ ask (slots doc (count doc) 0)
  pub texts : Texts doc k before start
  pub after : slot doc (count doc) ≤ start

pub slotted_first : (doc : List ℕ) (i c b : ℕ) → Framed doc i c → Slotted doc c 0 b (i + 4 + 4 * c)
unfolding text
slotted_first doc i c b g =
    let e = slots_end doc i c g in
    record {
      upto = omega arith;
      same = let z : c - 0 ≡ count doc = let n = g.count_is in omega arith in rw z;
      texts = record { start_is = e; inside = g.slots_inside; prior = λ j q. absurd (omega arith) };
      after = omega arith;
    }

module _ (doc : List ℕ) (c k before start : ℕ) (x : Slotted doc c k before start) (b : k < c) where
  one_more : ask (slots doc (c - k) k) ≡ ask (slot_rules doc k >>= λ _. slots doc (c - suc k) (suc k))
  unfolding slots
  one_more = let e : c - k ≡ suc (c - suc k) = omega arith in rw e

  pub slotted_next : (e : ℕ) → SlotKeeps doc k (Ok e) → Slotted doc c (k + 1) start e
  slotted_next e read =
      let n : k + 1 ≡ suc k = omega arith in
      let s = x.texts.start_is in
      let f = read.1 in
      let a = x.after in
      record {
        upto = omega arith;
        same = rw n (sym (then _ _ tt read.3) ∙ (sym one_more ∙ x.same));
        texts = record { start_is = rw n read.0; inside = read.2; prior = λ j p. let z : k ≡ j = omega arith in (s ∙ ap (text doc) z, omega arith) };
        after = omega arith;
      }

  pub slotted_refused : (r : Refusal) → ask (slot_rules doc k) ≡ refuses r.number r.place → ask (slots doc (count doc) 0) ≡ refuses r.number r.place
  slotted_refused r q = sym x.same ∙ (one_more ∙ stops _ _ tt q)

pub slotted_done : (doc : List ℕ) (i c k before start : ℕ) → Framed doc i c → Slotted doc c k before start → c ≤ k → SlotsRead doc (Ok start)
unfolding numbers slots
slotted_done doc i c k before start g x b =
    let u = x.upto in
    let e : k ≡ count doc = let n = g.count_is in omega arith in
    let z : c - k ≡ 0 = omega arith in
    (x.texts.start_is ∙ ap (text doc) e, x.after, x.texts.inside, sym x.same ∙ rw z)

pub ruleset read_slots_laws = (slotted_first, slotted_next, slotted_refused, slotted_done, rules)
