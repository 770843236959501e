-- What a word names, one law for each way through the functions of `named`.
use mathlib.Core.Path.{◌≡◌, sym, ap, ◌∙◌}
use mathlib.Core.Bool.{Bool, true, false}
use mathlib.Core.List.{List}
use Prim.Native.Nat.{ℕ, suc, ◌+◌, ◌-◌, ◌*◌, ◌/◌, ◌%◌, ◌^◌, ◌≤◌, ◌<◌}
use native.Mathlib.Omega.{arith}
use borrow.Author.Rules.{rules}
use lib.Dec.{leb, ltb, eqb, le→leb, lt→ltb, not_T, T_not}
use lib.ListN.{length, take, drop}
use Rattle.json_model.specs.Bytes.{number}
use Rattle.json_model.specs.Number.{binary64, finite}
use Rattle.json_model.specs.Reading.{Reading, answer, ask, answers, need, ◌>>=◌}
use Rattle.json_model.proofs.Reading.{eq→eqb, over, past, unlike, then, stops, pass, fail, need_yes, need_no}
use Rattle.word.proofs.Laws.{number_part}
use Rattle.binary_json_rules.specs.Areas.{high, count, slot, text}
use Rattle.binary_json_rules.specs.Verdict.{slot_named, number_named}
use Rattle.binary_json_rules.specs.Meaning.{SlotIs}
use Rattle.binary_json_rules.specs.Questions.{slot_read, text_named}
use Rattle.binary_json_rules.specs.TreeOf.{slot_at}
use Rattle.binary_json_theorems.proofs.Sound.{slot_sound}
use Rattle.binary_json_theorems.proofs.Trees.{slot_at_lem}
use Rattle.binary_json_areas.specs.Laid.{Laid}
use Rattle.binary_json_areas.specs.Naming.{SlotNamed, NumberNamed, TextRead, TextNamed}
use Rattle.binary_json_areas.specs.declared.areas.Areas.{Areas}
use Rattle.binary_json_areas.specs.declared.named.NoNumber.{NoNumber}
use Rattle.json_model.specs.declared.Span.{Span}
use Rattle.std.specs.Prelude.{Option, Some, None, Ok, Err}
use Rattle.binary_json_areas.proofs.Headers.{slot_is, slots_end}

module _ (doc : List ℕ) (a : Areas) (x : Laid doc a) (v : ℕ) where
  first_is : a.index + 4 ≡ slot doc 0
  first_is = let e : a.index + 4 ≡ a.index + 4 + 4 * 0 = omega arith in e ∙ slot_is doc a.index a.count 0 x.framed

  last_is : a.index + 4 + 4 * a.count ≡ slot doc (count doc)
  last_is = slots_end doc a.index a.count x.framed

  pub before_slots : v < a.index + 4 → SlotNamed doc v false
  unfolding slot_named
  before_slots h n p = fail _ _ _ _ tt (over (rw first_is at h))

  module _ (b : a.index + 4 ≤ v) where
    pub between_slots : ((v - (a.index + 4)) % 4 ≡ 0 → ⊥) → SlotNamed doc v false
    unfolding slot_named
    between_slots h n p = pass _ _ _ _ tt (le→leb _ _ (rw first_is at b)) ∙ fail _ _ _ _ tt (unlike (rw first_is at h))

    module _ (s : (v - (a.index + 4)) % 4 ≡ 0) where
      to_last : (n p : ℕ) → ask (slot_named doc v n p) ≡ ask (need (ltb v (slot doc (count doc))) n p)
      unfolding slot_named
      to_last n p = pass _ _ _ _ tt (le→leb _ _ (rw first_is at b)) ∙ pass _ _ _ _ tt (eq→eqb (rw first_is at s))

      pub after_slots : a.index + 4 + 4 * a.count ≤ v → SlotNamed doc v false
      after_slots h n p = to_last n p ∙ need_no _ _ _ tt (past (rw last_is at h))

      pub a_slot : v < a.index + 4 + 4 * a.count → SlotNamed doc v true
      a_slot h n p = to_last n p ∙ need_yes _ _ _ tt (lt→ltb _ _ (rw last_is at h))

pub ruleset slot_named_laws = (before_slots, between_slots, after_slots, a_slot, rules)

long_enough : (doc : List ℕ) (a : Areas) → Laid doc a → 8 ≤ length doc
long_enough doc a x = let f = x.framed in let l = f.least in let i = f.slots_inside in omega arith

module _ (doc : List ℕ) (a : Areas) (x : Laid doc a) (v : ℕ) where
  pub before_numbers : v < a.numbers → NumberNamed doc v (Err NoNumber.Outside)
  unfolding number_named
  before_numbers h n p = fail _ _ _ _ tt (over (rw x.numbers_is at h))

  module _ (b : a.numbers ≤ v) where
    pub between_numbers : ((v - a.numbers) % 8 ≡ 0 → ⊥) → NumberNamed doc v (Err NoNumber.Outside)
    unfolding number_named
    between_numbers h n p = pass _ _ _ _ tt (le→leb _ _ (rw x.numbers_is at b)) ∙ fail _ _ _ _ tt (unlike (rw x.numbers_is at h))

    module _ (s : (v - a.numbers) % 8 ≡ 0) where
      to_inside : (n p : ℕ) → ask (number_named doc v n p) ≡ ask (need (leb (v + 8) (length doc)) n p >>= λ _. need (finite binary64 (number doc v 8)) 10 p)
      unfolding number_named
      to_inside n p = pass _ _ _ _ tt (le→leb _ _ (rw x.numbers_is at b)) ∙ pass _ _ _ _ tt (eq→eqb (rw x.numbers_is at s))

      outside : length doc < v + 8 → NumberNamed doc v (Err NoNumber.Outside)
      outside h n p = to_inside n p ∙ fail _ _ _ _ tt (over h)

      pub cut_short : length doc - 8 < v → NumberNamed doc v (Err NoNumber.Outside)
      cut_short h = outside (omega arith)

      module _ (l : v ≤ length doc - 8) (bits : ℕ) (e : bits ≡ number (take (length doc - v) (drop v doc)) 0 8) where
        bits_are : bits ≡ number doc v 8
        bits_are = e ∙ number_part doc v 8

        to_finite : (n p : ℕ) → ask (number_named doc v n p) ≡ ask (need (finite binary64 (number doc v 8)) 10 p)
        to_finite n p = let m = long_enough doc a x in let q : v + 8 ≤ length doc = omega arith in to_inside n p ∙ pass _ _ _ _ tt (le→leb _ _ q)

        pub not_finite : bits / 4_503_599_627_370_496 % 2048 ≡ 2047 → NumberNamed doc v (Err NoNumber.NotFinite)
        unfolding finite
        not_finite q n p = to_finite n p ∙ need_no _ _ _ tt (λ t. T_not (eqb (number doc v 8 / 2 ^ 52 % 2 ^ 11) (2 ^ 11 - 1)) t (eq→eqb (rw bits_are at q)))

        pub finite_number : (bits / 4_503_599_627_370_496 % 2048 ≡ 2047 → ⊥) → NumberNamed doc v (Ok bits)
        unfolding finite
        finite_number q = (bits_are, λ n p. to_finite n p ∙ need_yes _ _ _ tt (not_T (eqb (number doc v 8 / 2 ^ 52 % 2 ^ 11) (2 ^ 11 - 1)) (unlike (rw bits_are at q))))

pub ruleset number_named_laws = (before_numbers, between_numbers, cut_short, not_finite, finite_number, rules)

-- ---- texts

-- a word that names a slot is the offset of the slot whose number it gives
named_slot : (doc : List ℕ) (v : ℕ) → SlotNamed doc v true → SlotIs doc v (slot_at doc v)
named_slot doc v h =
    let end : Unit {0} → Reading (Unit {0}) (Unit {0}) = λ _. answer tt in
    let done : ask (slot_named doc v 0 0 >>= end) ≡ answers tt = then _ _ tt (h 0 0) in
    let (k, is, e) = slot_sound doc end tt v 0 0 done in
    let s = slot_at_lem doc v k is in
    record { counted = rw s is.counted; place = rw s is.place }

module _ (doc : List ℕ) (a : Areas) (x : Laid doc a) (v : ℕ) (h : SlotNamed doc v true) where
  v_is : v ≡ a.index + 4 + 4 * slot_at doc v
  v_is = (named_slot doc v h).place ∙ sym (slot_is doc a.index a.count (slot_at doc v) x.framed)

  v_inside : (a.index + 4 ≤ v) × (v < a.index + 4 + 4 * a.count) × ((v - (a.index + 4)) % 4 ≡ 0)
  v_inside =
      let n = (named_slot doc v h).counted in
      let p = v_is in
      let c = x.framed.count_is in
      (omega arith, omega arith, omega arith)

  pub slot_inside : v + 4 ≤ length doc
  slot_inside = let (b, c, s) = v_inside in let i = x.framed.slots_inside in omega arith

  pub before_inside : (v ≡ a.index + 4 → ⊥) → v - 4 + 4 ≤ length doc
  before_inside n = let (b, c, s) = v_inside in let i = x.framed.slots_inside in omega arith

  pub before_there : (v ≡ a.index + 4 → ⊥) → 4 ≤ v
  before_there n = let (b, c, s) = v_inside in omega arith

  pub first_start : v ≡ a.index + 4 → a.index + 4 + 4 * a.count ≡ text doc (slot_at doc v)
  unfolding text
  first_start e =
      let q : slot_at doc v ≡ 0 = omega (arith, v_is) in
      last_is doc a x v ∙ sym (ap (text doc) q)

  after_slot : (k : ℕ) → slot_at doc v ≡ suc k → high doc (v - 4) ≡ text doc (slot_at doc v)
  unfolding text
  after_slot k e =
      let q : v - 4 ≡ a.index + 4 + 4 * k = omega (arith, v_is) in
      ap (λ o. high doc o) (q ∙ slot_is doc a.index a.count k x.framed) ∙ sym (ap (text doc) e)

  pub later_start : (f : ℕ) → (v ≡ a.index + 4 → ⊥) → f ≡ high doc (v - 4) → f ≡ text doc (slot_at doc v)
  later_start f n e =
      let q : slot_at doc v ≡ suc (slot_at doc v - 1) = omega (arith, v_is) in
      e ∙ after_slot (slot_at doc v - 1) q

  text_end : high doc v ≡ text doc (suc (slot_at doc v))
  unfolding text
  text_end = ap (λ o. high doc o) (named_slot doc v h).place

  module _ (start e : ℕ) (st : start ≡ text doc (slot_at doc v)) (es : e ≡ high doc v) where
    end_is : e ≡ text doc (suc (slot_at doc v))
    end_is = es ∙ text_end

    pub starts_early : start < a.index + 4 + 4 * a.count → TextRead doc v None
    unfolding slot_read
    starts_early q c = fail _ _ _ _ tt (over (rw (last_is doc a x v, st) at q))

    module _ (b : a.index + 4 + 4 * a.count ≤ start) where
      pub no_text : e ≤ start → TextRead doc v None
      unfolding slot_read
      no_text q c = pass _ _ _ _ tt (le→leb _ _ (rw (last_is doc a x v, st) at b)) ∙ fail _ _ _ _ tt (past (rw (end_is, st) at q))

      module _ (f : start < e) where
        to_end : (c : ℕ) → ask (slot_read doc (slot_at doc v) c) ≡ ask (need (leb e a.numbers) 20 c >>= λ _. answer (record { place = start; len = e - 1 - start }))
        unfolding slot_read
        to_end c =
            pass _ _ _ _ tt (le→leb _ _ (rw (last_is doc a x v, st) at b)) ∙ (pass _ _ _ _ tt (lt→ltb _ _ (rw (st, end_is) at f)) ∙ rw (st, end_is, x.numbers_is))

        pub past_numbers : a.numbers < e → TextRead doc v None
        past_numbers q c = to_end c ∙ fail _ _ _ _ tt (over q)

        pub good_text : e ≤ a.numbers → TextRead doc v (Some (record { place = start; len = e - 1 - start }))
        good_text q = let i = x.inside in (omega arith, λ c. to_end c ∙ pass _ _ _ _ tt (le→leb _ _ q))

pub ruleset text_laws = (slot_inside, before_inside, before_there, first_start, later_start, starts_early, no_text, past_numbers, good_text, rules)

module _ (doc : List ℕ) (v : ℕ) (g : Bool) (named : SlotNamed doc v g) where
  pub no_slot : g ≡ false → TextNamed doc v None
  unfolding text_named
  no_slot q c = stops _ _ tt ((rw q at named) 20 c)

  pub a_name : g ≡ true → SlotNamed doc v true
  a_name q = rw q at named

  pub slot_text : (r : Option Span) → g ≡ true → TextRead doc v r → TextNamed doc v r
  unfolding text_named
  slot_text (Some s) q h = (h.0, λ c. then _ _ tt ((rw q at named) 20 c) ∙ h.1 c)
  slot_text None q h = λ c. then _ _ tt ((rw q at named) 20 c) ∙ h c

pub ruleset named_laws = (no_slot, a_name, slot_text, rules)
