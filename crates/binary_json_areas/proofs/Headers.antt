-- Rules 1 to 4, one law for each way through `read_header`: its premises are the tests as the code makes them.
use mathlib.Core.Path.{◌≡◌, sym, ap, ◌∙◌}
use mathlib.Core.List.{List}
use Prim.Native.Nat.{ℕ, ◌+◌, ◌*◌, ◌%◌, ◌^◌, ◌≤◌, ◌<◌}
use native.Mathlib.Omega.{arith}
use borrow.Author.Rules.{rules}
use lib.Dec.{leb, eqb, le→leb}
use lib.ListN.{length}
use mir.Syntax.{w64}
use mir.Val.{Fits}
use Rattle.json_model.specs.Limits.{least_binary, longest}
use Rattle.json_model.specs.Reading.{Reading, ask, refuses, ◌>>◌, need}
use Rattle.json_model.proofs.Reading.{eq→eqb, over, unlike, pass, fail, need_yes, need_no}
use Rattle.binary_json_rules.specs.Areas.{word, low, high, index, count, slot}
use Rattle.binary_json_rules.specs.Verdict.{header}
use Rattle.binary_json_areas.specs.Laid.{Begun, Framed}

-- rule 4
unfoldable rule4 : {S : Type 0} → List ℕ → Reading S (Unit {0})
rule4 doc = do
  need (leb 8 (index doc)) 4 0
  need (eqb (index doc % 4) 0) 4 0
  need (leb (index doc + 4) (length doc)) 4 0
  need (leb (slot doc (count doc)) (length doc)) 4 (index doc)

module _ (doc : List ℕ) where
  pub too_short : length doc < least_binary → ask (header doc) ≡ refuses 1 (length doc)
  unfolding header
  too_short h = fail _ _ _ _ tt (over h)

  module _ (a : least_binary ≤ length doc) where
    pub too_long : longest < length doc → ask (header doc) ≡ refuses 2 (length doc)
    unfolding header
    too_long h = pass _ _ _ _ tt (le→leb _ _ a) ∙ fail _ _ _ _ tt (over h)

    module _ (b : length doc ≤ longest) (v : ℕ) (vs : v ≡ low doc 0) where
      pub other_version : (v ≡ 1 → ⊥) → ask (header doc) ≡ refuses 3 0
      unfolding header
      other_version h = pass _ _ _ _ tt (le→leb _ _ a) ∙ (pass _ _ _ _ tt (le→leb _ _ b) ∙ fail _ _ _ _ tt (unlike (λ e. h (vs ∙ e))))

      module _ (one : v ≡ 1) (i : ℕ) (is : i ≡ high doc 0) where
        at_index : i ≡ index doc
        unfolding index
        at_index = is

        -- past rules 1 to 3
        three : ask (header doc) ≡ ask (rule4 doc)
        unfolding header rule4
        three = pass _ _ _ _ tt (le→leb _ _ a) ∙ (pass _ _ _ _ tt (le→leb _ _ b) ∙ pass _ _ _ _ tt (eq→eqb (sym vs ∙ one)))

        pub index_low : i < 8 → ask (header doc) ≡ refuses 4 0
        unfolding rule4
        index_low h = three ∙ fail _ _ _ _ tt (over (rw at_index at h))

        module _ (least : 8 ≤ i) where
          pub index_out_of_step : (i % 4 ≡ 0 → ⊥) → ask (header doc) ≡ refuses 4 0
          unfolding rule4
          index_out_of_step h = three ∙ (pass _ _ _ _ tt (le→leb _ _ (rw at_index at least)) ∙ fail _ _ _ _ tt (unlike (rw at_index at h)))

          module _ (step : i % 4 ≡ 0) where
            pub index_outside : length doc < i + 4 → ask (header doc) ≡ refuses 4 0
            unfolding rule4
            index_outside h =
                three ∙ (pass _ _ _ _ tt (le→leb _ _ (rw at_index at least)) ∙ (pass _ _ _ _ tt (eq→eqb (rw at_index at step)) ∙ fail _ _ _ _ tt (over (rw at_index at h))))

            pub begun : i + 4 ≤ length doc → Begun doc i
            unfolding rule4
            begun h = record {
              to_slots = three ∙ (pass _ _ _ _ tt (le→leb _ _ (rw at_index at least)) ∙ (pass _ _ _ _ tt (eq→eqb (rw at_index at step)) ∙ pass _ _ _ _ tt (le→leb _ _ (rw at_index at h))));
              index_is = at_index;
              short = b;
              least = least;
              step = step;
              inside = h;
            }

module _ (doc : List ℕ) (i c : ℕ) (g : Begun doc i) (cs : c ≡ word doc i) where
  at_count : c ≡ count doc
  unfolding count
  at_count = rw g.index_is at cs

  last_slot : i + 4 + 4 * c ≡ slot doc (count doc)
  unfolding slot
  last_slot = rw (g.index_is, at_count)

  slots_outside : length doc < i + 4 + 4 * c → ask (header doc) ≡ refuses 4 i
  slots_outside h = g.to_slots ∙ rw (sym g.index_is) (need_no _ _ _ tt (over (rw last_slot at h)))

  framed : i + 4 + 4 * c ≤ length doc → Framed doc i c
  framed h = record {
    passes = g.to_slots ∙ need_yes _ _ _ tt (le→leb _ _ (rw last_slot at h));
    index_is = g.index_is;
    count_is = at_count;
    short = g.short;
    least = g.least;
    step = g.step;
    slots_inside = h;
  }

-- slot k stands where the code counts it, and so does the slots' end
pub slot_is : (doc : List ℕ) (i c k : ℕ) → Framed doc i c → i + 4 + 4 * k ≡ slot doc k
unfolding slot
slot_is doc i c k g = rw g.index_is

pub slots_end : (doc : List ℕ) (i c : ℕ) → Framed doc i c → i + 4 + 4 * c ≡ slot doc (count doc)
slots_end doc i c g = slot_is doc i c c g ∙ ap (slot doc) g.count_is

-- ---- by the answer of `read_index`

module _ (doc : List ℕ) (i : ℕ) (g : Begun doc i) where
  pub index_inside : i + 4 ≤ length doc
  index_inside = g.inside

  pub index_fits : Fits w64 (i + 4)
  index_fits = let s = g.short in let n = g.inside in omega arith

  module _ (c : ℕ) where
    pub slots_fit : c < 2 ^ 32 → Fits w64 (i + 4 + 4 * c)
    slots_fit b = let s = g.short in let n = g.inside in omega arith

    module _ (w : c ≡ word doc i) where
      pub count_refused : length doc < i + 4 + 4 * c → ask (header doc) ≡ refuses 4 i
      count_refused o = slots_outside doc i c g w o

      pub header_framed : i + 4 + 4 * c ≤ length doc → Framed doc i c
      header_framed o = framed doc i c g w o

pub ruleset index_laws = (too_short, too_long, other_version, index_low, index_out_of_step, index_outside, begun, rules)

pub ruleset header_laws = (count_refused, header_framed, index_inside, index_fits, slots_fit, rules)
