-- Both halvings and the scan, one law for each way through the functions of `lookup`.
use mathlib.Core.Path.{◌≡◌, refl, sym, ap, ◌∙◌}
use mathlib.Core.Bool.{Bool, true, false}
use mathlib.Core.List.{List}
use Prim.Native.Nat.{ℕ, zero, suc, ◌+◌, ◌-◌, ◌*◌, ◌≤◌, ◌<◌}
use native.Mathlib.Omega.{arith}
use borrow.Author.Rules.{rules}
use borrow.Author.Tests.{lt-ltb, le-ltb}
use Rattle.std.specs.Ordering.{MatchOrdering, is_eq, is_lt, nat_cmp}
use Rattle.std.specs.Cmp.{ranked}
use Rattle.std.specs.Prelude.{Option, Some, None}
use Rattle.json_model.specs.Bytes.{part}
use Rattle.json_model.specs.Choose.{choose}
use Rattle.json_model.specs.Reading.{halt, done, Reading, Asked, ask, answers, refuses, answer, ◌>>=◌}
use Rattle.json_model.specs.Texts.{compare_texts, compare_numbers, is_equal}
use Rattle.std.specs.declared.cmp.Ordering.{Ordering}
use Rattle.std.specs.declared.cmp.Ordering.TheVariants.{Less, Equal, Greater}
use Rattle.json_model.specs.declared.Refusal.{Refusal}
use Rattle.json_model.specs.declared.Span.{Span}
use Rattle.json_model.proofs.Reading.{then, stops}
use Rattle.json_model.proofs.Texts.{numbers_below, numbers_equal, numbers_above}
use Rattle.binary_json_rules.specs.Areas.{word, slot}
use Rattle.binary_json_rules.specs.Meaning.{SlotIs}
use Rattle.binary_json_rules.specs.TreeOf.{slot_at}
use Rattle.binary_json_rules.specs.Questions.{opening, object_here, slot_read, text_named, entry_of}
use Rattle.binary_json_rules.specs.Halving.{Item, compares, unreadable, Halved, found, missed, broken, middle, turn, halve_if, halve_from, halve}
use Rattle.binary_json_rules.specs.Lookup.{Found, entry, absent, Counted, counted, string_item, strings, key_item, keys, after_keys, after_strings, quick_here, quick_lookup, lookup, lookup_of, scan_from, scan_here, plain_scan}
use Rattle.binary_json_theorems.proofs.Complete.{slot_named_lem}
use Rattle.binary_json_theorems.proofs.Trees.{slot_at_lem}
use Rattle.binary_json_areas.specs.Laid.{Laid}
use Rattle.binary_json_areas.specs.Naming.{SlotNamed, TextRead}
use Rattle.binary_json_lookup.specs.Lookups.{told_item, Compares, string_items, told_halving}
use Rattle.binary_json_lookup.specs.declared.lookup.Halving.{Halving}
use Rattle.binary_json_areas.specs.declared.areas.Areas.{Areas}
use Rattle.binary_json_areas.proofs.Headers.{slot_is}

-- ---- halving

-- a halving over m items has come to low and high after so many turns
pub record Going (item : ℕ → Item) (m low high turns : ℕ) : Type 0 where
  pub most : ℕ
  pub enough : high - low ≤ most
  pub same : halve_from most item low high turns ≡ halve item m

going_first : (item : ℕ → Item) (m : ℕ) → Going item m 0 m 0
unfolding halve
going_first item m = record { most = m; enough = omega arith; same = refl }

module _ (item : ℕ → Item) (m low high turns : ℕ) (g : Going item m low high turns) where
  one_turn : (most : ℕ) → low < high → halve_from (suc most) item low high turns ≡ turn (halve_from most item) low (middle low high) high turns (item (middle low high))
  unfolding halve_from halve_if
  one_turn most h = rw (lt-ltb low high h)

  went : low < high → (f : ℕ) × (high - low ≤ suc f) × (turn (halve_from f item) low (middle low high) high turns (item (middle low high)) ≡ halve item m)
  went h =
      let f = g.most - 1 in
      let b = g.enough in
      let e : g.most ≡ suc f = omega arith in
      (f, omega arith, sym (one_turn f h) ∙ (ap (λ k. halve_from k item low high turns) (sym e) ∙ g.same))

  going_up : low < high → compares Less ≡ item (middle low high) → Going item m (middle low high + 1) high (turns + 1)
  unfolding turn
  going_up h e = let (f, b, s) = went h in record { most = f; enough = omega arith; same = rw (sym e) at s }

  going_down : low < high → compares Greater ≡ item (middle low high) → Going item m low (middle low high) (turns + 1)
  unfolding turn
  going_down h e = let (f, b, s) = went h in record { most = f; enough = omega arith; same = rw (sym e) at s }

  going_found : low < high → compares Equal ≡ item (middle low high) → found (middle low high) (turns + 1) ≡ halve item m
  unfolding turn
  going_found h e = let (f, b, s) = went h in rw (sym e) at s

  going_broken : low < high → unreadable ≡ item (middle low high) → broken ≡ halve item m
  unfolding turn
  going_broken h e = let (f, b, s) = went h in rw (sym e) at s

  stopped : (most : ℕ) → high ≤ low → halve_from most item low high turns ≡ missed low turns
  unfolding halve_from halve_if
  stopped zero h = refl
  stopped (suc most) h = rw (le-ltb low high h)

  going_missed : high ≤ low → missed low turns ≡ halve item m
  going_missed h = sym (stopped g.most h) ∙ g.same

at_less : (o : Ordering) → true ≡ is_lt o → o ≡ Less
at_less Less e = refl
at_less Equal e = cc
at_less Greater e = cc

at_equal : (o : Ordering) → true ≡ is_eq o → o ≡ Equal
at_equal Less e = cc
at_equal Equal e = refl
at_equal Greater e = cc

at_greater : (o : Ordering) → false ≡ is_lt o → false ≡ is_eq o → o ≡ Greater
at_greater Less e f = cc
at_greater Equal e f = cc
at_greater Greater e f = refl

-- that of the code, whatever the items are that its comparison says of
pub record Narrowed (post : ℕ → Option Ordering → Type 0) (m low high turns : ℕ) : Type 0 where
  pub ordered : low ≤ high
  pub upto : high ≤ m
  pub few : turns + (high - low) ≤ m
  pub going : (item : ℕ → Item) → Compares post item m → Going item m low high turns

module _ (post : ℕ → Option Ordering → Type 0) (m : ℕ) where
  pub narrowed_first : Narrowed post m 0 m 0
  narrowed_first = record { ordered = omega arith; upto = omega arith; few = omega arith; going = λ item p. going_first item m }

  module _ (low high turns : ℕ) (g : Narrowed post m low high turns) where
    -- the comparison said r of the item in the middle
    module _ (h : low < high) (r : Option Ordering) (said : post (middle low high) r) where
      inside : middle low high < m
      inside = let u = g.upto in omega arith

      pub narrowed_broken : r ≡ None → (item : ℕ → Item) → Compares post item m → (t : Option Halving) → t ≡ None → told_halving t ≡ halve item m
      narrowed_broken e item p t q = rw q (going_broken item m low high turns (g.going item p) h (ap told_item (sym e) ∙ p.says _ r inside said))

      module _ (o : Ordering) (e : r ≡ Some o) where
        item_is : (order : Ordering) → o ≡ order → (item : ℕ → Item) → Compares post item m → compares order ≡ item (middle low high)
        item_is order q item p = ap told_item (ap Some (sym q) ∙ sym e) ∙ p.says _ r inside said

        pub narrowed_found : true ≡ is_eq o → (item : ℕ → Item) → Compares post item m → found (middle low high) (turns + 1) ≡ halve item m
        narrowed_found q item p = going_found item m low high turns (g.going item p) h (item_is Equal (at_equal o q) item p)

        pub narrowed_up : true ≡ is_lt o → Narrowed post m (middle low high + 1) high (turns + 1)
        narrowed_up q =
            let u = g.upto in let w = g.few in
            record { ordered = omega arith; upto = u; few = omega arith; going = λ item p. going_up item m low high turns (g.going item p) h (item_is Less (at_less o q) item p) }

        pub narrowed_down : false ≡ is_lt o → false ≡ is_eq o → Narrowed post m low (middle low high) (turns + 1)
        narrowed_down q n =
            let u = g.upto in let w = g.few in
            record { ordered = omega arith; upto = omega arith; few = omega arith; going = λ item p. going_down item m low high turns (g.going item p) h (item_is Greater (at_greater o q n) item p) }

    pub narrowed_missed : high ≤ low → (item : ℕ → Item) → Compares post item m → missed low turns ≡ halve item m
    narrowed_missed h item p = going_missed item m low high turns (g.going item p) h

-- ---- the strings

-- string k, whose slot stands at S+4+4k
module _ (doc : List ℕ) (a : Areas) (k : ℕ) (l : Laid doc a) (below : k < a.count) where
  at_slot : SlotIs doc (a.index + 4 + 4 * k) k
  at_slot =
      let n = l.framed.count_is in
      record { counted = (let b = below in omega arith); place = slot_is doc a.index a.count k l.framed }

  pub string_slot : SlotNamed doc (a.index + 4 + 4 * k) true
  string_slot n p = slot_named_lem doc tt (a.index + 4 + 4 * k) n p k at_slot

  slot_k : (c : ℕ) → ask (slot_read doc (slot_at doc (a.index + 4 + 4 * k)) c) ≡ ask (slot_read doc k c)
  slot_k c = rw (slot_at_lem doc (a.index + 4 + 4 * k) k at_slot)

  module _ (x : List ℕ) where
    pub string_bad : TextRead doc (a.index + 4 + 4 * k) None → unreadable ≡ string_items doc x k
    unfolding string_items
    string_bad h = ap (string_item doc x) (sym (h 0) ∙ slot_k 0)

    pub string_compared : (s : Span) (b : List ℕ) (o : Ordering) → TextRead doc (a.index + 4 + 4 * k) (Some s) → b ≡ part doc s.place s.len → o ≡ compare_texts b x → compares o ≡ string_items doc x k
    unfolding string_items
    string_compared s b o h q r = ap compares (r ∙ ap (λ y. compare_texts y x) q) ∙ ap (string_item doc x) (sym (h.1 0) ∙ slot_k 0)

pub ruleset string_laws = (string_slot, string_bad, string_compared, rules)

pub strings_halved : (doc x : List ℕ) (a : Areas) → Laid doc a → (t : Halved) → t ≡ halve (string_items doc x) a.count → t ≡ strings doc x
unfolding string_items
strings_halved doc x a l t h = h ∙ ap (halve (string_items doc x)) l.framed.count_is

-- ---- the KeyEntries

-- as the comparison of numbers says it
numbers_compared : (w v : ℕ) → nat_cmp w v ≡ compare_numbers w v
numbers_compared w v = ordered (nat_cmp w v) (ranked w v _ refl)
  where
    ordered : (o : Ordering) → MatchOrdering o (w < v) (w ≡ v) (v < w) → o ≡ compare_numbers w v
    ordered Less h = sym ((numbers_below w v).1 h)
    ordered Equal h = sym ((numbers_equal w v).1 h)
    ordered Greater h = sym ((numbers_above w v).1 h)

pub key_compared : (doc : List ℕ) (a : Areas) → Laid doc a → (c k j w : ℕ) (o : Ordering) → w ≡ word doc (c + 4 + 4 * j) → o ≡ nat_cmp w (a.index + 4 + 4 * k) → compares o ≡ key_item doc c (slot doc k) j
key_compared doc a l c k j w o e q = ap compares (q ∙ numbers_compared w (a.index + 4 + 4 * k) ∙ rw (e, slot_is doc a.index a.count k l.framed))

-- ---- the quick lookup

pub lookup_answered : (a : Counted) → lookup_of (answers a) ≡ lookup (answers a.answer) a.first a.second
unfolding lookup_of
lookup_answered a = refl

pub lookup_refused : (number place : ℕ) → lookup_of (refuses number place) ≡ lookup (refuses number place) 0 0
unfolding lookup_of
lookup_refused number place = refl

module _ (c n first : ℕ) where
  pub key_found : (j second : ℕ) → ask (after_keys c n first (found j second)) ≡ answers (counted (entry (c + 4 + 4 * n + 4 * j)) first second)
  unfolding after_keys
  key_found j second = refl

  pub key_missed : (j second : ℕ) → ask (after_keys c n first (missed j second)) ≡ answers (counted absent first second)
  unfolding after_keys
  key_missed j second = refl

  pub key_broken : ask (after_keys c n first broken) ≡ refuses 20 c
  unfolding after_keys
  key_broken = refl

pub ruleset look_key_laws = (lookup_answered, lookup_refused, key_found, key_missed, key_broken, rules)

module _ (doc : List ℕ) (c n : ℕ) where
  pub text_found : (k first : ℕ) → ask (after_strings doc c n (found k first)) ≡ ask (after_keys c n first (keys doc c n (slot doc k)))
  unfolding after_strings
  text_found k first = refl

  pub text_missed : (k first : ℕ) → ask (after_strings doc c n (missed k first)) ≡ answers (counted absent first 0)
  unfolding after_strings
  text_missed k first = refl

  pub text_broken : ask (after_strings doc c n broken) ≡ refuses 20 c
  unfolding after_strings
  text_broken = refl

-- the lookup in the object that was asked for
abbrev pub quick_in : List ℕ → ℕ → List ℕ → Asked ℕ → Asked Counted
quick_in doc c key (halt number place u) = refuses number place
quick_in doc c key (done n u) = ask (after_strings doc c n (strings doc key))

in_object : (doc : List ℕ) (c : ℕ) (key : List ℕ) (o : Asked ℕ) → ask (object_here doc c) ≡ o → ask (quick_here doc c key) ≡ quick_in doc c key o
unfolding quick_here
in_object doc c key (halt number place u) e = stops _ _ tt e
in_object doc c key (done n u) e = then _ _ tt e

pub quick_by_object : (doc : List ℕ) (c : ℕ) (key : List ℕ) → ask (quick_here doc c key) ≡ quick_in doc c key (ask (object_here doc c))
quick_by_object doc c key = in_object doc c key _ refl

pub ruleset look_laws = (lookup_answered, lookup_refused, quick_by_object, text_found, text_missed, text_broken, rules)

pub ruleset quick_here_laws = (lookup_refused, quick_by_object, rules)

-- ---- the plain scan

-- what is left of the scan where the text of member j is the key, or is another
abbrev pub scan_if : List ℕ → ℕ → ℕ → List ℕ → ℕ → Bool → Asked Found
scan_if doc c n key j true = answers (entry (c + 4 + 4 * n + 4 * j))
scan_if doc c n key j false = ask (scan_from doc c n key (n - (j + 1)) (j + 1))

-- what is left by the text of member j
abbrev pub scan_by : List ℕ → ℕ → ℕ → List ℕ → ℕ → Asked Span → Asked Found
scan_by doc c n key j (halt number place u) = refuses number place
scan_by doc c n key j (done s u) = scan_if doc c n key j (is_equal (compare_texts (part doc s.place s.len) key))

module _ (doc : List ℕ) (c n : ℕ) (key : List ℕ) (j : ℕ) where
  chosen : (b : Bool) → choose b (answer (entry (entry_of c n j))) (scan_from doc c n key (n - (j + 1)) (j + 1)) tt ≡ scan_if doc c n key j b
  unfolding choose
  chosen true = refl
  chosen false = refl

  rest : Span → Reading (Unit {0}) Found
  rest s = choose (is_equal (compare_texts (part doc s.place s.len) key)) (answer (entry (entry_of c n j))) (scan_from doc c n key (n - (j + 1)) (j + 1))

  one_member : (l : ℕ) → l ≡ n - (j + 1) → ask (scan_from doc c n key (suc l) j) ≡ ask (text_named doc (word doc (c + 4 + 4 * j)) c >>= rest)
  unfolding scan_from rest
  one_member l e = rw e

  by_text : (o : Asked Span) → ask (text_named doc (word doc (c + 4 + 4 * j)) c) ≡ o → ask (text_named doc (word doc (c + 4 + 4 * j)) c >>= rest) ≡ scan_by doc c n key j o
  unfolding rest
  by_text (halt number place u) e = stops _ rest tt e
  by_text (done s u) e = then _ rest tt e ∙ chosen (is_equal (compare_texts (part doc s.place s.len) key))

  pub scan_member : j < n → ask (scan_from doc c n key (n - j) j) ≡ scan_by doc c n key j (ask (text_named doc (word doc (c + 4 + 4 * j)) c))
  scan_member b =
      let q : n - j ≡ suc (n - (j + 1)) = omega arith in
      ap (λ l. ask (scan_from doc c n key l j)) q ∙ (one_member (n - (j + 1)) refl ∙ by_text _ refl)

  pub scan_end : n ≤ j → ask (scan_from doc c n key (n - j) j) ≡ answers absent
  unfolding scan_from
  scan_end h = let z : n - j ≡ 0 = omega arith in rw z

-- the scan of the object that was asked for
abbrev pub scan_in : List ℕ → ℕ → List ℕ → Asked ℕ → Asked Found
scan_in doc c key (halt number place u) = refuses number place
scan_in doc c key (done n u) = ask (scan_from doc c n key (n - 0) 0)

scan_in_object : (doc : List ℕ) (c : ℕ) (key : List ℕ) (o : Asked ℕ) → ask (object_here doc c) ≡ o → ask (scan_here doc c key) ≡ scan_in doc c key o
unfolding scan_here
scan_in_object doc c key (halt number place u) e = stops _ _ tt e
scan_in_object doc c key (done n u) e = let z : n - 0 ≡ n = omega arith in then _ _ tt e ∙ rw z

pub scan_by_object : (doc : List ℕ) (c : ℕ) (key : List ℕ) → ask (scan_here doc c key) ≡ scan_in doc c key (ask (object_here doc c))
scan_by_object doc c key = scan_in_object doc c key _ refl

pub ruleset scan_laws = (scan_member, scan_end, scan_by_object, rules)

pub ruleset scan_here_laws = (scan_by_object, rules)

-- ---- both, opened, and then what they ask

module _ (doc : List ℕ) (c : ℕ) (key : List ℕ) where
  module _ (r : Refusal) (e : ask (opening doc c) ≡ refuses r.number r.place) where
    pub lookup_closed : ask (quick_lookup doc c key) ≡ refuses r.number r.place
    unfolding quick_lookup
    lookup_closed = stops _ _ tt e

    pub scan_closed : ask (plain_scan doc c key) ≡ refuses r.number r.place
    unfolding plain_scan
    scan_closed = stops _ _ tt e

  module _ (e : ask (opening doc c) ≡ answers tt) where
    pub lookup_opened : ask (quick_lookup doc c key) ≡ ask (quick_here doc c key)
    unfolding quick_lookup
    lookup_opened = then _ _ tt e

    pub scan_opened : ask (plain_scan doc c key) ≡ ask (scan_here doc c key)
    unfolding plain_scan
    scan_opened = then _ _ tt e

pub ruleset quick_lookup_laws = (lookup_refused, lookup_closed, lookup_opened, rules)

pub ruleset plain_scan_laws = (scan_closed, scan_opened, rules)
