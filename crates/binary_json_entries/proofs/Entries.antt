-- Questions at an Entry and at a slot, one law for each way through the code: of the fields that stand at the cursor.
use mathlib.Core.Path.{◌≡◌, refl, sym, ap, ◌∙◌}
use mathlib.Core.List.{List}
use Prim.Native.Nat.{ℕ, suc, ◌+◌, ◌≤◌, ◌<◌}
use native.Mathlib.Omega.{arith}
use borrow.Author.Rules.{rules}
use lib.Dec.{ltb, ltb→lt, lt→ltb, leb→le}
use lib.ListN.{length}
use Rattle.std.specs.Prelude.{Option, Some, None, Result, Ok, Err}
use Rattle.std.specs.Option.{ok_or}
use Rattle.json_model.specs.Bytes.{number}
use Rattle.json_model.specs.Reading.{halt, done, Asked, ask, answers, refuses, answer, ◌>>=◌, need}
use Rattle.json_model.specs.declared.Span.{Span}
use Rattle.json_model.specs.declared.Refusal.{Refusal}
use Rattle.json_model.proofs.Reading.{eq→eqb, past, unlike, then, stops, pass, fail, step, passed, need_yes, need_no, need_done, done_answer, assoc}
use Rattle.binary_json_rules.specs.Areas.{low, high, text, numbers}
use Rattle.binary_json_rules.specs.Questions.{opening, tree_word, slot_read, text_named, slot_text, type_here, entry_type, container_here, container_at, string_here, string_at, number_here, number_at}
use Rattle.binary_json_rules.specs.Verdict.{number_named}
use Rattle.binary_json_rules.specs.TreeOf.{slot_at}
use Rattle.binary_json_answers.specs.Told.{told_span, SpanInside}
use Rattle.binary_json_areas.specs.Naming.{TextAsked}
use Rattle.binary_json_entries.specs.Values.{entry_of_type}

-- ---- type

module _ (doc : List ℕ) (c : ℕ) where
  pub type_outside : (r : Refusal) → ask (tree_word doc c c) ≡ refuses r.number r.place → ask (type_here doc c) ≡ refuses r.number r.place
  unfolding type_here
  type_outside r e = stops _ _ tt e

  module _ (there : ask (tree_word doc c c) ≡ answers tt) where
    to_type : ask (type_here doc c) ≡ ask (need (ltb (low doc c) 6) 21 c >>= λ _. answer (low doc c))
    unfolding type_here
    to_type = then _ _ tt there

    pub typed : low doc c < 6 → ask (type_here doc c) ≡ answers (low doc c)
    typed h = to_type ∙ pass _ _ _ _ tt (lt→ltb _ _ h)

    pub untyped : 6 ≤ low doc c → ask (type_here doc c) ≡ refuses 21 c
    untyped h = to_type ∙ fail _ _ _ _ tt (past h)

pub ruleset type_here_laws = (type_outside, typed, untyped, rules)

-- ---- an Entry of one type

module _ (doc : List ℕ) (c k : ℕ) where
  pub value_outside : (r : Refusal) → ask (tree_word doc c c) ≡ refuses r.number r.place → ask (entry_of_type doc c k) ≡ refuses r.number r.place
  unfolding entry_of_type
  value_outside r e = stops _ _ tt e

  module _ (there : ask (tree_word doc c c) ≡ answers tt) where
    pub value_untyped : (low doc c ≡ k → ⊥) → ask (entry_of_type doc c k) ≡ refuses 21 c
    unfolding entry_of_type
    value_untyped q = then _ _ tt there ∙ need_no _ _ _ tt (unlike q)

    pub value_typed : low doc c ≡ k → ask (entry_of_type doc c k) ≡ answers tt
    unfolding entry_of_type
    value_typed q = then _ _ tt there ∙ need_yes _ _ _ tt (eq→eqb q)

pub ruleset value_laws = (value_outside, value_untyped, value_typed, rules)

module _ (doc : List ℕ) (c : ℕ) where
  -- ---- container

  to_container : ask (container_here doc c) ≡ ask (entry_of_type doc c 5 >>= λ _. tree_word doc (high doc c) c >>= λ _. answer (high doc c))
  unfolding container_here entry_of_type
  to_container = sym (assoc _ _ _ tt)

  pub no_container : (r : Refusal) → ask (entry_of_type doc c 5) ≡ refuses r.number r.place → ask (container_here doc c) ≡ refuses r.number r.place
  no_container r e = to_container ∙ stops _ _ tt e

  module _ (v : ℕ) (vs : v ≡ high doc c) (there : ask (entry_of_type doc c 5) ≡ answers tt) where
    pub container_nowhere : ask (tree_word doc v c) ≡ refuses 20 c → ask (container_here doc c) ≡ refuses 20 c
    container_nowhere named = to_container ∙ (then _ _ tt there ∙ stops _ _ tt (rw vs at named))

    pub container_found : ask (tree_word doc v c) ≡ answers tt → ask (container_here doc c) ≡ answers v
    container_found named = to_container ∙ (then _ _ tt there ∙ (then _ _ tt (rw vs at named) ∙ rw vs))

  -- ---- number

  to_number : ask (number_here doc c) ≡ ask (entry_of_type doc c 4 >>= λ _. number_named doc (high doc c) 20 c >>= λ _. answer (number doc (high doc c) 8))
  unfolding number_here entry_of_type
  to_number = sym (assoc _ _ _ tt)

  pub no_number : (r : Refusal) → ask (entry_of_type doc c 4) ≡ refuses r.number r.place → ask (number_here doc c) ≡ refuses r.number r.place
  no_number r e = to_number ∙ stops _ _ tt e

  module _ (v : ℕ) (vs : v ≡ high doc c) (there : ask (entry_of_type doc c 4) ≡ answers tt) where
    pub number_found : (bits : ℕ) → bits ≡ number doc v 8 → ask (number_named doc v 20 c) ≡ answers tt → ask (number_here doc c) ≡ answers bits
    number_found bits bs named = to_number ∙ (then _ _ tt there ∙ (then _ _ tt (rw vs at named) ∙ rw (bs, vs)))

    pub number_not_finite : ask (number_named doc v 20 c) ≡ refuses 10 c → ask (number_here doc c) ≡ refuses 10 c
    number_not_finite named = to_number ∙ (then _ _ tt there ∙ stops _ _ tt (rw vs at named))

    pub number_nowhere : ask (number_named doc v 20 c) ≡ refuses 20 c → ask (number_here doc c) ≡ refuses 20 c
    number_nowhere named = to_number ∙ (then _ _ tt there ∙ stops _ _ tt (rw vs at named))

  -- ---- string

  to_string : ask (string_here doc c) ≡ ask (entry_of_type doc c 3 >>= λ _. text_named doc (high doc c) c)
  unfolding string_here entry_of_type
  to_string = sym (assoc _ _ _ tt)

  pub no_string : (r : Refusal) → ask (entry_of_type doc c 3) ≡ refuses r.number r.place → ask (string_here doc c) ≡ refuses r.number r.place
  no_string r e = to_string ∙ stops _ _ tt e

  pub string_named : (v : ℕ) → v ≡ high doc c → ask (entry_of_type doc c 3) ≡ answers tt → ask (string_here doc c) ≡ ask (text_named doc v c)
  string_named v vs there = to_string ∙ (then _ _ tt there ∙ ap (λ o. ask (text_named doc o c)) (sym vs))

-- a text that is asked for at a cursor, and the refusal where there is none
pub text_told : (doc : List ℕ) (q : ℕ → Asked Span) (t : Option Span) (c : ℕ) → TextAsked doc q t → told_span (ok_or t (record { place = c; number = 20 })) ≡ q c
text_told doc q (Some s) c h = sym (h.1 c)
text_told doc q None c h = sym (h c)

pub ruleset container_here_laws = (no_container, container_nowhere, container_found, rules)

pub ruleset number_here_laws = (no_number, number_found, number_not_finite, number_nowhere, rules)

pub ruleset string_here_laws = (no_string, string_named, text_told, rules)

pub ruleset slot_here_laws = (text_told, rules)

-- ---- each question: opened, and then what it asks

module _ (doc : List ℕ) (c : ℕ) where
  module _ (r : Refusal) (e : ask (opening doc c) ≡ refuses r.number r.place) where
    pub type_closed : ask (entry_type doc c) ≡ refuses r.number r.place
    unfolding entry_type
    type_closed = stops _ _ tt e

    pub container_closed : ask (container_at doc c) ≡ refuses r.number r.place
    unfolding container_at
    container_closed = stops _ _ tt e

    pub number_closed : ask (number_at doc c) ≡ refuses r.number r.place
    unfolding number_at
    number_closed = stops _ _ tt e

    pub string_closed : ask (string_at doc c) ≡ refuses r.number r.place
    unfolding string_at
    string_closed = stops _ _ tt e

    pub slot_closed : ask (slot_text doc c) ≡ refuses r.number r.place
    unfolding slot_text
    slot_closed = stops _ _ tt e

  module _ (e : ask (opening doc c) ≡ answers tt) where
    pub type_opened : ask (entry_type doc c) ≡ ask (type_here doc c)
    unfolding entry_type
    type_opened = then _ _ tt e

    pub container_opened : ask (container_at doc c) ≡ ask (container_here doc c)
    unfolding container_at
    container_opened = then _ _ tt e

    pub number_opened : ask (number_at doc c) ≡ ask (number_here doc c)
    unfolding number_at
    number_opened = then _ _ tt e

    pub string_opened : ask (string_at doc c) ≡ ask (string_here doc c)
    unfolding string_at
    string_opened = then _ _ tt e

    pub slot_opened : ask (slot_text doc c) ≡ ask (text_named doc c c)
    unfolding slot_text
    slot_opened = then _ _ tt e

pub ruleset type_laws = (type_closed, type_opened, rules)

pub ruleset container_laws = (container_closed, container_opened, rules)

pub ruleset number_laws = (number_closed, number_opened, rules)

pub ruleset string_laws = (string_closed, string_opened, rules)

pub ruleset slot_laws = (slot_closed, slot_opened, rules)

-- ---- texts, as parts of the document

opening_inside : (doc : List ℕ) (c : ℕ) {u : Unit {0}} {z : Unit {0}} → ask (opening doc c) ≡ done u z → numbers doc ≤ length doc
unfolding opening
opening_inside doc c h =
    let s1 = step _ _ tt h in
    let s2 = passed _ _ _ _ _ s1.rest in
    leb→le _ _ (need_done _ _ _ _ s2.rest)

read_inside : (doc : List ℕ) (k c : ℕ) (t z : Unit {0}) (s : Span) → slot_read doc k c t ≡ done s z → numbers doc ≤ length doc → s.place + s.len ≤ length doc
unfolding slot_read
read_inside doc k c t z s h i =
    let s1 = passed _ _ _ _ t h in
    let s2 = passed _ _ _ _ t s1.rest in
    let s3 = passed _ _ _ _ t s2.rest in
    let f : text doc k < text doc (suc k) = ltb→lt _ _ s2.test in
    let b : text doc (suc k) ≤ numbers doc = leb→le _ _ s3.test in
    let e = done_answer s3.rest in
    rw (← e) (omega arith)

named_inside : (doc : List ℕ) (v c : ℕ) (t z : Unit {0}) (s : Span) → text_named doc v c t ≡ done s z → numbers doc ≤ length doc → s.place + s.len ≤ length doc
unfolding text_named
named_inside doc v c t z s h i = let s1 = step _ _ t h in read_inside doc (slot_at doc v) c _ z s s1.rest i

-- what is answered lies inside the document
abbrev pub Inside : List ℕ → Asked Span → Type 0
Inside doc (halt number place u) = Unit {0}
Inside doc (done s u) = s.place + s.len ≤ length doc

inside_by : (doc : List ℕ) (q : Asked Span) → ((s : Span) → q ≡ answers s → s.place + s.len ≤ length doc) → Inside doc q
inside_by doc (halt number place u) h = tt
inside_by doc (done s u) h = h s refl

pub string_lies : (doc : List ℕ) (c : ℕ) → Inside doc (ask (string_at doc c))
unfolding string_at string_here
string_lies doc c = inside_by doc _ (λ x h.
    let s1 = step _ _ tt h in
    let s2 = step _ _ _ s1.rest in
    let s3 = step _ _ _ s2.rest in
    named_inside doc (high doc c) c _ _ x s3.rest (opening_inside doc c s1.first))

pub slot_text_lies : (doc : List ℕ) (c : ℕ) → Inside doc (ask (slot_text doc c))
unfolding slot_text
slot_text_lies doc c = inside_by doc _ (λ x h.
    let s1 = step _ _ tt h in
    named_inside doc c c _ _ x s1.rest (opening_inside doc c s1.first))

pub ruleset string_text_laws = (string_lies, rules)

pub ruleset slot_text_laws = (slot_text_lies, rules)

-- of the code's own answers
span_inside : (doc : List ℕ) (s : Result Span Refusal) (q : Asked Span) → told_span s ≡ q → Inside doc q → SpanInside doc s
span_inside doc (Ok s) q e h = rw (sym e) at h
span_inside doc (Err r) q e h = tt

pub string_inside : (doc : List ℕ) (c : ℕ) (s : Result Span Refusal) → told_span s ≡ ask (string_at doc c) → SpanInside doc s
string_inside doc c s e = span_inside doc s _ e (string_lies doc c)

pub slot_text_inside : (doc : List ℕ) (c : ℕ) (s : Result Span Refusal) → told_span s ≡ ask (slot_text doc c) → SpanInside doc s
slot_text_inside doc c s e = span_inside doc s _ e (slot_text_lies doc c)
