-- What a word names, as the code answers it: whatever number and place the caller refuses with.
use Rattle.std.specs.Prelude.{ℕ, ◌+◌, ◌≤◌, Bool, true, false, List, ◌≡◌, length, Option, Some, None, Result, Ok, Err}
use Rattle.json_model.specs.Reading.{Asked, ask, answers, refuses}
use Rattle.json_model.specs.Bytes.{number}
use Rattle.json_model.specs.declared.Span.{Span}
use Rattle.binary_json_rules.specs.Verdict.{slot_named, number_named}
use Rattle.binary_json_rules.specs.Questions.{slot_read, text_named}
use Rattle.binary_json_rules.specs.TreeOf.{slot_at}
use Rattle.binary_json_areas.specs.declared.named.NoNumber.{NoNumber}

abbrev pub SlotNamed : List ℕ → ℕ → Bool → Type 0
SlotNamed doc v true = (n p : ℕ) → ask (slot_named doc v n p) ≡ answers tt
SlotNamed doc v false = (n p : ℕ) → ask (slot_named doc v n p) ≡ refuses n p

abbrev pub NumberNamed : List ℕ → ℕ → Result ℕ NoNumber → Type 0
NumberNamed doc v (Ok bits) = (bits ≡ number doc v 8) × ((n p : ℕ) → ask (number_named doc v n p) ≡ answers tt)
NumberNamed doc v (Err NoNumber.NotFinite) = (n p : ℕ) → ask (number_named doc v n p) ≡ refuses 10 p
NumberNamed doc v (Err NoNumber.Outside) = (n p : ℕ) → ask (number_named doc v n p) ≡ refuses n p

-- a text asked for at any cursor; one that is answered lies inside the document
abbrev pub TextAsked : List ℕ → (ℕ → Asked Span) → Option Span → Type 0
TextAsked doc asked (Some s) = (s.place + s.len ≤ length doc) × ((c : ℕ) → asked c ≡ answers s)
TextAsked doc asked None = (c : ℕ) → asked c ≡ refuses 20 c

-- the text of slot k, where k is the number of the slot at v
abbrev pub TextRead : List ℕ → ℕ → Option Span → Type 0
TextRead doc v t = TextAsked doc (λ c. ask (slot_read doc (slot_at doc v) c)) t

-- the text that v names, if it names a slot
abbrev pub TextNamed : List ℕ → ℕ → Option Span → Type 0
TextNamed doc v t = TextAsked doc (λ c. ask (text_named doc v c)) t
