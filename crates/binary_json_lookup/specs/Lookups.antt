-- What the functions that look a key up say to one another.
use Rattle.std.specs.Prelude.{ℕ, ◌≤◌, ◌<◌, Bool, List, ◌≡◌, Option, Some, None, Result, Ok, Err}
use Rattle.std.specs.declared.cmp.Ordering.{Ordering}
use Rattle.json_model.specs.Bytes.{part}
use Rattle.json_model.specs.Reading.{ask, answers, refuses}
use Rattle.json_model.specs.declared.Span.{Span}
use Rattle.json_model.specs.Texts.{compare_texts, is_equal}
use Rattle.binary_json_rules.specs.Questions.{slot_read, text_named}
use Rattle.binary_json_rules.specs.Halving.{Item, compares, unreadable, Halved, found, missed, broken}
use Rattle.binary_json_rules.specs.Lookup.{string_item}
use Rattle.binary_json_lookup.specs.declared.lookup.Halving.{Halving}

-- the text that the offset v names is the key x, or it is another
abbrev pub Matches : List ℕ → ℕ → List ℕ → Bool → Type 0
Matches doc v x b = (s : Span) × ((c : ℕ) → ask (text_named doc v c) ≡ answers s) × (b ≡ is_equal (compare_texts (part doc s.place s.len) x))

abbrev pub TextMatched : List ℕ → ℕ → List ℕ → Option Bool → Type 0
TextMatched doc v x (Some b) = Matches doc v x b
TextMatched doc v x None = (c : ℕ) → ask (text_named doc v c) ≡ refuses 20 c

abbrev pub told_item : Option Ordering → Item
told_item (Some o) = compares o
told_item None = unreadable

-- a comparison of n items by their indices, which says of each how it compares with what is sought
pub record Compares (post : ℕ → Option Ordering → Type 0) (item : ℕ → Item) (n : ℕ) : Type 0 where
  pub says : (k : ℕ) (r : Option Ordering) → k < n → post k r → told_item r ≡ item k

-- the items of the first halving
unfoldable pub string_items : List ℕ → List ℕ → ℕ → Item
string_items doc x k = string_item doc x (ask (slot_read doc k 0))

abbrev pub told_end : Result ℕ ℕ → ℕ → Halved
told_end (Ok k) t = found k t
told_end (Err k) t = missed k t

abbrev pub told_halving : Option Halving → Halved
told_halving (Some h) = told_end h.at h.turns
told_halving None = broken

-- what is found is one of m items
abbrev pub WithinAt : Result ℕ ℕ → ℕ → Type 0
WithinAt (Ok k) m = k < m
WithinAt (Err k) m = k ≤ m

abbrev pub Within : Option Halving → ℕ → Type 0
Within (Some h) m = WithinAt h.at m
Within None m = Unit {0}
