-- How an answer is handed over as numbers: docs/format/REFUSALS.md, section 8. A number is returned, and values are
-- written over the first of the lent words. Every export's contract goes through these definitions.
use Rattle.std.specs.Prelude.{ℕ, List, [], ◌∷◌, ltb, length}
use Rattle.std.proofs.lemmas.List.Edits.{sets}
use Rattle.json_model.specs.Choose.{choose}
use Rattle.json_model.specs.Reading.{Asked, halt, done}
use Rattle.json_model.specs.declared.Span.{Span}
use Rattle.binary_json_rules.specs.Questions as Binary
use Rattle.binary_json_rules.specs.Lookup.{Found, entry, absent, Lookup}
use Rattle.fractured_json_rules.specs.Questions as Fractured
use Rattle.std.specs.declared.cmp.Ordering.{Ordering}
use Rattle.std.specs.declared.cmp.Ordering.TheVariants.{Less, Equal, Greater}

pub record Coded : Type 0 where
  pub number : ℕ
  pub values : List ℕ

abbrev pub code : ℕ → List ℕ → Coded
code n vs = record { number = n; values = vs }

-- 0 and the values of an answer, or the number of a refusal and its place
abbrev pub coded : {A : Type 0} → (A → List ℕ) → Asked A → Coded
coded values (done a s) = code 0 (values a)
coded values (halt number place s) = code number (place ∷ [])

-- what is returned, and the lent words afterwards
pub record Handed : Type 0 where
  pub number : ℕ
  pub words : List ℕ

abbrev pub hands : ℕ → List ℕ → Handed
hands n ws = record { number = n; words = ws }

unfoldable pub given : List ℕ → Coded → Handed
given words c = hands c.number (sets words 0 c.values)

-- a call needs as many words as the longest of its answers takes; where fewer are lent, 255 is returned and nothing is written
unfoldable pub handed : ℕ → List ℕ → Coded → Handed
handed need words c = choose (ltb (length words) need) (hands 255 words) (given words c)

-- ---- the values of each answer

abbrev pub nothing : Unit {0} → List ℕ
nothing u = []

abbrev pub one : ℕ → List ℕ
one n = n ∷ []

abbrev pub place_and_length : Span → List ℕ
place_and_length s = s.place ∷ s.len ∷ []

-- kind (0 array, 1 object, 2 top-level scalar) and size
abbrev pub sized : Binary.Sized → List ℕ
sized s = s.kind ∷ s.size ∷ []

-- slot and Entry
abbrev pub member_at : Binary.MemberAt → List ℕ
member_at m = m.slot ∷ m.entry ∷ []

-- 1 and the Entry, or 0
abbrev pub found : Found → List ℕ
found (entry o) = 1 ∷ o ∷ []
found absent = 0 ∷ []

-- 1, both counts and the Entry, or 0 and both counts; of a refusal, the place and both counts
abbrev pub counted_by : ℕ → ℕ → Asked Found → Coded
counted_by m n (done (entry o) s) = code 0 (1 ∷ m ∷ n ∷ o ∷ [])
counted_by m n (done absent s) = code 0 (0 ∷ m ∷ n ∷ [])
counted_by m n (halt number place s) = code number (place ∷ m ∷ n ∷ [])

abbrev pub counted : Lookup → Coded
counted l = counted_by l.first l.second l.answer

-- kind (0 null, 1 false, 2 true, 3 number, 4 string, 5 object, 6 array), and the length of a string or container
abbrev pub kind : Fractured.Kind → List ℕ
kind Fractured.is_null = 0 ∷ []
kind Fractured.is_false = 1 ∷ []
kind Fractured.is_true = 2 ∷ []
kind Fractured.is_number = 3 ∷ []
kind (Fractured.is_string n) = 4 ∷ n ∷ []
kind (Fractured.is_object n) = 5 ∷ n ∷ []
kind (Fractured.is_array n) = 6 ∷ n ∷ []

-- type byte and 64 bits
abbrev pub bits : Fractured.Bits → List ℕ
bits b = b.type ∷ b.bits ∷ []

-- key byte and value
abbrev pub key_and_value : Fractured.MemberAt → List ℕ
key_and_value m = m.key ∷ m.value ∷ []

-- 1 and the value, or 0
abbrev pub value_at : Fractured.Found → List ℕ
value_at (Fractured.value_at o) = 1 ∷ o ∷ []
value_at Fractured.absent = 0 ∷ []

-- 0 the document, 1 the key list
abbrev pub lender_of : Fractured.Lender → ℕ
lender_of Fractured.the_document = 0
lender_of Fractured.the_list = 1

-- lender, the text's place and length there, and where the value starts
abbrev pub key_at : Fractured.KeyRead → List ℕ
key_at k = lender_of k.lender ∷ k.place ∷ k.len ∷ k.past ∷ []

-- the number of pairs, after the place of a refusal
abbrev pub checked_by : ℕ → Asked (Unit {0}) → Coded
checked_by count (done u s) = code 0 (count ∷ [])
checked_by count (halt number place s) = code number (place ∷ count ∷ [])

-- 0 below, 1 equal, 2 above
abbrev pub order_number : Ordering → ℕ
order_number Less = 0
order_number Equal = 1
order_number Greater = 2

-- the order of two texts, and the steps
abbrev pub compared : Ordering → ℕ → Coded
compared o steps = code 0 (order_number o ∷ steps ∷ [])
