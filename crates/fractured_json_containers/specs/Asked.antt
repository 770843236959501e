-- What the code answers at a key, and on its way to the first member by key.
use Rattle.std.specs.Prelude.{ℕ, ◌-◌, ◌<◌, Bool, List, ◌≡◌, Option, Result, Ok, Err}
use Rattle.std.specs.declared.ops.ControlFlow.{ControlFlow}
use Rattle.std.specs.declared.ops.ControlFlow.TheVariants.{Continue, Break}
use Rattle.json_model.specs.Reading.{Reading, Asked, ask, answers, refuses}
use Rattle.json_model.specs.Texts.{compare_texts, is_equal}
use Rattle.json_model.specs.declared.Refusal.{Refusal}
use Rattle.fractured_json_rules.specs.KeyList.{count_in, name_of}
use Rattle.fractured_json_rules.specs.Verdict.{value}
use Rattle.fractured_json_rules.specs.Questions.{the_document, the_list, KeyRead, text_in, read_key, pass_key, find_from}
use Rattle.fractured_json_answers.specs.Told.{found_of}
use Rattle.fractured_json_containers.specs.declared.skip.KeyText.{KeyText}
use Rattle.fractured_json_containers.specs.declared.skip.Lent.{Lent}
use Rattle.fractured_json_containers.specs.declared.lookup.Compared.{Compared}

-- ---- what a question is lent

-- the key at a place, where it ends, and where a value ends, with so many levels left
abbrev pub key_by : {S : Type 0} → Lent → ℕ → Reading S KeyRead
key_by l = read_key l.doc.now l.list.now l.keys.now l.count

abbrev pub key_end : {S : Type 0} → Lent → ℕ → Reading S ℕ
key_end l = pass_key l.doc.now l.list.now l.keys.now l.count

abbrev pub value_end : {S : Type 0} → Lent → ℕ → ℕ → Reading S ℕ
value_end l levels = value (key_end l) levels l.doc.now

-- ---- keys

-- a key in the document, and one that is name j of the key list
abbrev pub in_document : ℕ → ℕ → ℕ → KeyRead
in_document start len past = record { lender = the_document; place = start; len = len; past = past }

abbrev pub in_list : List ℕ → ℕ → ℕ → KeyRead
in_list list j past = record { lender = the_list; place = (name_of list j).start; len = (name_of list j).len; past = past }

-- the number of a name is under the count, which has 16 bits
abbrev pub ReadsKey : List ℕ → Asked KeyRead → Result KeyText Refusal → Type 0
ReadsKey list q (Ok (KeyText.At start len past)) = q ≡ answers (in_document start len past)
ReadsKey list q (Ok (KeyText.Name j past)) = (q ≡ answers (in_list list j past)) × (j < count_in list) × (j < 65_536)
ReadsKey list q (Err r) = q ≡ refuses r.number r.place

-- ---- the first member by key

-- the key at o ends at `past`, and b says whether it has the text x
pub record ComparesAs (doc list words : List ℕ) (count : ℕ) (x : List ℕ) (o : ℕ) (b : Bool) (past : ℕ) : Type 0 where
  pub key : KeyRead
  pub read : ask (read_key doc list words count o) ≡ answers key
  pub alike : is_equal (compare_texts (text_in doc list key) x) ≡ b
  pub ends : key.past ≡ past

abbrev pub Compares : List ℕ → List ℕ → List ℕ → ℕ → List ℕ → ℕ → Result Compared Refusal → Type 0
Compares doc list words count x o (Ok c) = ComparesAs doc list words count x o c.same c.past
Compares doc list words count x o (Err r) = ask (read_key doc list words count o) ≡ refuses r.number r.place

-- what is known of the first member with the key x from the member at o on, with so many after it
abbrev pub Looks : List ℕ → List ℕ → List ℕ → ℕ → List ℕ → ℕ → ℕ → Result (ControlFlow (Option ℕ) ℕ) Refusal → Type 0
Looks doc list words count x later o (Ok (Break found)) = ask (find_from doc list words count x later o) ≡ answers (found_of found)
Looks doc list words count x later o (Ok (Continue next)) =
    (later ≡ 0 → ⊥) × (ask (find_from doc list words count x later o) ≡ ask (find_from doc list words count x (later - 1) next))
Looks doc list words count x later o (Err r) = ask (find_from doc list words count x later o) ≡ refuses r.number r.place
