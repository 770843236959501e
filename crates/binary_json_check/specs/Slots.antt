-- What the functions that read the string index say to one another: rules 5 and 6 at slot k, and over all slots.
use Rattle.std.specs.Prelude.{ℕ, suc, ◌≤◌, ◌<◌, List, ◌≡◌, length, Result, Ok, Err}
use Rattle.json_model.specs.Reading.{Asked, ask, answers, refuses, need}
use Rattle.binary_json_rules.specs.Areas.{count, slot, text, numbers}
use Rattle.binary_json_rules.specs.Verdict.{ascends, slot_rules, slots}
use Rattle.json_model.specs.declared.Refusal.{Refusal}

-- text k starts at `start`, and the text before it, if there is one, at `before`
pub record Texts (doc : List ℕ) (k before start : ℕ) : Type 0 where
  pub start_is : start ≡ text doc k
  pub inside : start ≤ length doc
  pub prior : (j : ℕ) → k ≡ suc j → (before ≡ text doc j) × (before < start)

-- where the text of slot k ends, and what the slot's rules then say; or its refusal
abbrev pub SlotEnds : List ℕ → ℕ → Asked (Unit {0}) → Result ℕ Refusal → Type 0
SlotEnds doc k rest (Ok e) = (e ≡ text doc (suc k)) × (text doc k < e) × (e ≤ length doc) × (ask (slot_rules doc k) ≡ rest)
SlotEnds doc k rest (Err r) = ask (slot_rules doc k) ≡ refuses r.number r.place

-- slot k keeps rule 5, and rule 6 is left
abbrev pub Rule5 : List ℕ → ℕ → Result ℕ Refusal → Type 0
Rule5 doc k w = SlotEnds doc k (ask (need (ascends doc k) 6 (slot doc k))) w

-- slot k keeps rules 5 and 6
abbrev pub SlotKeeps : List ℕ → ℕ → Result ℕ Refusal → Type 0
SlotKeeps doc k w = SlotEnds doc k (answers tt) w

-- all slots: the numbers start where the last text ends
abbrev pub SlotsRead : List ℕ → Result ℕ Refusal → Type 0
SlotsRead doc (Ok e) = (e ≡ numbers doc) × (slot doc (count doc) ≤ e) × (e ≤ length doc) × (ask (slots doc (count doc) 0) ≡ answers tt)
SlotsRead doc (Err r) = ask (slots doc (count doc) 0) ≡ refuses r.number r.place
