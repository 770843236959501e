-- The readings that neither look at the marks nor change them say the same whatever is kept. So what is proved of them
-- where nothing is kept, of the header, the slots and what a word names, holds beside the marks too.
use mathlib.Core.Path.{◌≡◌, refl}
use mathlib.Core.List.{List}
use Prim.Native.Nat.{ℕ, zero, suc, ◌+◌}
use Rattle.json_model.specs.Reading.{ask}
use Rattle.json_model.proofs.Reading.{carry, carry_then, carry_need, carry_test}
use Rattle.binary_json_rules.specs.Areas.{word}
use Rattle.binary_json_rules.specs.Verdict.{header, slot_rules, slots, slot_named, number_named, key_entries}

module _ {S : Type 0} where
  module _ (doc : List ℕ) where
    pub carry_header : (s : S) → header doc s ≡ carry s (ask (header doc))
    unfolding header
    carry_header s =
        carry_test _ _ _ _ _ s (carry_test _ _ _ _ _ s (carry_test _ _ _ _ _ s (carry_test _ _ _ _ _ s (carry_test _ _ _ _ _ s (carry_test _ _ _ _ _ s (carry_need _ _ _ s))))))

    carry_slot : (k : ℕ) (s : S) → slot_rules doc k s ≡ carry s (ask (slot_rules doc k))
    unfolding slot_rules
    carry_slot k s = carry_test _ _ _ _ _ s (carry_test _ _ _ _ _ s (carry_test _ _ _ _ _ s (carry_test _ _ _ _ _ s (carry_need _ _ _ s))))

    pub carry_slots : (n k : ℕ) (s : S) → slots doc n k s ≡ carry s (ask (slots doc n k))
    unfolding slots
    carry_slots zero k s = refl
    carry_slots (suc n) k s = carry_then _ _ _ _ s (carry_slot k s) (λ _. carry_slots n (suc k) s)

    pub carry_slot_named : (v n p : ℕ) (s : S) → slot_named doc v n p s ≡ carry s (ask (slot_named doc v n p))
    unfolding slot_named
    carry_slot_named v n p s = carry_test _ _ _ _ _ s (carry_test _ _ _ _ _ s (carry_need _ _ _ s))

    pub carry_number_named : (v n p : ℕ) (s : S) → number_named doc v n p s ≡ carry s (ask (number_named doc v n p))
    unfolding number_named
    carry_number_named v n p s = carry_test _ _ _ _ _ s (carry_test _ _ _ _ _ s (carry_test _ _ _ _ _ s (carry_need _ _ _ s)))

    pub carry_keys : (n p q : ℕ) (s : S) → key_entries doc n p q s ≡ carry s (ask (key_entries doc n p q))
    unfolding key_entries
    carry_keys zero p q s = refl
    carry_keys (suc n) p q s = carry_then _ _ _ _ s (carry_slot_named _ _ _ s) (λ _. carry_test _ _ _ _ _ s (carry_keys n (word doc q) (q + 4) s))
