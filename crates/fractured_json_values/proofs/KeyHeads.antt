-- A key by what the constant table says of its key byte is the rules' `key_by`, whatever goes on with the number that it carries.
use mathlib.Core.Path.{◌≡◌, refl, ◌∙◌}
use mathlib.Core.List.{List}
use Prim.Native.Nat.{ℕ}
use Rattle.std.specs.Prelude.{Option, Some, None}
use Rattle.json_model.specs.Reading.{halt, done, Reading, refuse, ask, answers, refuses, ◌>>=◌}
use Rattle.json_model.specs.declared.Refusal.{Refusal}
use Rattle.json_model.proofs.Reading.{then, stops}
use Rattle.fractured_json_rules.specs.ByteTables.{in_byte, spelled, KeyForm, immediate, back_reference, global_index, k_reserved, key_form_of}
use Rattle.fractured_json_rules.specs.Verdict.{byte_at, numeral, key_number_at, key_by}
use Rattle.fractured_json_rules.specs.Verdict as Rules
use Rattle.fractured_json_values.specs.Heads.{key_head, key_head_of, key_number_by, numbered_by}
use Rattle.fractured_json_values.specs.declared.types.KeyHead.{KeyHead}
use Rattle.fractured_json_values.specs.declared.types.KeyKind.{KeyKind}
use Rattle.fractured_json_values.proofs.Carried.{carry_byte, key_number_done, key_number_halts}

module _ {S A : Type 0} (doc : List ℕ) (o : ℕ) (byLength byNumber byIndex : Rules.Numeral → Reading S A) (s : S) where
  abbrev by_head : Option KeyHead → Reading S A
  by_head (Some h) = key_number_at doc o (key_number_by h.number) >>= numbered_by byLength byNumber byIndex h.kind
  by_head None = refuse 36 o

  by_form : (f : KeyForm) → key_by doc o byLength byNumber byIndex f s ≡ by_head (key_head_of f) s
  unfolding key_by
  by_form (immediate (in_byte n)) = refl
  by_form (immediate spelled) = refl
  by_form (back_reference (in_byte n)) = refl
  by_form (back_reference spelled) = refl
  by_form (global_index (in_byte n)) = refl
  by_form (global_index spelled) = refl
  by_form k_reserved = refl

  -- ---- the key at a place

  abbrev key_read : Reading S A
  key_read = byte_at doc o o >>= λ b. key_by doc o byLength byNumber byIndex (key_form_of b)

  pub byte_refused : (r : Refusal) → ask (byte_at doc o o) ≡ refuses r.number r.place → key_read s ≡ halt r.number r.place s
  byte_refused r q = stops _ _ s (carry_byte doc o o s ∙ rw q)

  module _ (b : ℕ) (q : ask (byte_at doc o o) ≡ answers b) where
    byte_read : byte_at doc o o s ≡ done b s
    byte_read = carry_byte doc o o s ∙ rw q

    pub head_reserved : None ≡ key_head_of (key_form_of b) → key_read s ≡ halt 36 o s
    head_reserved e = then _ _ s byte_read ∙ (by_form _ ∙ rw (← e))

    module _ (kind : KeyKind) (number : Option ℕ) (h : Some (key_head kind number) ≡ key_head_of (key_form_of b)) where
      pub head_numbered : key_read s ≡ (key_number_at doc o (key_number_by number) >>= numbered_by byLength byNumber byIndex kind) s
      head_numbered = then _ _ s byte_read ∙ (by_form _ ∙ rw (← h))

      pub number_refused : (r : Refusal) → ask (key_number_at doc o (key_number_by number)) ≡ refuses r.number r.place → key_read s ≡ halt r.number r.place s
      number_refused r e = head_numbered ∙ stops _ _ s (key_number_halts doc o _ _ _ s e)

      pub number_read : (n p : ℕ) → ask (key_number_at doc o (key_number_by number)) ≡ answers (numeral n p) → key_read s ≡ numbered_by byLength byNumber byIndex kind (numeral n p) s
      number_read n p e = head_numbered ∙ then _ _ s (key_number_done doc o _ _ s e)
