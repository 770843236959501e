-- One law for each way through the functions of lib.rt: its premises are the tests as the code makes them.
use mathlib.Core.Path.{◌≡◌, refl, sym, ◌∙◌, ap}
use mathlib.Core.Bool.{Bool, true, false, ◌&&◌}
use mathlib.Core.List.{List, [], ◌∷◌}
use mathlib.Core.Option.{some, none}
use Prim.Native.Nat.{ℕ, ◌*◌, ◌/◌, ◌<◌, ◌≤◌}
use borrow.Author.Rules.{rules}
use borrow.Author.Tests.{lt-ltb, le-ltb, ne_eqb, eq-eqb, eqb-true, eqb-false}
use lib.Dec.{eqb}
use lib.ListN.{length, take, replicate}
use Rattle.std.specs.Prelude.{nat_eq}
use Rattle.std.specs.List.{starts_with}
use Rattle.json_model.specs.Choose.{choose}
use Rattle.json_model.specs.Limits.{longest_line, bench_marks, bench_keys}
use Rattle.json_model.specs.Reading.{told, verdict_of}
use Rattle.std.specs.Prelude.{Result}
use Rattle.json_model.specs.declared.Refusal.{Refusal}
use Rattle.binary_json_rules.specs.Verdict as Binary
use Rattle.fractured_json_rules.specs.KeyList.{no_names}
use Rattle.fractured_json_rules.specs.Verdict as Fractured
use Rattle.fractured_json_rules.specs.KeyTable.{room_of, checked}
use Rattle.binary_json_check.specs.Told.{told_marks}
use Rattle.binary_json_check.proofs.Told.{verdict_told}
use Rattle.fractured_json_check.specs.Told.{told_checked}
use Rattle.fractured_json_check.specs.declared.answers.Checked.{Checked}
use Rattle.frame.specs.Decoded.{Decoded}
use Rattle.frame_rules.specs.Frame.{is_fractured, frame_of, bytes_of, answer_of}
use Rattle.frame_rules.specs.Frame as Frame

-- ---- the format

turned : (x k : ℕ) → eqb k x ≡ eqb x k
turned x k = go (eqb x k) refl
  where
    go : (b : Bool) → eqb x k ≡ b → eqb k x ≡ b
    go true e = eq-eqb k x (sym (eqb-true x k e))
    go false e = ne_eqb k x (λ q. eqb-false x k e (sym q))

first_only : (b : Bool) → (b && false) ≡ choose b false false
unfolding choose
first_only true = refl
first_only false = refl

first_and_second : (b d : Bool) → (b && (d && true)) ≡ choose b d false
unfolding choose
first_and_second true true = refl
first_and_second true false = refl
first_and_second false d = refl

pub starts : (doc : List ℕ) → starts_with nat_eq doc (0x46 ∷ 0x4A ∷ []) ≡ is_fractured doc
unfolding is_fractured choose
starts [] = refl
starts (x ∷ []) = rw (turned x 0x46) (first_only (eqb x 0x46))
starts (x ∷ y ∷ doc) = rw (turned x 0x46, turned y 0x4A) (first_and_second (eqb x 0x46) (eqb y 0x4A))

pub ruleset format_laws = (starts, rules)

-- ---- a frame

room_is : (words : List ℕ) → 2 * bench_keys ≡ length words → room_of words ≡ bench_keys
unfolding room_of
room_is words l = rw (sym l)

pub with_room : (doc words after : List ℕ) (c : Checked) → told_checked c after ≡ checked doc no_names words → 2 * bench_keys ≡ length words
    → told c.verdict ≡ verdict_of (Fractured.verdict bench_keys doc no_names)
with_room doc words after c e l = ap (λ k. k.verdict) e ∙ rw (room_is words l)

pub with_marks : (doc marks after : List ℕ) (v : Result (Unit {0}) Refusal) → told_marks v after ≡ Binary.verdict doc marks → marks ≡ replicate bench_marks 0
    → told v ≡ verdict_of (Binary.verdict doc (replicate bench_marks 0))
with_marks doc marks after v e l = verdict_told v after ∙ (ap verdict_of e ∙ rw l)

module _ (doc : List ℕ) (b : Bool) (f : b ≡ is_fractured doc) (v : Result (Unit {0}) Refusal) where
  pub as_fractured : b ≡ true → told v ≡ verdict_of (Fractured.verdict bench_keys doc no_names) → Frame.fractured (told v) ≡ frame_of doc
  unfolding frame_of choose
  as_fractured t e = rw (sym f, t, e)

  pub as_binary : b ≡ false → told v ≡ verdict_of (Binary.verdict doc (replicate bench_marks 0)) → Frame.binary (told v) ≡ frame_of doc
  unfolding frame_of choose
  as_binary t e = rw (sym f, t, e)

-- ---- a line

module _ (line : List ℕ) where
  pub too_long : longest_line < length line → Frame.long ≡ answer_of line
  unfolding answer_of choose
  too_long h = rw (lt-ltb longest_line (length line) h)

  module _ (h : length line ≤ longest_line) (out : List ℕ) (b : Bool) (d : Decoded line out b) where
    pub not_hex : b ≡ false → Frame.hex ≡ answer_of line
    unfolding answer_of choose
    not_hex e = let n : bytes_of line ≡ none = rw e at d in rw (le-ltb longest_line (length line) h, n)

    pub answered : b ≡ true → (a : Frame.Answer) → a ≡ frame_of (take (length line / 2) out) → a ≡ answer_of line
    unfolding answer_of choose
    answered e a w = let n : bytes_of line ≡ some (take (length line / 2) out) = rw e at d in rw (le-ltb longest_line (length line) h, n, w)

pub ruleset frame_laws = (with_room, with_marks, as_fractured, as_binary, too_long, not_hex, answered, rules)
