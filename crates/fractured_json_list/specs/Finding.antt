-- A text among the names: in one pass, and what the answer says of a good list, whose names are distinct.
use Rattle.std.specs.Prelude.{ℕ, zero, suc, ◌+◌, ◌<◌, Bool, false, List, Option, Some, None, ◌≡◌, eqb}
use Rattle.json_model.specs.Choose.{choose}
use Rattle.json_model.specs.Texts.{compare_texts, is_equal}
use Rattle.fractured_json_rules.specs.Meaning.{key_text}
use Rattle.fractured_json_rules.specs.KeyList.{name_at, next_name, count_in, name_of}

-- the first with the text x of n names from o on, of which the first is name j
unfoldable pub named_from : List ℕ → List ℕ → ℕ → ℕ → ℕ → Option ℕ
named_from list x zero o j = None
named_from list x (suc n) o j = choose (is_equal (compare_texts (key_text list (name_at list o)) x)) (Some j) (named_from list x n (next_name list o) (j + 1))

-- name j is the one named
abbrev pub is_named : ℕ → Option ℕ → Bool
is_named j (Some k) = eqb j k
is_named j None = false

-- a name has the text x exactly if it is the one named
pub record Named (list x : List ℕ) (named : Option ℕ) : Type 0 where
  pub each : (j : ℕ) → j < count_in list → is_equal (compare_texts (key_text list (name_of list j)) x) ≡ is_named j named
