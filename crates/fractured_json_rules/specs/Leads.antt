-- Which values the root of a Fractured JSON document leads to, by the bytes alone (docs/format/FRACTURED_JSON.md,
-- section 9): the root value at 3, and each element and each member's value of one it leads to. Element i stands after
-- the i values before it, a member after the members before it, and its value after its key.
use Rattle.std.specs.Prelude.{ℕ, ◌<◌, List, ◌++◌, ◌≡◌, get_or}
use Rattle.json_model.specs.Limits.{deepest}
use Rattle.json_model.specs.Tree.{Tree}
use Rattle.fractured_json_rules.specs.ByteTables.{Len, f_object, f_array, form_of}
use Rattle.fractured_json_rules.specs.Meaning.{after_length, Names, Keys, ValueIs}
use Rattle.fractured_json_rules.specs.KeyList.{steps}
use Rattle.fractured_json_rules.specs.TreeOf.{length_in, key_end, end_at}

-- where element i of the array at o stands, and the key byte of member j of the object at o
abbrev pub element_place : List ℕ → ℕ → Len → ℕ → ℕ
element_place doc o x i = steps (end_at deepest doc) i (after_length o x)

abbrev pub key_place : List ℕ → ℕ → Len → ℕ → ℕ
key_place doc o x j = steps (λ m. end_at deepest doc (key_end doc m)) j (after_length o x)

pub data Leads (doc : List ℕ) : ℕ → Type 0 where
  root : Leads doc 3
  element : (o : ℕ) (x : Len) (i : ℕ) → Leads doc o → form_of (get_or doc o 0) ≡ f_array x → i < length_in doc o x → Leads doc (element_place doc o x i)
  value : (o : ℕ) (x : Len) (j : ℕ) → Leads doc o → form_of (get_or doc o 0) ≡ f_object x → j < length_in doc o x → Leads doc (key_end doc (key_place doc o x j))

-- ---- what a value stands for

-- the keys met are a first part of the keys ks
pub record FirstOf (met ks : Keys) : Type 0 where
  pub rest : Keys
  pub same : ks ≡ met ++ rest

-- The value at o stands for the tree u and ends at `past`. The key list's names are `names`, the document's immediate keys ks:
-- `before` are those met before the value, `met` those met up to its end, a first part of ks.
pub record StandsFor (doc : List ℕ) (names : Names) (ks : Keys) (o : ℕ) (u : Tree) : Type 0 where
  pub before : Keys
  pub past : ℕ
  pub met : Keys
  pub value : ValueIs doc names u o before past met
  pub first : FirstOf met ks
