-- The key list as it is read: docs/format/FRACTURED_JSON.md, section 4, with the numbers and places of
-- docs/format/REFUSALS.md, section 5. 51 to 54 in the order of reading: the config byte, the count, then each name, 54
-- before the next one, and 53 last. And where its names stand, meant for good lists alone.
use Rattle.std.specs.Prelude.{ℕ, zero, suc, ◌+◌, Bool, true, false, not, List, [], ◌∷◌, ◌++◌, ltb, leb, eqb, length, get_or}
use Rattle.json_model.specs.Bytes.{number}
use Rattle.json_model.specs.Choose.{choose}
use Rattle.json_model.specs.Reading.{Reading, ◌>>◌, need}
use Rattle.json_model.specs.Texts.{compare_texts, is_equal}
use Rattle.fractured_json_rules.specs.Meaning.{Key, Keys, key_text}

-- t is the text of one of the keys, which stand in doc
unfoldable pub met : List ℕ → List ℕ → Keys → Bool
met doc t [] = false
met doc t (k ∷ ks) = choose (is_equal (compare_texts (key_text doc k) t)) true (met doc t ks)

-- ---- 51 to 54

-- the name whose length stands at o: start and length of its text; and where the next length stands
abbrev pub name_at : List ℕ → ℕ → Key
name_at list o = record { start = o + 2; len = number list o 2 }

abbrev pub next_name : List ℕ → ℕ → ℕ
next_name list o = o + 2 + number list o 2

-- n names from o on, after the names ks, and then the end
unfoldable pub names_from : {S : Type 0} → List ℕ → ℕ → ℕ → Keys → Reading S (Unit {0})
names_from list zero o ks = need (eqb o (length list)) 53 o
names_from list (suc n) o ks = do
  need (leb (o + 2) (length list)) 52 o
  need (leb (next_name list o) (length list)) 52 (o + 2)
  need (not (met list (key_text list (name_at list o)) ks)) 54 o
  names_from list n (next_name list o) (ks ++ (name_at list o ∷ []))

-- how many names the list says that it has
abbrev pub count_in : List ℕ → ℕ
count_in list = number list 1 2

unfoldable pub key_list : {S : Type 0} → List ℕ → Reading S (Unit {0})
key_list list = do
  need (ltb 0 (length list)) 52 0
  need (eqb (get_or list 0 0) 0) 51 0
  need (leb 3 (length list)) 52 1
  names_from list (count_in list) 3 []

-- the list without a name
abbrev pub no_names : List ℕ
no_names = 0 ∷ 0 ∷ 0 ∷ []

-- ---- name j

-- n steps from o
unfoldable pub steps : (ℕ → ℕ) → ℕ → ℕ → ℕ
steps f zero o = o
steps f (suc n) o = steps f n (f o)

unfoldable pub name_of : List ℕ → ℕ → Key
name_of list j = name_at list (steps (next_name list) j 3)
