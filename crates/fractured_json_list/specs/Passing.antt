-- The names as the code passes them: beside the place of a name it keeps the number of names before it, their pairs, and the links of
-- their chains. proofs/Alike.antt shows that this is the rules' reading of the names.
use Rattle.std.specs.Prelude.{ℕ, zero, suc, ◌+◌, ◌*◌, ◌/◌, ◌≤◌, min, not, List, leb, eqb, length, Result}
use Rattle.json_model.specs.Bytes.{number, part}
use Rattle.json_model.specs.Reading.{Reading, Asked, answer, ◌>>=◌, ◌>>◌, need, told_by}
use Rattle.json_model.specs.declared.Refusal.{Refusal}
use Rattle.fractured_json_rules.specs.KeyList.{next_name}
use Rattle.fractured_json_keys.specs.Passed.{with_pair}
use Rattle.fractured_json_keys.specs.Chains.{buckets_in, bucket_of, seen_in, linked_in}

-- where the next length stands, with the pairs and the links once a name has been passed
pub record NamePassed : Type 0 where
  pub next : ℕ
  pub words : List ℕ
  pub links : List ℕ

abbrev pub name_passed : ℕ → List ℕ → List ℕ → NamePassed
name_passed o ws ls = record { next = o; words = ws; links = ls }

-- name j passed, whose text of n bytes at p falls into the bucket b
unfoldable pub added : ℕ → ℕ → ℕ → ℕ → List ℕ → List ℕ → NamePassed
added j b p n words links = name_passed (p + n) (with_pair words j p n) (linked_in links j b)

-- name j, whose length n stands at o and whose text lies inside the list
unfoldable pub fresh_in : List ℕ → ℕ → ℕ → ℕ → List ℕ → List ℕ → Reading (Unit {0}) NamePassed
fresh_in list o n j words links = do
  need (not (seen_in list (part list (o + 2) n) words links j)) 54 o
  answer (added j (bucket_of (part list (o + 2) n) (buckets_in links)) (o + 2) n words links)

-- name j, whose length stands at o
unfoldable pub name_in : List ℕ → ℕ → ℕ → List ℕ → List ℕ → Reading (Unit {0}) NamePassed
name_in list o j words links = do
  need (leb (o + 2) (length list)) 52 o
  need (leb (next_name list o) (length list)) 52 (o + 2)
  fresh_in list o (number list o 2) j words links

-- n names from o on, the first of them name j, and then the end
unfoldable pub names_in : List ℕ → ℕ → ℕ → ℕ → List ℕ → List ℕ → Reading (Unit {0}) (Unit {0})
names_in list zero o j words links = need (eqb o (length list)) 53 o
names_in list (suc n) o j words links = do
  p ← name_in list o j words links
  names_in list n p.next (j + 1) p.words p.links

-- what the code answers of a name, with the pairs and the links that it left
abbrev pub told_step : Result ℕ Refusal → List ℕ → List ℕ → Asked NamePassed
told_step r words links = told_by (λ next. name_passed next words links) r

-- ---- what is known on the way

-- the most names that a 16-bit count can say
abbrev pub most_names : ℕ
most_names = 65_535

-- room for m names is enough for a list that says that it has n: a name takes two bytes or more
abbrev pub RoomFor : List ℕ → ℕ → ℕ → Type 0
RoomFor list n m = (n ≤ most_names) × (3 ≤ length list) × (min n (length list / 2) ≤ m)

-- where the length of name j can stand: a name before it takes two bytes or more, and no more than its length can say
pub record Placed (list : List ℕ) (j o : ℕ) : Type 0 where
  pub inside : o ≤ length list
  pub least : 2 * j ≤ o
  pub most : o ≤ 3 + j * 65_537
