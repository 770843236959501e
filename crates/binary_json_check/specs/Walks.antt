-- What the functions that walk the tree say to one another.
use Rattle.std.specs.Prelude.{ℕ, ◌+◌, ◌*◌, ◌≤◌, ◌<◌, List, ◌≡◌, leb, Option, Some, None, Result, Ok, Err}
use Rattle.json_model.specs.Reading.{Outcome, halt, done, Reading, ◌>>=◌, ◌>>◌, need}
use Rattle.binary_json_rules.specs.Areas.{low, high, index, kind_of}
use Rattle.binary_json_rules.specs.Verdict.{entry, entries, container_by, root_by, all_marked}
use Rattle.json_model.specs.declared.Refusal.{Refusal}
use Rattle.binary_json_check.specs.declared.walk.Entries.{Entries}

-- an Entry, whatever reads the containers below it
abbrev pub on_step : Result (Option ℕ) Refusal → (ℕ → Reading (List ℕ) (Unit {0})) → List ℕ → Outcome (List ℕ) (Unit {0})
on_step (Ok None) child marks = done tt marks
on_step (Ok (Some o)) child marks = child o marks
on_step (Err r) child marks = halt r.number r.place marks

-- a container stands past its parent's Meta
abbrev pub Past : ℕ → Result (Option ℕ) Refusal → Type 0
Past c (Ok None) = Unit {0}
Past c (Ok (Some o)) = c < o
Past c (Err r) = Unit {0}

unfoldable pub Stepped : List ℕ → ℕ → ℕ → Result (Option ℕ) Refusal → Type 0
Stepped doc c at s = Past c s × ((child : ℕ → Reading (List ℕ) (Unit {0})) (marks : List ℕ) → on_step s child marks ≡ entry doc child c at marks)

-- the container at o; `child` reads the containers below it
unfoldable pub container_with : List ℕ → ℕ → (ℕ → Reading (List ℕ) (Unit {0})) → List ℕ → Outcome (List ℕ) (Unit {0})
container_with doc o child marks = (need (leb (o + 4) (index doc)) 8 o >>= λ _. container_by doc child o (high doc o) (kind_of (low doc o))) marks

-- what is known of its body before an Entry is read: where its Entries stand, or its refusal; with the marks before and
-- after
unfoldable pub BodyIs : List ℕ → ℕ → List ℕ → List ℕ → Result Entries Refusal → Type 0
BodyIs doc o marks after (Ok b) =
    (b.first + 4 * b.count ≤ index doc) × ((child : ℕ → Reading (List ℕ) (Unit {0})) → entries doc child o b.count b.first after ≡ container_with doc o child marks)
BodyIs doc o marks after (Err r) = (child : ℕ → Reading (List ℕ) (Unit {0})) → halt r.number r.place after ≡ container_with doc o child marks

-- the walk, and rule 13
unfoldable pub walk_all : List ℕ → Reading (List ℕ) (Unit {0})
walk_all doc = do
  root_by doc (kind_of (low doc 4))
  all_marked doc
