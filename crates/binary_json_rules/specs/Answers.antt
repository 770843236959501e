-- What a tree says to the questions: docs/format/BINARY_JSON.md, section 9.4. The kind and size of the container that
-- stands for it, and the type of the Entry that does.
use Rattle.std.specs.Prelude.{ℕ, true, false}
use Rattle.json_model.specs.Tree.{Tree, null, bool, num, str, arr, obj, size, sizem}
use Rattle.binary_json_rules.specs.Questions.{Sized}

abbrev pub sized : ℕ → ℕ → Sized
sized k n = record { kind = k; size = n }

-- a scalar stands alone in a container of kind 2
unfoldable pub sized_as : Tree → Sized
sized_as null = sized 2 1
sized_as (bool b) = sized 2 1
sized_as (num s m) = sized 2 1
sized_as (str s) = sized 2 1
sized_as (arr ts) = sized 0 (size ts)
sized_as (obj ms) = sized 1 (sizem ms)

unfoldable pub typed_as : Tree → ℕ
typed_as (bool false) = 0
typed_as (bool true) = 1
typed_as null = 2
typed_as (str s) = 3
typed_as (num s m) = 4
typed_as (arr ts) = 5
typed_as (obj ms) = 5
