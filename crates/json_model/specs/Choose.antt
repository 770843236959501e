-- Choosing between two things by a test: the one case distinction that every definition of the project uses.
use Rattle.std.specs.Prelude.{Bool, true, false}

unfoldable pub choose : {A : Type 0} → Bool → A → A → A
choose true a b = a
choose false a b = b
