use Rattle.binary_json_check.proofs.Walks.{key_laws}
use Rattle.binary_json_check.proofs.walk.key_entries.Goals.{then-v-before-via-then-v-before, then-v-before-via-else-v-before+then-v-index-ne0, then-v-before-via-else-v-before+else-v-index-ne0+then-end-v}
use Rattle.binary_json_check.proofs.walk.key_entries.Goals as goal

pub returns-then-v-before : goal.returns-then-v-before
returns-then-v-before c = rw c.refuse.ensures (elim c.then-v-before.branch [
  | then-v-before-via-then-v-before w ↦ search key_laws
  | then-v-before-via-else-v-before+then-v-index-ne0 w ↦ search key_laws
  | then-v-before-via-else-v-before+else-v-index-ne0+then-end-v w ↦ search key_laws
])
