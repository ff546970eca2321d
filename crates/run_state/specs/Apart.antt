-- Lines that may be out together.
use Rattle.std.specs.Prelude.{ℕ, IsTrue}
use Rattle.graph_terms.specs.Graph.{GraphValue}
use Rattle.graph_terms.specs.Access.{is_reduction, Conflict}
use Rattle.graph_meaning.specs.Rules.{Exempt}

-- two lines conflict nowhere but where both reduce, and there they are exempt
pub record ConflictOnlyExempt (g : GraphValue) (i j : ℕ) : Type 0 where
  pub reduces : (c : Conflict g i j) → IsTrue (is_reduction c.one.mode)
  pub other_reduces : (c : Conflict g i j) → IsTrue (is_reduction c.other.mode)
  pub are_exempt : Conflict g i j → Exempt g i j
