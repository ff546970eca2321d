use Rattle.column_pieces.proofs.Outcomes.{outcome_of_pieces}
use Rattle.column_pieces.proofs.laws.outcome_of_pieces.Goals as goal

pub returns : goal.returns
returns c = outcome_of_pieces c.changes_within_accesses.ensures
