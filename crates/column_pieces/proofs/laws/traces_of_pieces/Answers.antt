use Rattle.column_pieces.proofs.Acceptance.{traces_of_pieces}
use Rattle.column_pieces.proofs.laws.traces_of_pieces.Goals as goal

pub returns : goal.returns
returns c = traces_of_pieces
