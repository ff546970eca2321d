use Rattle.column_pieces.proofs.Cuts.{pieces_cut}
use Rattle.column_pieces.proofs.laws.pieces_cut.Goals as goal

pub returns : goal.returns
returns c = pieces_cut
