use Rattle.column_pieces.proofs.Acceptance.{pieces_are_accepted}
use Rattle.column_pieces.proofs.laws.pieces_are_accepted.Goals as goal

pub returns : goal.returns
returns c = pieces_are_accepted c.later_formats_keep_meaning.ensures
