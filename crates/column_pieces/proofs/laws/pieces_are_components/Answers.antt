use Rattle.column_pieces.proofs.Components.{pieces_are_components}
use Rattle.column_pieces.proofs.laws.pieces_are_components.Goals as goal

pub returns : goal.returns
returns c = pieces_are_components
