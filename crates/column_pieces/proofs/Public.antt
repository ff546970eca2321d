-- The laws that the proofs of other crates cite, as specs/ states them.
use Rattle.column_pieces.specs.Laws.{PiecesLieWithin, PiecesKeepSpaces, SpacesKeepNumbers, ColumnsArePieces, AccessesAreConnected, ConnectedByPoint, ConnectedLieWithin}
use Rattle.column_pieces.proofs.Cuts as cuts
use Rattle.column_pieces.proofs.Components as components
use Rattle.column_pieces.proofs.Within as within

pub pieces_lie_within : PiecesLieWithin
pieces_lie_within = within.pieces_lie_within

pub pieces_keep_spaces : PiecesKeepSpaces
pieces_keep_spaces = cuts.pieces_keep_spaces

pub spaces_keep_numbers : SpacesKeepNumbers
spaces_keep_numbers = cuts.spaces_keep_numbers

pub columns_are_pieces : ColumnsArePieces
columns_are_pieces = cuts.columns_are_pieces

pub accesses_are_connected : AccessesAreConnected
accesses_are_connected = components.accesses_are_connected

pub connected_by_point : ConnectedByPoint
connected_by_point = components.connected_by_point

pub connected_lie_within : ConnectedLieWithin
connected_lie_within = within.connected_lie_within
