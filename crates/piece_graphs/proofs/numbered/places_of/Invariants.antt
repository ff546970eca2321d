use Rattle.std.proofs.Common.{take}
use Rattle.piece_graphs.specs.Numbered.{ArePlaces}
use Rattle.piece_graphs.proofs.numbered.places_of.Given as goal

abbrev pub invariant-loop-k : goal.invariant-loop-k
invariant-loop-k l = ArePlaces l.columns (take l.k l.pieces) l.places.items
