use Rattle.std.proofs.Common.{[]}
use Rattle.piece_graphs.specs.Numbered.{ArePlaces}
use Rattle.piece_graphs.proofs.numbered.no_places.Given as goal

abbrev pub invariant-loop-column : goal.invariant-loop-column
invariant-loop-column l = ArePlaces l._column [] l.places.items
