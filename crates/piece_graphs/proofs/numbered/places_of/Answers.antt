use Rattle.std.proofs.Common.{◌<◌, length, arith}
use Rattle.std.specs.Prelude.{slice_index_or}
use Rattle.std.proofs.lemmas.Option.{slice_get-get_or}
use Rattle.std.proofs.lemmas.List.Elements.{Contains-get_or}
use Rattle.column_pieces.specs.declared.pieces.Piece.{Piece}
use Rattle.piece_graphs.proofs.Placing.{piece_placed}
use Rattle.piece_graphs.proofs.numbered.places_of.Goals as goal

pub put_place-requires : goal.put_place-requires
put_place-requires c =
    let xs = c.args.pieces.now in
    let no_piece : Piece = record { column = 0; space = 0 } in
    let below : c.loop-k.k < length xs = omega (arith, c.loop-k-test.true) in
    let known : (slice_index_or xs c.loop-k.k no_piece).column < c.args.columns = c.requires.known (slice_index_or xs c.loop-k.k no_piece) (Contains-get_or xs c.loop-k.k no_piece below) in
    omega (arith, known, c.loop-k.invariant.count)

pub loop-k-preserved : goal.loop-k-preserved
loop-k-preserved c =
    let xs = c.args.pieces.now in
    let no_piece : Piece = record { column = 0; space = 0 } in
    let below : c.loop-k.k < length xs = omega (arith, c.loop-k-test.true) in
    piece_placed c.args.columns xs (slice_index_or xs c.loop-k.k no_piece) c.loop-k.k c.loop-k.places.items c.put_place.new.places.items (slice_get-get_or xs c.loop-k.k no_piece below) c.loop-k.invariant c.in_ok-put_place.ensures
