use Rattle.std.proofs.Common.{◌≡◌, [], refl, sym, subst, length}
use Rattle.std.specs.Prelude.{Some, slice_get}
use Rattle.std.proofs.lemmas.Option.{slice_get_read}
use Rattle.piece_graphs.specs.Over.{AreOver}
use Rattle.piece_graphs.proofs.Owned.{none_over, next_over, all_over}
use Rattle.piece_graphs.proofs.over.own_pieces.Goals as goal

pub loop-part-init : goal.loop-part-init
loop-part-init c =
    subst (AreOver c.args.graph.now c.args.column [] c.args.unions.now.items c.args.unions.now.items) (sym c.in_ok-pieces.ensures.items) (none_over c.args.graph.now c.args.column c.args.unions.now.items)

pub loop-part-preserved : goal.loop-part-preserved
loop-part-preserved c =
    let parts = c.args.own.now in
    let k = c.loop-part.part-index in
    let part = c.part-item.result in
    let at : slice_get parts k ≡ Some part = slice_get_read parts (length parts) k part refl c.loop-part-test.true c.part-item.is in
    next_over c.args.graph.now c.args.column parts k part c.args.unions.now.items c.loop-part.unions.items c.piece_of.new.unions.items c.loop-part.pieces.items c.push.new.items.items _ at c.requires c.loop-part.invariant c.in_ok-piece_of.ensures c.in_ok-push.ensures.ok

pub returns : goal.returns
returns c = all_over c.args.graph.now c.args.column c.args.own.now c.loop-part.part-index c.args.unions.now.items c.loop-part.unions.items c.loop-part.pieces.items c.loop-part-test.false c.loop-part.invariant
