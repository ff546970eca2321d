use Rattle.std.proofs.Common.{ap, ◌∙◌, subst, arith}
use Rattle.graph_indexes.specs.Rows.{KeepsEdges}
use Rattle.graph_indexes.proofs.StockLaws.{edge_lists, opened_lists, closed_lists}
use Rattle.graph_indexes.proofs.rows.open.Goals as goal

pub returns-in-Err-clause-err : goal.returns-in-Err-clause-err
returns-in-Err-clause-err c =
    let keeps : KeepsEdges c.push.new.items.items c.make_room.new.stocks = subst (λ xs. KeepsEdges xs c.make_room.new.stocks) c.deref_mut.ensures.value c.make_room.ensures.keeps in
    ap edge_lists c.pop.ensures.rest ∙ closed_lists c.args.stocks.now.items c.push.new.items.items c.make_room.new.stocks _ c.new.result c.push.new.items.len c.in_ok-push.ensures.ok c.new.ensures keeps (omega arith)

pub returns-clause-opened : goal.returns-clause-opened
returns-clause-opened c =
    let keeps : KeepsEdges c.push.new.items.items c.make_room.new.stocks = subst (λ xs. KeepsEdges xs c.make_room.new.stocks) c.deref_mut.ensures.value c.make_room.ensures.keeps in
    opened_lists c.args.stocks.now.items c.push.new.items.items c.make_room.new.stocks _ c.new.result c.push.new.items.len c.in_ok-push.ensures.ok c.new.ensures keeps (omega arith)
