use Rattle.std.proofs.Common.{◌≡◌, [], ◌∷◌, ◌++◌, length, take, drop, ◌∙◌, ap, subst, arith}
use Rattle.graph_indexes.specs.declared.side.Side.TheVariants.{From, To}
use Rattle.graph_indexes.specs.Rows.{AddsEdges, Marks, fresh_mark}
use Rattle.graph_indexes.proofs.StockLaws.{edge_lists, written_all, adds_row_as}
use Rattle.graph_indexes.proofs.rows.Rows.add.Goals as goal

pub returns-clause-ok : goal.returns-clause-ok
returns-clause-ok c =
    let into_opened : edge_lists c.open.new.stocks.items ≡ edge_lists c.self.inside.into.items ++ [] ∷ [] = c.in_ok-open.ensures.opened in
    let from_opened : edge_lists c.open-2.new.stocks.items ≡ edge_lists c.self.inside.from.items ++ [] ∷ [] = c.in_default.ensures.opened in
    let into_added : AddsEdges To c.open.new.stocks.items c.add_all.new.stocks c.args.given.now = subst (λ xs. AddsEdges To xs c.add_all.new.stocks c.args.given.now) c.deref_mut.ensures.value c.add_all.ensures in
    let from_added : AddsEdges From c.open-2.new.stocks.items c.add_all-2.new.stocks c.args.given.now = subst (λ xs. AddsEdges From xs c.add_all-2.new.stocks c.args.given.now) c.deref_mut-2.ensures.value c.add_all-2.ensures in
    let marked : Marks c.reserve.new.items.items c.mark_named.new.marks c.args.verb.now = subst (λ xs. Marks xs c.mark_named.new.marks c.args.verb.now) c.deref_mut-3.ensures.value c.mark_named.ensures in
    let into_is : take c.open.new.stocks.len (c.add_all.new.stocks ++ drop (length c.add_all.new.stocks) c.open.new.stocks.items) ≡ c.add_all.new.stocks =
    written_all c.add_all.new.stocks _ c.open.new.stocks.len (let n : length c.add_all.new.stocks ≡ length c.open.new.stocks.items = into_added.count in omega arith) in
    let from_is : take c.open-2.new.stocks.len (c.add_all-2.new.stocks ++ drop (length c.add_all-2.new.stocks) c.open-2.new.stocks.items) ≡ c.add_all-2.new.stocks =
    written_all c.add_all-2.new.stocks _ c.open-2.new.stocks.len (let n : length c.add_all-2.new.stocks ≡ length c.open-2.new.stocks.items = from_added.count in omega arith) in
    let marks_are : take c.reserve.new.items.len (c.mark_named.new.marks ++ drop (length c.mark_named.new.marks) c.reserve.new.items.items) ≡ c.mark_named.new.marks =
    written_all c.mark_named.new.marks _ c.reserve.new.items.len (let n : length c.mark_named.new.marks ≡ length c.reserve.new.items.items = marked.count in omega arith) in
    let pushed : c.push_within.new.items.items ≡ c.mark_named.new.marks ++ fresh_mark ∷ [] = c.push_within.ensures.items ∙ ap (λ ms. ms ++ fresh_mark ∷ []) marks_are in
    adds_row_as c.args.self.now c.self.inside.into.items c.self.inside.from.items c.open.new.stocks.items c.open-2.new.stocks.items c.add_all.new.stocks c.add_all-2.new.stocks
    (take c.open.new.stocks.len (c.add_all.new.stocks ++ drop (length c.add_all.new.stocks) c.open.new.stocks.items))
    (take c.open-2.new.stocks.len (c.add_all-2.new.stocks ++ drop (length c.add_all-2.new.stocks) c.open-2.new.stocks.items))
    c.self.inside.marks.items c.mark_named.new.marks c.push_within.new.items.items c.args.verb.now c.args.given.now
    c.self.view_is into_is from_is pushed into_opened from_opened into_added from_added (subst (λ xs. Marks xs c.mark_named.new.marks c.args.verb.now) c.reserve.ensures.items marked)
