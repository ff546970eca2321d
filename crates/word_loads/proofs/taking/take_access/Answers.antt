use Rattle.std.proofs.Common.{arith, sym, ◌∙◌}
use Rattle.share_words.proofs.Public.{reader_has_share, share_count_few}
use Rattle.word_steps.specs.Table.{graph_of}
use Rattle.word_loads.proofs.AccessFacts.{no_access, access_is, access_in, is_accessed, is_changed, column_known, at_most_one}
use Rattle.word_loads.proofs.TakenFacts.{stacked_few}
use Rattle.word_loads.proofs.TakingFacts.{took_none, not_held, may_gather, takes_whole, takes_some, finds_whole, finds_seen}
use Rattle.word_loads.proofs.taking.take_access.Goals as goal

pub take_some_share-requires-clause-known : goal.take_some_share-requires-clause-known
take_some_share-requires-clause-known c = column_known (graph_of c.args.table.now) _ c.args.line c.args.k c.access.result c.graph-graph.ensures.graph c.access.ensures c.in-Some.access c.in-Some.is c.lines.ensures.is_graph

pub take_some_share-requires-clause-readers : goal.take_some_share-requires-clause-readers
take_some_share-requires-clause-readers c = (
  reader_has_share (graph_of c.args.table.now) c.args.line c.in-Some.access c.requires.line (access_in (graph_of c.args.table.now) _ c.args.line c.args.k c.access.result c.graph-graph.ensures.graph c.access.ensures c.in-Some.access c.in-Some.is) (sym c.is_reader.ensures ∙ c.if-is_reader.true),
  share_count_few (graph_of c.args.table.now) c.in-Some.access.column,
)

pub take_some_share-requires-clause-may : goal.take_some_share-requires-clause-may
take_some_share-requires-clause-may c = let t = c.requires.taking in let g = graph_of c.args.table.now in
    may_gather g c.args.line c.args.k t.0 t.1 t.2 c.args.seat.now.me c.args.load.now t.3 c.in-Some.access
    (access_is g _ c.args.line c.args.k c.access.result c.graph-graph.ensures.graph c.access.ensures c.in-Some.access c.in-Some.is)
    (at_most_one g _ c.args.line c.args.k c.access.result c.graph-graph.ensures.graph c.access.ensures c.in-Some.access c.in-Some.is c.lines.ensures.is_graph)
    (is_accessed g _ c.args.line c.args.k c.access.result c.graph-graph.ensures.graph c.access.ensures c.in-Some.access c.in-Some.is)

pub take_some_share-requires-clause-new : goal.take_some_share-requires-clause-new
take_some_share-requires-clause-new c = let t = c.requires.taking in let g = graph_of c.args.table.now in
    not_held g c.args.line c.args.k t.0 t.1 t.2 c.args.seat.now.me c.args.load.now t.3 c.in-Some.access
    (access_is g _ c.args.line c.args.k c.access.result c.graph-graph.ensures.graph c.access.ensures c.in-Some.access c.in-Some.is)
    (at_most_one g _ c.args.line c.args.k c.access.result c.graph-graph.ensures.graph c.access.ensures c.in-Some.access c.in-Some.is c.lines.ensures.is_graph)

pub take_some_share-requires-clause-few : goal.take_some_share-requires-clause-few
take_some_share-requires-clause-few c = let t = c.requires.taking in omega (arith, stacked_few _ _ c.args.k t.3.taken t.3.stacked, t.3.size, c.requires.few)

pub take_whole-requires-clause-known : goal.take_whole-requires-clause-known
take_whole-requires-clause-known c = column_known (graph_of c.args.table.now) _ c.args.line c.args.k c.access.result c.graph-graph.ensures.graph c.access.ensures c.in-Some.access c.in-Some.is c.lines.ensures.is_graph

pub take_whole-requires-clause-may : goal.take_whole-requires-clause-may
take_whole-requires-clause-may c = let t = c.requires.taking in let g = graph_of c.args.table.now in
    may_gather g c.args.line c.args.k t.0 t.1 t.2 c.args.seat.now.me c.args.load.now t.3 c.in-Some.access
    (access_is g _ c.args.line c.args.k c.access.result c.graph-graph.ensures.graph c.access.ensures c.in-Some.access c.in-Some.is)
    (at_most_one g _ c.args.line c.args.k c.access.result c.graph-graph.ensures.graph c.access.ensures c.in-Some.access c.in-Some.is c.lines.ensures.is_graph)
    (is_accessed g _ c.args.line c.args.k c.access.result c.graph-graph.ensures.graph c.access.ensures c.in-Some.access c.in-Some.is)

pub take_whole-requires-clause-changes : goal.take_whole-requires-clause-changes
take_whole-requires-clause-changes c = is_changed (graph_of c.args.table.now) _ c.args.line c.args.k c.access.result c.graph-graph.ensures.graph c.access.ensures c.in-Some.access c.in-Some.is (sym c.is_reader.ensures ∙ c.if-is_reader.false)

pub take_whole-requires-clause-new : goal.take_whole-requires-clause-new
take_whole-requires-clause-new c = let t = c.requires.taking in let g = graph_of c.args.table.now in
    not_held g c.args.line c.args.k t.0 t.1 t.2 c.args.seat.now.me c.args.load.now t.3 c.in-Some.access
    (access_is g _ c.args.line c.args.k c.access.result c.graph-graph.ensures.graph c.access.ensures c.in-Some.access c.in-Some.is)
    (at_most_one g _ c.args.line c.args.k c.access.result c.graph-graph.ensures.graph c.access.ensures c.in-Some.access c.in-Some.is c.lines.ensures.is_graph)

pub take_whole-requires-clause-few : goal.take_whole-requires-clause-few
take_whole-requires-clause-few c = let t = c.requires.taking in omega (arith, stacked_few _ _ c.args.k t.3.taken t.3.stacked, t.3.size, c.requires.few)

pub returns-in_default-clause-taken : goal.returns-in_default-clause-taken
returns-in_default-clause-taken c = λ _. took_none (graph_of c.args.table.now) c.args.line c.args.k c.args.seat.now.me c.args.load.now (no_access (graph_of c.args.table.now) _ c.args.line c.args.k c.access.result c.graph-graph.ensures.graph c.access.ensures c.in_default.is)

pub returns-then-is_reader-clause-taken : goal.returns-then-is_reader-clause-taken
returns-then-is_reader-clause-taken c = λ is v cl left l. let g = graph_of c.args.table.now in
    takes_some g c.args.line c.args.k v cl left c.args.seat.now.me c.args.load.now l c.in-Some.access
    (access_is g _ c.args.line c.args.k c.access.result c.graph-graph.ensures.graph c.access.ensures c.in-Some.access c.in-Some.is)
    (at_most_one g _ c.args.line c.args.k c.access.result c.graph-graph.ensures.graph c.access.ensures c.in-Some.access c.in-Some.is c.lines.ensures.is_graph)
    c.take_some_share.new.seat.me c.take_some_share.new.load (sym c.is_reader.ensures ∙ c.if-is_reader.true) (c.take_some_share.ensures.taken is)

pub returns-then-is_reader-clause-busy : goal.returns-then-is_reader-clause-busy
returns-then-is_reader-clause-busy c = λ is v cl left l. let g = graph_of c.args.table.now in
    finds_seen g c.args.line c.args.k v cl left c.args.seat.now.me c.args.load.now l c.in-Some.access
    (access_is g _ c.args.line c.args.k c.access.result c.graph-graph.ensures.graph c.access.ensures c.in-Some.access c.in-Some.is)
    (at_most_one g _ c.args.line c.args.k c.access.result c.graph-graph.ensures.graph c.access.ensures c.in-Some.access c.in-Some.is c.lines.ensures.is_graph)
    c.take_some_share.new.seat.me c.take_some_share.new.load (sym c.is_reader.ensures ∙ c.if-is_reader.true) (c.take_some_share.ensures.busy is)

pub returns-else-is_reader-clause-taken : goal.returns-else-is_reader-clause-taken
returns-else-is_reader-clause-taken c = λ is v cl left l. let g = graph_of c.args.table.now in
    takes_whole g c.args.line c.args.k v cl left c.args.seat.now.me c.args.load.now l c.in-Some.access
    (access_is g _ c.args.line c.args.k c.access.result c.graph-graph.ensures.graph c.access.ensures c.in-Some.access c.in-Some.is)
    (at_most_one g _ c.args.line c.args.k c.access.result c.graph-graph.ensures.graph c.access.ensures c.in-Some.access c.in-Some.is c.lines.ensures.is_graph)
    c.take_whole.new.seat.me c.take_whole.new.load (sym c.is_reader.ensures ∙ c.if-is_reader.false) (c.take_whole.ensures.taken is)

pub returns-else-is_reader-clause-busy : goal.returns-else-is_reader-clause-busy
returns-else-is_reader-clause-busy c = λ is v cl left l. let g = graph_of c.args.table.now in
    finds_whole g c.args.line c.args.k v cl left c.args.seat.now.me c.args.load.now l c.in-Some.access
    (access_is g _ c.args.line c.args.k c.access.result c.graph-graph.ensures.graph c.access.ensures c.in-Some.access c.in-Some.is)
    (at_most_one g _ c.args.line c.args.k c.access.result c.graph-graph.ensures.graph c.access.ensures c.in-Some.access c.in-Some.is c.lines.ensures.is_graph)
    c.take_whole.new.seat.me c.take_whole.new.load (sym c.is_reader.ensures ∙ c.if-is_reader.false) (c.take_whole.ensures.busy is)
