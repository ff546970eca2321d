use Rattle.std.proofs.Common.{sym, ◌∙◌}
use Rattle.word_steps.specs.Table.{graph_of}
use Rattle.word_loads.proofs.ReturnFacts.{on_top_seen, on_top_whole, number_seen, returned_seen, returned_whole}
use Rattle.word_loads.proofs.taking.return_one.Goals as goal

pub return_seen-requires-clause-known : goal.return_seen-requires-clause-known
return_seen-requires-clause-known c = let t = c.requires.taking in
    (c.requires.known, (number_seen (graph_of c.args.table.now) c.args.line c.args.k t.0 t.1 t.2 c.args.seat.now.me c.args.load.now t.3 c.args.access c.requires.access (sym c.is_reader.ensures ∙ c.if-is_reader.true)).1)

pub return_seen-requires-clause-reads : goal.return_seen-requires-clause-reads
return_seen-requires-clause-reads c = let t = c.requires.taking in
    (number_seen (graph_of c.args.table.now) c.args.line c.args.k t.0 t.1 t.2 c.args.seat.now.me c.args.load.now t.3 c.args.access c.requires.access (sym c.is_reader.ensures ∙ c.if-is_reader.true)).0

pub return_seen-requires-clause-top : goal.return_seen-requires-clause-top
return_seen-requires-clause-top c = let t = c.requires.taking in
    on_top_seen (graph_of c.args.table.now) c.args.line c.args.k t.0 t.1 t.2 c.args.seat.now.me c.args.load.now t.3 c.args.access c.requires.access (sym c.is_reader.ensures ∙ c.if-is_reader.true)

pub return_whole-requires-clause-top : goal.return_whole-requires-clause-top
return_whole-requires-clause-top c = let t = c.requires.taking in
    on_top_whole (graph_of c.args.table.now) c.args.line c.args.k t.0 t.1 t.2 c.args.seat.now.me c.args.load.now t.3 c.args.access c.requires.access (sym c.is_reader.ensures ∙ c.if-is_reader.false)

pub returns-then-is_reader-clause-returned : goal.returns-then-is_reader-clause-returned
returns-then-is_reader-clause-returned c = λ v cl left l.
    returned_seen (graph_of c.args.table.now) c.args.line c.args.k v cl left c.args.seat.now.me c.args.load.now l c.args.access c.requires.access (sym c.is_reader.ensures ∙ c.if-is_reader.true)
    c.return_seen.new.seat.me c.return_seen.new.load c.return_seen.ensures.now c.return_seen.ensures.held

pub returns-else-is_reader-clause-returned : goal.returns-else-is_reader-clause-returned
returns-else-is_reader-clause-returned c = λ v cl left l.
    returned_whole (graph_of c.args.table.now) c.args.line c.args.k v cl left c.args.seat.now.me c.args.load.now l c.args.access c.requires.access (sym c.is_reader.ensures ∙ c.if-is_reader.false)
    c.return_whole.new.seat.me c.return_whole.new.load c.return_whole.ensures.now c.return_whole.ensures.held
