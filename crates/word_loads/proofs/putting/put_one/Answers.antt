use Rattle.std.proofs.Common.{sym, ◌∙◌}
use Rattle.word_steps.specs.Table.{graph_of}
use Rattle.word_loads.proofs.LadenFacts.{on_top_seen, on_top_whole, number_seen, may_read, put_seen, put_whole}
use Rattle.word_loads.proofs.putting.put_one.Goals as goal

pub put_seen-requires-clause-known : goal.put_seen-requires-clause-known
put_seen-requires-clause-known c = let t = c.requires.laden in
    (c.requires.known, (number_seen (graph_of c.args.table.now) c.args.line c.args.k t.0 t.1 t.2 c.args.seat.now.me c.args.load.now t.3 c.args.access c.requires.access (sym c.is_reader.ensures ∙ c.if-is_reader.true)).1)

pub put_seen-requires-clause-reads : goal.put_seen-requires-clause-reads
put_seen-requires-clause-reads c = let t = c.requires.laden in
    (number_seen (graph_of c.args.table.now) c.args.line c.args.k t.0 t.1 t.2 c.args.seat.now.me c.args.load.now t.3 c.args.access c.requires.access (sym c.is_reader.ensures ∙ c.if-is_reader.true)).0

pub put_seen-requires-clause-top : goal.put_seen-requires-clause-top
put_seen-requires-clause-top c = let t = c.requires.laden in
    let reads = sym c.is_reader.ensures ∙ c.if-is_reader.true in (
      on_top_seen (graph_of c.args.table.now) c.args.line c.args.k t.0 t.1 t.2 c.args.seat.now.me c.args.load.now t.3 c.args.access c.requires.access reads,
      may_read (graph_of c.args.table.now) c.args.line c.args.k t.0 t.1 t.2 c.args.seat.now.me c.args.load.now t.3 c.args.access c.requires.access reads,
    )

pub put_whole-requires-clause-top : goal.put_whole-requires-clause-top
put_whole-requires-clause-top c = let t = c.requires.laden in
    on_top_whole (graph_of c.args.table.now) c.args.line c.args.k t.0 t.1 t.2 c.args.seat.now.me c.args.load.now t.3 c.args.access c.requires.access (sym c.is_reader.ensures ∙ c.if-is_reader.false)

pub returns-then-is_reader-clause-laden : goal.returns-then-is_reader-clause-laden
returns-then-is_reader-clause-laden c = λ v cl left l.
    put_seen (graph_of c.args.table.now) c.args.line c.args.k v cl left c.args.seat.now.me c.args.load.now l c.args.access c.requires.access (sym c.is_reader.ensures ∙ c.if-is_reader.true)
    c.put_seen.new.seat.me c.put_seen.new.load c.put_seen.ensures.now c.put_seen.ensures.held

pub returns-else-is_reader-clause-laden : goal.returns-else-is_reader-clause-laden
returns-else-is_reader-clause-laden c = λ v cl left l.
    put_whole (graph_of c.args.table.now) c.args.line c.args.k v cl left c.args.seat.now.me c.args.load.now l c.args.access c.requires.access (sym c.is_reader.ensures ∙ c.if-is_reader.false)
    c.put_whole.new.seat.me c.put_whole.new.load c.put_whole.ensures.now c.put_whole.ensures.held
