use Rattle.word_steps.specs.Table.{graph_of}
use Rattle.word_loads.proofs.Ending.{may_bring, may_draw, may_end, ends_so}
use Rattle.word_loads.proofs.putting.end_work.Goals as goal

pub bring-requires-clause-put : goal.bring-requires-clause-put
bring-requires-clause-put c = let r = c.requires.done in
    (r.0, r.1, r.2, (c.put_work.ensures.put r.0 r.1 r.2 r.3, may_bring (graph_of c.args.table.now) c.args.line c.args.end r.0 r.1 r.2 c.args.seat.now.me c.args.load.held c.args.load.numbers r.3))

pub record_time-requires-clause-may : goal.record_time-requires-clause-may
record_time-requires-clause-may c = let r = c.requires.done in
    may_draw (graph_of c.args.table.now) c.args.line c.args.end r.0 r.1 r.2 c.args.seat.now.me c.args.load.held c.args.load.numbers r.3 c.bring.new.seat.me (c.bring.ensures.brought r.0 r.1 r.2 (c.put_work.ensures.put r.0 r.1 r.2 r.3))

pub end_line-requires-clause-may : goal.end_line-requires-clause-may
end_line-requires-clause-may c = let r = c.requires.done in let t = c.record_time.ensures.now in
    may_end (graph_of c.args.table.now) c.args.line c.args.end r.0 r.1 r.2 c.args.seat.now.me c.args.load.held c.args.load.numbers r.3 c.bring.new.seat.me (c.bring.ensures.brought r.0 r.1 r.2 (c.put_work.ensures.put r.0 r.1 r.2 r.3)) c.record_time.new.seat.me t.0 t.1

pub returns-clause-ending : goal.returns-clause-ending
returns-clause-ending c = λ v cl left d. let t = c.record_time.ensures.now in
    ends_so (graph_of c.args.table.now) c.args.line c.args.end v cl left c.args.seat.now.me c.args.load.held c.args.load.numbers d c.bring.new.seat.me (c.bring.ensures.brought v cl left (c.put_work.ensures.put v cl left d)) c.record_time.new.seat.me t.0 t.1 c.end_line.new.seat.me c.end_line.ensures.ends
