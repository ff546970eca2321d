use Rattle.word_steps.specs.Table.{graph_of}
use Rattle.word_loads.proofs.Ending.{put_all, put_none}
use Rattle.word_loads.proofs.putting.put_work.Goals as goal

pub returns-clause-put : goal.returns-clause-put
returns-clause-put c = λ v cl left d. put_all (graph_of c.args.table.now) c.args.line c.args.end v cl left c.put_columns.new.seat.me (c.put_columns.ensures.put v cl left (d.laden c.in_default.not-Cancelled))

pub returns-in-Cancelled-clause-put : goal.returns-in-Cancelled-clause-put
returns-in-Cancelled-clause-put c = λ v cl left d. put_none (graph_of c.args.table.now) c.args.line c.args.end v cl left c.args.seat.now.me c.in-Cancelled.is d.empty (d.bare c.in-Cancelled.is)
