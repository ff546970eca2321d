use Rattle.std.specs.Prelude.{map}
use Rattle.session_run.specs.Running.{linked_of}
use Rattle.session_run.specs.Report.{session_report}
use Rattle.program_io.proofs.Public.{written_then_flushed}
use Rattle.realm_top.proofs.sessions.put_ended.Goals as goal

pub returns-in-Ok : goal.returns-in-Ok
returns-in-Ok g c = written_then_flushed _ _ _ _ c.flush.result (session_report (map linked_of c.args.ended.now.graphs.items)) c.in-Ok.ensures c.flush.ensures
