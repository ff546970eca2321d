use Rattle.program_io.proofs.Public.{written_then_flushed}
use Rattle.graph_answers.proofs.auditing.put_fault.Goals as goal

pub returns-in-Ok : goal.returns-in-Ok
returns-in-Ok g c = λ out e. written_then_flushed _ _ _ _ c.flush.result out (c.in-Ok.ensures out e) c.flush.ensures
