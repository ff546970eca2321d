use Rattle.graph_answers.specs.Texts.{slots_text}
use Rattle.program_io.proofs.Public.{written_then_flushed}
use Rattle.graph_answers.proofs.refusing.put_short.Goals as goal

pub returns-in-Ok : goal.returns-in-Ok
returns-in-Ok g c = written_then_flushed _ _ _ _ c.flush.result (slots_text c.args.need) c.in-Ok.ensures c.flush.ensures
