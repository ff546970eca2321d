use Rattle.program_io.proofs.Public.{written_then_flushed}
use Rattle.program_io.proofs.delivery.put_text.Goals as goal

pub returns-in-Ok : goal.returns-in-Ok
returns-in-Ok g c =
    written_then_flushed _ _ _ c.args.status c.flush.result c.args.text.now (record { taken = c.in-Ok.ensures.ok; flushed = c.put.ensures.flushed; count = c.put.ensures.count }) c.flush.ensures
