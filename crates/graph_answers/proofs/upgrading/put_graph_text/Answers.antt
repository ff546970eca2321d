use Rattle.graph_words.specs.Text.{text}
use Rattle.graph_answers.specs.declared.status.Status.TheVariants.{Done}
use Rattle.program_io.proofs.Public.{written_then_flushed}
use Rattle.graph_answers.proofs.upgrading.put_graph_text.Goals as goal

pub returns-in-Ok : goal.returns-in-Ok
returns-in-Ok g c =
    written_then_flushed _ _ _ Done c.flush.result (text c.args.graph.now) (record { taken = c.in-Ok.ensures.ok; flushed = c.put_graph.ensures.flushed; count = c.put_graph.ensures.count }) c.flush.ensures
