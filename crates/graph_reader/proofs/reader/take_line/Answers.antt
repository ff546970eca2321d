use Rattle.std.proofs.Common.{take, ◌∙◌, ap, subst}
use Rattle.basics.specs.Words.{contents}
use Rattle.graph_words.specs.Words.{pieces}
use Rattle.graph_reader.specs.Reading.{IsWordsDone}
use Rattle.graph_reader.proofs.TakenLines.{words_taken, words_refused, words_stay}
use Rattle.graph_reader.proofs.reader.take_line.Goals as goal

pub returns-in-Ok : goal.returns-in-Ok
returns-in-Ok c =
    let done : IsWordsDone c.args.graph.now (pieces 32 c.args.line.now) c.take_words.new.graph c.take_words.result =
    subst (λ xs. IsWordsDone c.args.graph.now xs c.take_words.new.graph c.take_words.result) (ap (λ xs. contents (take c.in-Ok.count xs)) c.deref.ensures.value ∙ c.in-Ok.ensures.pieces) c.take_words.ensures.done in
    record {
      taken = words_taken c.args.graph.now c.take_words.new.graph (pieces 32 c.args.line.now) c.take_words.result done;
      refused = words_refused c.args.graph.now c.take_words.new.graph (pieces 32 c.args.line.now) c.take_words.result done;
      stays = words_stay c.args.graph.now c.take_words.new.graph (pieces 32 c.args.line.now) c.take_words.result done;
      recent = c.take_words.ensures.recent;
    }
