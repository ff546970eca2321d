use Rattle.realm_io.proofs.Public.{writes_as}
use Rattle.graph_answers.proofs.UnlawfulLines.{missing_is}
use Rattle.graph_answers.proofs.unlawful.put_missing.Goals as goal

pub returns : goal.returns
returns g c = writes_as _ _ _ _ c.put_words.result (missing_is c.args.graph.now c.args.line c.line.result.now c.bytes.result.now c.line.ensures.line c.bytes.ensures.bytes) c.put_words.ensures
