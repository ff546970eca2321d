use Rattle.std.proofs.Common.{◌∙◌}
use Rattle.realm_io.proofs.Public.{writes_as}
use Rattle.graph_answers.proofs.UnlawfulLines.{refused_is}
use Rattle.graph_answers.proofs.unlawful.put_trace_refused.Goals as goal

pub returns : goal.returns
returns g c = writes_as _ _ _ _ c.put_words.result (refused_is c.as_bytes-digits.result.now c.args.number (c.as_bytes-digits.ensures.value ∙ c.format.ensures.text)) c.put_words.ensures
