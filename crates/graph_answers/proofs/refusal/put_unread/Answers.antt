use Rattle.std.proofs.Common.{◌∙◌, subst}
use Rattle.realm_io.specs.Written.{Writes}
use Rattle.graph_answers.proofs.RefusedLines.{words_are}
use Rattle.graph_answers.proofs.refusal.put_unread.Goals as goal

pub returns : goal.returns
returns g c = subst (Writes _ _ c.put_words.result) (words_are c.as_bytes-digits.result.now c.as_bytes.result.now c.args.number c.args.why (c.as_bytes-digits.ensures.value ∙ c.format.ensures.text) (c.as_bytes.ensures.value ∙ c.word.ensures)) c.put_words.ensures
