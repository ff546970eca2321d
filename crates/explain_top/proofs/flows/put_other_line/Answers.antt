use Rattle.std.proofs.Common.{ap}
use Rattle.graph_terms.specs.declared.why.Why.TheVariants.{Syntax}
use Rattle.basics.specs.Words.{contents}
use Rattle.graph_words.specs.Words.{pieces}
use Rattle.explain_text.specs.Unread.{unread_text}
use Rattle.explain_text.proofs.Public.{puts_as, then_puts}
use Rattle.explain_top.specs.Flows.{other_told}
use Rattle.explain_top.proofs.flows.put_other_line.Goals as goal

pub returns : goal.returns
returns c = then_puts c.put_other.result _ _ _ (unread_text (contents c.args.lines.now) c.args.number Syntax) _ c.in_ok-put_unread.ensures
    (puts_as c.put_other.result _ _ _ _ (ap (λ l. other_told c.args.number l (pieces 32 l)) c.line_at-line.ensures) c.put_other.ensures)
