use Rattle.graph_terms.specs.declared.why.Why.TheVariants.{Limit}
use Rattle.basics.specs.Words.{contents}
use Rattle.explain_text.specs.Unread.{unread_text}
use Rattle.explain_text.proofs.Public.{then_puts}
use Rattle.explain_top.proofs.flows.put_over.Goals as goal

pub returns : goal.returns
returns c = then_puts c.put.result _ _ _ (unread_text (contents c.args.lines.now) c.args.number Limit) _ c.in_ok-put_unread.ensures c.put.ensures
