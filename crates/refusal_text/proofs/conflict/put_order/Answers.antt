use Rattle.std.specs.Prelude.{codes}
use Rattle.refusal_text.specs.Refused.{wait_text}
use Rattle.explain_text.proofs.Public.{then_puts}
use Rattle.refusal_text.proofs.conflict.put_order.Goals as goal

pub returns : goal.returns
returns c = then_puts c.put_wait.result _ _ _ (codes "to order them, put ") (wait_text c.args.graph.now c.args.lines.now c.args.event c.args.line) c.in_ok-put.ensures c.put_wait.ensures
