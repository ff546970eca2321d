use Rattle.std.specs.Prelude.{codes}
use Rattle.refusal_text.specs.Refused.{order_text, wait_text}
use Rattle.explain_text.proofs.Public.{then_puts}
use Rattle.refusal_text.proofs.conflict.put_between.Goals as goal

pub returns : goal.returns
returns c =
    let g = c.args.graph.now in
    let ls = c.args.lines.now in
    let r = c.put_wait.result in
    then_puts r _ _ _ (order_text g ls c.args.before c.args.line) _ c.in_ok-put_order.ensures
    (then_puts r _ _ _ (codes "and put ") (wait_text g ls c.args.line c.args.after) c.in_ok-put.ensures c.put_wait.ensures)
