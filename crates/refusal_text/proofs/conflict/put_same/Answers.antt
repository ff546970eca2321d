use Rattle.std.specs.Prelude.{codes}
use Rattle.explain_text.specs.Lines.{by_number}
use Rattle.explain_text.proofs.Public.{then_puts}
use Rattle.refusal_text.proofs.conflict.put_same.Goals as goal

pub returns : goal.returns
returns c =
    let r = c.put-2.result in
    (then_puts r _ _ _ (codes "both lie in one section, that of ") _ c.in_ok-put.ensures (then_puts r _ _ _ (by_number c.args.graph.now c.args.lines.now c.args.acquire) (codes "\n") c.in_ok-put_by_number.ensures c.put-2.ensures))
