use Rattle.std.specs.Prelude.{codes}
use Rattle.explain_text.specs.Lines.{by_number}
use Rattle.explain_text.proofs.TextFacts.{then_puts}
use Rattle.explain_text.proofs.unread.put_ended.Goals as goal

pub returns : goal.returns
returns c =
    let r = c.put_line.result in
    rw c.in-Some.is
    (then_puts r _ _ _ (by_number c.args.graph.now c.args.lines.now c.in-Some.line) _ c.in_ok-put_by_number.ensures (then_puts r _ _ _ (codes " has ended or released it already") _ c.in_ok-put.ensures c.put_line.ensures))
