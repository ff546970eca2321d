use Rattle.std.proofs.Common.{ap}
use Rattle.std.specs.Prelude.{codes, decimal}
use Rattle.explain_text.specs.Lines.{by_number}
use Rattle.explain_text.proofs.TextFacts.{then_puts, put_as}
use Rattle.explain_text.proofs.accepted.put_need_line.Goals as goal

pub returns : goal.returns
returns c =
    let r = c.put_line.result in
    rw c.in-Some.is
    (then_puts r _ _ _ (codes "need ") _ c.in_ok-put.ensures (then_puts r _ _ _ (decimal c.args.need) _ (put_as _ _ _ _ (ap decimal c.from.ensures) c.in_ok-put_number.ensures)
    (then_puts r _ _ _ (codes ", reached at ") _ c.in_ok-put-2.ensures (then_puts r _ _ _ (by_number c.args.graph.now c.args.lines.now c.in-Some.line) _ c.in_ok-put_by_number.ensures c.put_line.ensures))))
