use Rattle.std.proofs.Common.{ap}
use Rattle.std.specs.Prelude.{codes}
use Rattle.explain_text.specs.Lines.{by_number, edges_text}
use Rattle.explain_text.proofs.TextFacts.{then_puts, puts_as}
use Rattle.explain_text.proofs.accepted.put_way.Goals as goal

pub returns : goal.returns
returns c =
    let g = c.args.graph.now in
    let ls = c.args.lines.now in
    let r = c.put_edges.result in
    then_puts r _ _ _ (codes "the way from ") _ c.in_ok-put.ensures (then_puts r _ _ _ (by_number g ls c.args.way.now.start) _ c.in_ok-put_by_number.ensures (then_puts r _ _ _ (codes " to ") _ c.in_ok-put-2.ensures
    (then_puts r _ _ _ (by_number g ls c.args.way.now.line) _ c.in_ok-put_by_number-2.ensures (then_puts r _ _ _ (codes ":\n") _ c.in_ok-put-3.ensures
    (puts_as r _ _ _ _ (ap (edges_text g ls) c.as_slice.ensures.value) c.put_edges.ensures)))))
