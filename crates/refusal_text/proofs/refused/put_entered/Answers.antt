use Rattle.std.proofs.Common.{ap}
use Rattle.std.specs.Prelude.{codes}
use Rattle.explain_text.specs.Lines.{edges_text}
use Rattle.explain_text.proofs.Public.{puts_as, then_puts}
use Rattle.refusal_text.proofs.refused.put_entered.Goals as goal

pub returns : goal.returns
returns c =
    let g = c.args.graph.now in
    let ls = c.args.lines.now in
    let r = c.put_edges.result in
    rw c.in-Some.is (then_puts r _ _ _ (codes "and after it, but never:\n") _ c.in_ok-put.ensures
    (puts_as r _ _ _ _ (ap (edges_text g ls) c.as_slice.ensures.value) c.put_edges.ensures))
