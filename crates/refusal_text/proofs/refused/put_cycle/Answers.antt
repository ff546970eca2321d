use Rattle.std.proofs.Common.{ap}
use Rattle.std.specs.Prelude.{codes}
use Rattle.explain_text.specs.Lines.{numbered, edges_text}
use Rattle.refusal_text.specs.Refused.{refused_one}
use Rattle.explain_text.proofs.Public.{puts_as, then_puts}
use Rattle.refusal_text.proofs.refused.put_cycle.Goals as goal

pub returns : goal.returns
returns c =
    let g = c.args.graph.now in
    let ls = c.args.lines.now in
    let r = c.put_edges.result in
    (then_puts r _ _ _ (refused_one g (codes "cycle") c.args.reason.now.line) _ c.in_ok-put_refused_one.ensures
    (then_puts r _ _ _ (numbered g ls c.args.reason.now.line) _ c.in_ok-put_numbered.ensures
    (then_puts r _ _ _ (codes "a shortest cycle through it:\n") _ c.in_ok-put.ensures
    (puts_as r _ _ _ _ (ap (edges_text g ls) c.as_slice.ensures.value) c.put_edges.ensures))))
