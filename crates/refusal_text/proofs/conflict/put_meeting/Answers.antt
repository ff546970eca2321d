use Rattle.std.proofs.Common.{ap}
use Rattle.std.specs.Prelude.{codes}
use Rattle.explain_text.specs.Lines.{numbered, edges_text}
use Rattle.explain_text.proofs.Public.{put_as, puts_as, then_puts}
use Rattle.refusal_text.proofs.conflict.put_meeting.Goals as goal

pub returns : goal.returns
returns c =
    let g = c.args.graph.now in
    let ls = c.args.lines.now in
    let r = c.put_edges-2.result in
    rw c.in-Some.is (then_puts r _ _ _ (codes "the nearest line that leads to both:\n") _ c.in_ok-put.ensures
    (then_puts r _ _ _ (numbered g ls _) _ c.in_ok-put_numbered.ensures
    (then_puts r _ _ _ (codes "to the first:\n") _ c.in_ok-put-2.ensures
    (then_puts r _ _ _ _ _ (put_as _ _ _ _ (ap (edges_text g ls) c.as_slice.ensures.value) c.in_ok-put_edges.ensures)
    (then_puts r _ _ _ (codes "to the second:\n") _ c.in_ok-put-3.ensures
    (puts_as r _ _ _ _ (ap (edges_text g ls) c.as_slice-2.ensures.value) c.put_edges-2.ensures))))))
