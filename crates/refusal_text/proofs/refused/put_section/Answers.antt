use Rattle.std.proofs.Common.{ap}
use Rattle.std.specs.Prelude.{codes}
use Rattle.explain_text.specs.Lines.{numbered, edges_text}
use Rattle.refusal_text.specs.Refused.{refused_two}
use Rattle.explain_text.proofs.Public.{put_as, then_puts}
use Rattle.refusal_text.proofs.refused.put_section.Goals as goal

pub returns : goal.returns
returns c =
    let g = c.args.graph.now in
    let ls = c.args.lines.now in
    let r = c.put_entered.result in
    (then_puts r _ _ _ (refused_two g (codes "section") c.args.reason.now.release c.args.reason.now.line) _ c.in_ok-put_refused_two.ensures
    (then_puts r _ _ _ (numbered g ls c.args.reason.now.release) _ c.in_ok-put_numbered.ensures
    (then_puts r _ _ _ (numbered g ls c.args.reason.now.line) _ c.in_ok-put_numbered-2.ensures
    (then_puts r _ _ _ (codes "the release waits for that line:\n") _ c.in_ok-put.ensures
    (then_puts r _ _ _ (edges_text g ls c.args.reason.now.path.items) _ (put_as _ _ _ _ (ap (edges_text g ls) c.as_slice.ensures.value) c.in_ok-put_edges.ensures)
    (then_puts r _ _ _ (codes "which comes not before the acquire\n") _ c.in_ok-put-2.ensures
    (then_puts r _ _ _ (numbered g ls c.args.reason.now.acquire) _ c.in_ok-put_numbered-3.ensures
    c.put_entered.ensures)))))))
