use Rattle.std.proofs.Common.{ap}
use Rattle.std.specs.Prelude.{codes}
use Rattle.graph_terms.specs.Spelling.{lock_name}
use Rattle.explain_text.specs.Lines.{numbered, edges_text}
use Rattle.refusal_text.specs.Refused.{refused_two}
use Rattle.explain_text.proofs.Public.{put_as, then_puts}
use Rattle.refusal_text.proofs.refused.put_descends.Goals as goal

pub returns : goal.returns
returns c =
    let g = c.args.graph.now in
    let ls = c.args.lines.now in
    let r = c.put-4.result in
    (then_puts r _ _ _ (refused_two g (codes "descends") c.args.reason.now.outer c.args.reason.now.inner) _ c.in_ok-put_refused_two.ensures
    (then_puts r _ _ _ (numbered g ls c.args.reason.now.outer) _ c.in_ok-put_numbered.ensures
    (then_puts r _ _ _ (numbered g ls c.args.reason.now.inner) _ c.in_ok-put_numbered-2.ensures
    (then_puts r _ _ _ (codes "the second lies in the section of the first:\n") _ c.in_ok-put.ensures
    (then_puts r _ _ _ (edges_text g ls c.args.reason.now.entered.items) _ (put_as _ _ _ _ (ap (edges_text g ls) c.as_slice.ensures.value) c.in_ok-put_edges.ensures)
    (then_puts r _ _ _ (edges_text g ls c.args.reason.now.left.items) _ (put_as _ _ _ _ (ap (edges_text g ls) c.as_slice-2.ensures.value) c.in_ok-put_edges-2.ensures)
    (then_puts r _ _ _ (codes "reservation ") _ c.in_ok-put-2.ensures
    (then_puts r _ _ _ (lock_name g c.args.reason.now.inner_lock) _ c.in_ok-put_lock.ensures
    (then_puts r _ _ _ (codes " is not declared below ") _ c.in_ok-put-3.ensures
    (then_puts r _ _ _ (lock_name g c.args.reason.now.outer_lock) _ c.in_ok-put_lock-2.ensures
    c.put-4.ensures))))))))))
