use Rattle.std.proofs.Common.{◌<◌, ◌≤◌, length, take, drop, ◌∙◌, ap, subst, Err}
use Rattle.std.proofs.lemmas.Result.{err_from_is_err_and}
use Rattle.flow_order.specs.SourceParts.{with_event}
use Rattle.task_flow.specs.Construction.{event_for}
use Rattle.task_flow.specs.Making.{made_of}
use Rattle.task_flow.specs.declared.making.Stop.TheVariants.{Limit}
use Rattle.task_flow.proofs.Growth.{turn, turn_past, end_none, err_same}
use Rattle.task_flow.proofs.making.Making.event_for.Goals as goal

pub returns-in_err-merge-clause-limit : goal.returns-in_err-merge-clause-limit
returns-in_err-merge-clause-limit c = λ h.
    let p = err_from_is_err_and c.from_residual-in_err-merge.result c.from_residual-in_err-merge.ensures.1 in
    let inv = c.loop-alloc.invariant.same in
    turn_past inv.0 c.loop-alloc.left (made_of c.loop-alloc.self) c.in_ok-front.front (event_for (length c.args.events) c.args.events (made_of c.args.self.now)) (subst (λ z. 1 < z) c.len.ensures c.loop-alloc-test.true) inv.1 (c.in_ok-front.ensures ∙ ap (λ k. take k c.loop-alloc.left) c.most_merged-most.ensures) inv.2 (c.in_err-merge.ensures.limit (ap (λ e. Err e) (err_same c.from_residual-in_err-merge.result p.0 c.in_err-merge.field-0.0 Limit p.1 p.2 h)))

pub loop-alloc-smaller : goal.loop-alloc-smaller
loop-alloc-smaller c =
    let inv = c.loop-alloc.invariant.same in
    (turn inv.0 c.loop-alloc.left (made_of c.loop-alloc.self) c.in_ok-front.front (made_of c.merge_for.new.self) c.in_ok-merge.merge c.in_ok-left.left (subst (λ z. 1 < z) c.len.ensures c.loop-alloc-test.true) inv.1 (c.in_ok-front.ensures ∙ ap (λ k. take k c.loop-alloc.left) c.most_merged-most.ensures) c.in_ok-merge.ensures.ok (c.in_ok-left.ensures ∙ ap (λ k. with_event (drop k c.loop-alloc.left) c.in_ok-merge.merge) c.most_merged-most.ensures)).shorter

pub loop-alloc-preserved : goal.loop-alloc-preserved
loop-alloc-preserved c =
    let inv = c.loop-alloc.invariant.same in
    let t = turn inv.0 c.loop-alloc.left (made_of c.loop-alloc.self) c.in_ok-front.front (made_of c.merge_for.new.self) c.in_ok-merge.merge c.in_ok-left.left (subst (λ z. 1 < z) c.len.ensures c.loop-alloc-test.true) inv.1 (c.in_ok-front.ensures ∙ ap (λ k. take k c.loop-alloc.left) c.most_merged-most.ensures) c.in_ok-merge.ensures.ok (c.in_ok-left.ensures ∙ ap (λ k. with_event (drop k c.loop-alloc.left) c.in_ok-merge.merge) c.most_merged-most.ensures) in record {
      same = (t.same.0, t.same.1, t.same.2 ∙ inv.2);
      graph = c.in_ok-merge.ensures.graph ∙ c.loop-alloc.invariant.graph;
      named = c.in_ok-merge.ensures.named ∙ c.loop-alloc.invariant.named;
    }

pub returns-clause-ok : goal.returns-clause-ok
returns-clause-ok c =
    let inv = c.loop-alloc.invariant.same in
    end_none inv.0 c.loop-alloc.left (made_of c.loop-alloc.self) (event_for (length c.args.events) c.args.events (made_of c.args.self.now)) (subst (λ z. z ≤ 1) c.len.ensures c.loop-alloc-test.false) (λ e. c.if-len-eq1.false (c.len-2.ensures ∙ e)) inv.1 inv.2
