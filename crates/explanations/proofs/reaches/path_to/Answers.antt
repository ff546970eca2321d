use Rattle.std.proofs.Common.{sym}
use Rattle.explanations.proofs.WaysBack.{back_more, back_ends}
use Rattle.explanations.proofs.reaches.path_to.Goals as goal

pub loop-edge-preserved : goal.loop-edge-preserved
loop-edge-preserved c = λ all m l is.
    back_more all c.args.reaches.now l c.args.line m c.loop-edge.at c.loop-edge.edges.items c.in-Some.edge (sym c.in-Some.ensures) c.push.new.items.items c.in_ok-push.ensures.ok (c.loop-edge.invariant all m l is)

pub returns : goal.returns
returns c = λ all m l is.
    back_ends all c.args.reaches.now l c.args.line m c.loop-edge.at c.loop-edge.edges.items (sym c.in_default.ensures) c.reverse.new.self.items c.reverse.ensures.items (c.loop-edge.invariant all m l is)
