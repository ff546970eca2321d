use Rattle.std.proofs.Common.{◌∙◌, sym, arith}
use Rattle.refusal_text.proofs.PairFacts.{have_both, have_none}
use Rattle.refusal_text.proofs.conflict.have_pair.Goals as goal

pub returns-then-are_both : goal.returns-then-are_both
returns-then-are_both c = have_both c.args.graph.now c.args.acquires.now c.args.others.now c.loop-lock.lock (sym c.are_both.ensures ∙ c.if-are_both.true)

pub returns : goal.returns
returns c =
    have_none c.args.graph.now c.lines.ensures.is_graph c.args.acquires.now c.args.others.now c.loop-lock.lock (omega (arith, c.loop-lock-test.false, c.locks-lock-end.ensures.number)) c.loop-lock.invariant
