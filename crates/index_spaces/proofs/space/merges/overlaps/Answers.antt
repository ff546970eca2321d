use Rattle.std.proofs.Common.{refl, inl, inr, arith}
use Rattle.index_spaces.proofs.MergeFacts.{IsTaken, taken_step, shared_first, shared_second, AscendAbove-from}
use Rattle.index_spaces.proofs.space.merges.overlaps.Goals as goal
use Rattle.index_spaces.proofs.space.merges.overlaps.Goals.{Joined-low-high, then-low-high+in_ok-push, else-low-high}

-- what the two intervals share is taken
taken : (c : Joined-low-high) → IsTaken c.args.first.now c.args.second.now c.if-low-high.shared.items c.loop-a.a c.loop-a.b
taken c =
    let l = c.loop-a in
    taken_step c.args.first.now c.args.second.now l.shared.items c.if-low-high.shared.items l.a l.b c.max-low.result c.min-high.result c.requires.first c.loop-a-test.true c.if-b-second.true l.invariant c.max-low.ensures c.min-high.ensures (elim c.if-low-high.branch [
      | then-low-high+in_ok-push w ↦ inl (w.if-low-high.true, rw w.shared-is w.in_ok-push.ensures.items)
      | else-low-high w ↦ inr (w.if-low-high.false, rw w.shared-is refl)
    ])

pub loop-a-preserved-then-first-a : goal.loop-a-preserved-then-first-a
loop-a-preserved-then-first-a c = shared_first c.args.first.now c.args.second.now c.if-low-high.shared.items c.loop-a.a c.loop-a.b c.requires.first c.requires.second c.loop-a-test.true c.if-b-second.true (omega arith) (taken (goal.at.loop-a-preserved-then-first-a c).Joined-low-high)

pub loop-a-preserved : goal.loop-a-preserved
loop-a-preserved c = shared_second c.args.first.now c.args.second.now c.if-low-high.shared.items c.loop-a.a c.loop-a.b c.requires.first c.requires.second c.loop-a-test.true c.if-b-second.true (omega arith) (taken (goal.at.loop-a-preserved c).Joined-low-high)

pub returns-clause-ascending : goal.returns-clause-ascending
returns-clause-ascending c = AscendAbove-from 0 c.loop-a.shared.items _ c.loop-a.invariant.ascending
