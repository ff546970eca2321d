use Rattle.std.proofs.Common.{◌<◌, refl, arith}
use Rattle.index_spaces.proofs.PointFacts.{runs_up}
use Rattle.index_spaces.proofs.MergeFacts.{shared_at, Meet-at, meet_first, meet_second}
use Rattle.index_spaces.proofs.space.merges.meet.Goals as goal
use Rattle.index_spaces.proofs.space.merges.meet.Goals.{Joined-else-first-a, else-first-a-via-then-first-a+else-second-b, else-first-a-via-else-first-a}

-- the two intervals share no point
apart : (c : Joined-else-first-a) → (shared_at c.args.first.now c.args.second.now c.loop-a.a c.loop-a.b).1 < (shared_at c.args.first.now c.args.second.now c.loop-a.a c.loop-a.b).0
apart c = elim c.else-first-a.branch [
  | else-first-a-via-then-first-a+else-second-b w ↦ omega (arith, w.if-second-b.false)
  | else-first-a-via-else-first-a w ↦ omega (arith, w.if-first-a.false)
]

pub returns-then-second-b : goal.returns-then-second-b
returns-then-second-b c = (λ _. Meet-at c.args.first.now c.args.second.now c.loop-a.a c.loop-a.b c.loop-a-test.true c.if-b-second.true (let bounds = runs_up 0 c.args.first.now c.loop-a.a (0, 0) c.requires.first.1 c.loop-a-test.true in let others = runs_up 0 c.args.second.now c.loop-a.b (0, 0) c.requires.second.1 c.if-b-second.true in omega (arith, bounds, others)), λ _. refl)

pub loop-a-preserved-then-first-a-2 : goal.loop-a-preserved-then-first-a-2
loop-a-preserved-then-first-a-2 c p = meet_first c.args.first.now c.args.second.now c.loop-a.a c.loop-a.b p _ c.requires.second c.loop-a-test.true c.if-b-second.true (omega arith) (apart (goal.at.loop-a-preserved-then-first-a-2 c).Joined-else-first-a) (c.loop-a.invariant p)

pub loop-a-preserved : goal.loop-a-preserved
loop-a-preserved c p = meet_second c.args.first.now c.args.second.now c.loop-a.a c.loop-a.b p _ c.requires.first c.loop-a-test.true c.if-b-second.true (omega arith) (apart (goal.at.loop-a-preserved c).Joined-else-first-a) (c.loop-a.invariant p)
