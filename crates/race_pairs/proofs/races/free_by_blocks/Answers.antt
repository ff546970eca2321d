use Rattle.std.proofs.Common.{◌≡◌, ℕ, ◌+◌, ◌<◌, true, length, subst, arith}
use Rattle.conflict_classes.specs.Settled.{IsSettled}
use Rattle.sweep_base.specs.Noted.{is_noted}
use Rattle.race_pairs.proofs.Freeing.{all_free_of, free_of_more}
use Rattle.race_pairs.proofs.races.free_by_blocks.Goals as goal

pub loop-first-preserved : goal.loop-first-preserved
loop-first-preserved c = record {
  settled = free_of_more c.args.graph.now c.args.racing.now c.loop-first.first 64 c.loop-first.invariant.settled
      (λ b r low. subst (λ z. (b r : ℕ) → b < c.free_of_noted-free.result → r < length c.args.graph.now.lines → is_noted c.args.racing.now r ≡ true → IsSettled c.args.graph.now (z + b) r) c.in_ok-rivals.ensures.first c.free_of_noted-free.ensures.settled b r (omega (arith, low, c.if-free-lt64.false)));
}

pub returns-then-free-lt64 : goal.returns-then-free-lt64
returns-then-free-lt64 c k low = all_free_of c.args.graph.now c.args.racing.now k c.requires.size c.requires.enough
    (λ r. free_of_more c.args.graph.now c.args.racing.now c.loop-first.first c.free_of_noted-free.result c.loop-first.invariant.settled
    (subst (λ z. (b r : ℕ) → b < c.free_of_noted-free.result → r < length c.args.graph.now.lines → is_noted c.args.racing.now r ≡ true → IsSettled c.args.graph.now (z + b) r) c.in_ok-rivals.ensures.first c.free_of_noted-free.ensures.settled) k r low)

pub returns : goal.returns
returns c k low = all_free_of c.args.graph.now c.args.racing.now k c.requires.size c.requires.enough (λ r. c.loop-first.invariant.settled k r (omega (arith, low, c.loop-first-test.false)))
