use Rattle.std.proofs.Common.{◌<◌, ◌≤◌, ◌^◌, ℕ, length, sym, ◌∙◌, arith}
use Rattle.std.proofs.lemmas.List.{at_drop_all, take_all}
use Rattle.std.proofs.lemmas.List.Elements.{All-more}
use Rattle.index_spaces.specs.SpaceFault.{first_misplaced}
use Rattle.index_spaces.proofs.FaultFacts.{rest-reversed, rest-low, rest-later, first_misplaced-none}
use Rattle.index_spaces.proofs.space.faults.misplaced.Goals as goal

pub returns-then-pair-clause-first : goal.returns-then-pair-clause-first
returns-then-pair-clause-first c =
    let l = c.loop-k in
    sym (rest-reversed l.k l.low c.args.pairs.now c.loop-k-test.true c.if-pair.true) ∙ l.invariant.0

pub returns-then-from-low-clause-first : goal.returns-then-from-low-clause-first
returns-then-from-low-clause-first c =
    let l = c.loop-k in
    sym (rest-low l.k l.low c.args.pairs.now c.loop-k-test.true c.if-pair.false (omega arith)) ∙ l.invariant.0

pub loop-k-preserved : goal.loop-k-preserved
loop-k-preserved c =
    let l = c.loop-k in (
      rw c.from-low.ensures (sym (rest-later l.k l.low c.args.pairs.now c.loop-k-test.true c.if-pair.false (omega arith)) ∙ l.invariant.0),
      All-more (λ (i : ℕ × ℕ). i.1 < 2 ^ 32) c.args.pairs.now l.k (0, 0) c.loop-k-test.true l.invariant.1 (omega arith),
    )

pub returns-clause-first : goal.returns-clause-first
returns-clause-first c = sym (at_drop_all (first_misplaced c.loop-k.k c.loop-k.low) c.args.pairs.now c.loop-k.k (omega arith)) ∙ c.loop-k.invariant.0

pub returns-clause-ascending : goal.returns-clause-ascending
returns-clause-ascending c =
    let l = c.loop-k in
    let end : length c.args.pairs.now ≤ l.k = omega arith in
    first_misplaced-none 0 0 c.args.pairs.now (sym (sym (at_drop_all (first_misplaced l.k l.low) c.args.pairs.now l.k end) ∙ l.invariant.0))
    (rw take_all at l.invariant.1)
