use Rattle.std.proofs.Common.{sym, subst, arith}
use Rattle.std.specs.Prelude.{IsTrue}
use Rattle.std.proofs.lemmas.List.{take_all}
use Rattle.index_spaces.specs.Space.{has_point}
use Rattle.race_pairs.proofs.fresh.end_behind.Goals as goal

pub returns : goal.returns
returns c = (c.loop-interval.invariant.rise, λ p h. c.loop-interval.invariant.between p (subst (λ xs. IsTrue (has_point xs p)) (sym (take_all c.loop-interval.interval-index c.args.intervals.now (omega (arith, c.loop-interval-test.false)))) h))
