use Rattle.std.proofs.Common.{sym, ◌∙◌, subst, arith}
use Rattle.std.specs.Prelude.{IsTrue}
use Rattle.std.proofs.lemmas.List.{take_all}
use Rattle.index_spaces.specs.Space.{has_point}
use Rattle.conflict_classes.proofs.class_conflicts.span.Goals as goal

pub returns : goal.returns
returns c p h =
    c.loop-interval.invariant p (subst (λ xs. IsTrue (has_point xs p)) (sym (take_all c.loop-interval.interval-index c.intervals-intervals.result.now (omega arith) ∙ c.intervals-intervals.ensures.intervals)) h)
