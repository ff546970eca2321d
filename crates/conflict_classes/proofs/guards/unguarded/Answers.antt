use Rattle.std.proofs.Common.{arith}
use Rattle.conflict_classes.proofs.guards.unguarded.Goals as goal

pub returns : goal.returns
returns c g lines = record {
  size = c.in_ok-guards.ensures.locks;
  numbers = c.in_ok-guards.ensures.starts;
  apart = λ r s i d one two both before. (let none = c.in_ok-guards.ensures.none s in absurd (omega (arith, none, before)));
}
