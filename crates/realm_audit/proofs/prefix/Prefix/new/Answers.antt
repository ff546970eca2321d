use Rattle.std.proofs.Common.{arith}
use Rattle.realm_audit.specs.Prefix.{stands_in}
use Rattle.realm_audit.proofs.FaultFacts.{none_stand}
use Rattle.realm_audit.proofs.prefix.Prefix.new.Goals as goal

pub returns : goal.returns
returns c = λ trace. record {
  size = omega (arith, c.in_ok-filled.ensures.size, c.lines.ensures.number);
  earlier = none_stand trace (stands_in c.in_ok-filled.field-0.items) c.in_ok-filled.ensures.each;
  sections = c.in_ok-new.ensures trace;
}
