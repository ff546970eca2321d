use Rattle.std.proofs.Common.{arith}
use Rattle.realm_audit.proofs.Fronts.{first_cut}
use Rattle.realm_audit.proofs.reading.first_line.Goals as goal

pub returns-then-b-eq10 : goal.returns-then-b-eq10
returns-then-b-eq10 c = first_cut c.args.bytes.now c.loop-i.i (omega arith) c.loop-i.invariant c.if-b-eq10.true
