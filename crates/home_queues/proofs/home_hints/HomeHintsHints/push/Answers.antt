use Rattle.std.proofs.Common.{arith}
use Rattle.home_queues.proofs.PartSteps.{puts_one}
use Rattle.home_queues.proofs.home_hints.HomeHintsHints.push.Goals as goal

pub invariant_of-self : goal.invariant_of-self
invariant_of-self g c =
    let a = c.self.inside in let put = c.put.ensures.put c.if-put.true in
    rw c.one_more.ensures (puts_one a.number a.lines a.own c.put.new.owner a.rights.items a.pushed a.taken c.args.line c.self.invariant c.if-line-self.false (omega arith) c.put.ensures.same put.1 put.0)
