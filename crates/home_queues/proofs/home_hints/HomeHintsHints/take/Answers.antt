use Rattle.std.proofs.Common.{◌<◌, ℕ, subst, arith}
use Rattle.home_queues.proofs.PartSteps.{takes_one, takes_none, steals_next}
use Rattle.home_queues.proofs.home_hints.HomeHintsHints.take.Goals as goal

pub invariant_of-self : goal.invariant_of-self
invariant_of-self g c =
    let a = c.self.inside in let x : ℕ = c.in-Some.line in
    let below : x < a.lines = subst (λ (n : ℕ). x < n) c.self.invariant.owner.lines c.in-Some.ensures.taken.1 in
    rw c.one_more.ensures (takes_one a.number a.lines a.own c.take.new.owner a.rights.items a.pushed a.taken x c.self.invariant below (omega arith) c.take.ensures.same.0 c.take.ensures.same.1 c.in-Some.ensures.taken.0)

pub invariant_of-self-2 : goal.invariant_of-self-2
invariant_of-self-2 g c =
    let a = c.self.inside in let x : ℕ = c.in_ok-line.line in
    rw c.one_more-2.ensures (steals_next a.number a.lines a.own c.take.new.owner a.rights.items c.steal_any.new.rights.items a.pushed a.taken x c.self.invariant c.in_ok-line.ensures.taken.0 (omega arith)
    c.take.ensures.same.0 c.take.ensures.same.1 c.in_default.ensures.taken.0 c.steal_any.ensures.deques c.steal_any.ensures.right c.in_ok-line.ensures.taken.1)

pub invariant_of-self-in_err-line : goal.invariant_of-self-in_err-line
invariant_of-self-in_err-line g c =
    let a = c.self.inside in
    takes_none a.number a.lines a.own c.take.new.owner a.rights.items c.steal_any.new.rights.items a.pushed a.taken c.self.invariant
    c.take.ensures.same.0 c.take.ensures.same.1 c.in_default.ensures.taken.0 c.steal_any.ensures.deques c.steal_any.ensures.right c.in_err-line.ensures.taken
