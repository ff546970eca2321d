use Rattle.std.proofs.Common.{◌≡◌, ◌+◌, ◌-◌, ◌++◌, sym, ap, ◌∙◌, arith}
use Rattle.std.specs.List.{range_with_len}
use Rattle.free_engine.proofs.RoundSteps.{range_first, range_none}
use Rattle.free_engine.proofs.round.RoundHints.take.Goals as goal

pub returns-then-self : goal.returns-then-self
returns-then-self g c =
    let r = c.self.inside in let same : r.next + 1 - 1 ≡ r.next = omega arith in
    rw same (sym c.self.view_is ∙ ap (λ l. l ++ range_with_len r.next_before (r.first - r.next_before)) (range_first r.next r.lines c.if-self.true))

pub returns-then-self-2 : goal.returns-then-self-2
returns-then-self-2 g c =
    let r = c.self.inside in let same : r.next_before + 1 - 1 ≡ r.next_before = omega arith in let none = range_none r.next r.lines c.if-self.false in
    rw (same, none) (sym c.self.view_is ∙ ap (λ l. l ++ range_with_len r.next_before (r.first - r.next_before)) none ∙ range_first r.next_before r.first c.if-self-2.true)
