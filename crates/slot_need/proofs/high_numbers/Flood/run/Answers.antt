use Rattle.std.proofs.Common.{◌≡◌, length, arith, subst, ◌∙◌}
use Rattle.std.specs.Prelude.{slice_index}
use Rattle.slot_need.specs.High.{IsFlooding, IsNext}
use Rattle.slot_need.proofs.FloodMarks.{nil_of}
use Rattle.slot_need.proofs.FloodSteps.{flood_step, stack_known, popped_known, rest_known}
use Rattle.slot_need.proofs.high_numbers.Flood.run.Goals as goal

pub follow-requires-clause-known : goal.follow-requires-clause-known
follow-requires-clause-known c = popped_known c.args.graph.now c.in-Some.line c.loop-line.self.marks.pending.items c.pop.new.self.items c.in-Some.ensures.items c.loop-line.invariant.known

pub loop-line-preserved : goal.loop-line-preserved
loop-line-preserved c =
    let g = c.args.graph.now in
    let before = c.loop-line.self.marks in
    let popped = c.pop.new.self.items in
    let after = c.follow.new.self.marks in
    let marking = c.in_ok-follow.ensures.marking in
    record {
      size = marking.size ∙ c.loop-line.invariant.size;
      locks_noted = c.in_ok-follow.ensures.locks_noted;
      acquires = c.in_ok-follow.ensures.acquires;
      known = stack_known g (IsNext g c.in-Some.line) c.args.mark before.by_line.items popped after.by_line.items after.pending.items c.loop-line.invariant.size marking
          (rest_known g c.in-Some.line before.pending.items popped c.in-Some.ensures.items c.loop-line.invariant.known);
      flooding = λ old m weighs f. flood_step g c.args.mark c.in-Some.line before.by_line.items before.pending.items popped after.by_line.items after.pending.items c.in-Some.ensures.items marking old m weighs
          (c.loop-line.invariant.flooding old m weighs f);
    }

pub returns-clause-flooded : goal.returns-clause-flooded
returns-clause-flooded c old m weighs f =
    let g = c.args.graph.now in
    let marks = c.loop-line.self.marks in
    let none : length marks.pending.items ≡ 0 = omega (arith, c.in_default.ensures.cases.0, marks.pending.ok.0) in
    subst (λ s. IsFlooding g old (slice_index marks.by_line.items) m s) (nil_of marks.pending.items none) (c.loop-line.invariant.flooding old m weighs f)
