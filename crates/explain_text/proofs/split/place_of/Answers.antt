use Rattle.std.proofs.Common.{◌≡◌, ◌+◌, ◌-◌, length, arith, refl, sym}
use Rattle.explain_text.proofs.WordPlaces.{cut_length, place_here, place_next, place_last, place_none}
use Rattle.explain_text.proofs.split.place_of.Goals as goal

pub loop-part-init : goal.loop-part-init
loop-part-init c = record { within = omega arith; same = refl }

pub returns-then-eq-clause-place : goal.returns-then-eq-clause-place
returns-then-eq-clause-place c = place_here c.args.word.now c.args.line.now c.loop-part.rest.now c.loop-part.at c.loop-part.invariant.same c.in-Some.part.now c.in-Some.after.now c.in-Some.ensures (sym c.if-eq.ensures)

pub loop-part-preserved : goal.loop-part-preserved
loop-part-preserved c =
    let whole : length c.loop-part.rest.now ≡ length c.in-Some.part.now + 1 + length c.in-Some.after.now = cut_length 32 c.loop-part.rest.now c.in-Some.part.now c.in-Some.after.now c.in-Some.ensures in
    let within : c.loop-part.at + length c.loop-part.rest.now ≡ length c.args.line.now = c.loop-part.invariant.within in
    record {
      within = omega (arith, whole, within);
      same = place_next c.args.word.now c.args.line.now c.loop-part.rest.now c.loop-part.at c.loop-part.invariant.same c.in-Some.part.now c.in-Some.after.now c.in-Some.ensures (length c.args.line.now - length c.in-Some.after.now) (omega (arith, whole, within)) (sym c.if-eq.ensures);
    }

pub returns-then-eq-2-clause-place : goal.returns-then-eq-2-clause-place
returns-then-eq-2-clause-place c = place_last c.args.word.now c.args.line.now c.loop-part.rest.now c.loop-part.at c.loop-part.invariant.same c.in_default.ensures (sym c.if-eq-2.ensures)

pub returns-else-eq-2-clause-place : goal.returns-else-eq-2-clause-place
returns-else-eq-2-clause-place c = place_none c.args.word.now c.args.line.now c.loop-part.rest.now c.loop-part.at c.loop-part.invariant.same c.in_default.ensures (sym c.if-eq-2.ensures)
