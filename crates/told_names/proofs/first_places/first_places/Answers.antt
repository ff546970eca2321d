use Rattle.std.proofs.Common.{arith}
use Rattle.told_names.proofs.PlaceFacts.{none_noted, noted_more, noted_all}
use Rattle.told_names.proofs.first_places.first_places.Goals as goal

pub loop-at-init : goal.loop-at-init
loop-at-init c = record { few = omega arith; first = none_noted c.new-places.result _ c.args.names.now c.new-places.ensures.empty }

pub loop-at-preserved : goal.loop-at-preserved
loop-at-preserved c =
    let inv = c.loop-at.invariant in
    record {
      few = (let few = inv.few in omega (arith, few));
      first = noted_more c.args.number c.loop-at.at c.loop-at.places c.note.new.places c.args.names.now _ (omega (arith, c.loop-at-test.true)) inv.few c.in_ok-note.ensures inv.first;
    }

pub returns : goal.returns
returns c = noted_all c.args.number c.loop-at.at c.loop-at.places c.args.names.now (omega (arith, c.loop-at-test.false)) c.loop-at.invariant.first
