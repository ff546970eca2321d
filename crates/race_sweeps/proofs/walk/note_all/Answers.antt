use Rattle.std.proofs.Common.{◌≡◌, ◌+◌, ◌<◌, true, length, inl, inr, subst, arith}
use Rattle.std.specs.Prelude.{slice_index}
use Rattle.std.proofs.lemmas.Bool.{cases_lt}
use Rattle.sweep_base.specs.Bits.{bit_in}
use Rattle.race_sweeps.specs.Enough.{IsSettledOrNoted}
use Rattle.race_sweeps.proofs.Noting.{settled_still}
use Rattle.race_sweeps.proofs.walk.note_all.Goals as goal

pub loop-bit-preserved : goal.loop-bit-preserved
loop-bit-preserved c =
    let g = c.args.graph.now in
    let lines = c.args.table.now.lines.items in
    let e = c.note.ensures in
    record {
      size = e.size;
      noted = λ i h. e.noted i (c.loop-bit.invariant.noted i h);
      settled = λ b low there set. elim (cases_lt b c.loop-bit.bit) [
        | inl before ↦ settled_still g c.loop-bit.racing.items c.note.new.racing.items _ _ e.noted (c.loop-bit.invariant.settled b before there set)
        | inr up ↦ subst (λ z. c.args.first + z < length lines → bit_in c.args.left z ≡ true → IsSettledOrNoted g c.note.new.racing.items (slice_index lines c.args.place) (slice_index lines (c.args.first + z))) (let same : c.loop-bit.bit ≡ b = omega arith in same) e.settled there set
      ];
    }

pub returns-clause-settled : goal.returns-clause-settled
returns-clause-settled c b low there set = c.loop-bit.invariant.settled b (omega (arith, low, c.loop-bit-test.false)) there set
