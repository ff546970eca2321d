use Rattle.std.proofs.Common.{inl, inr, arith}
use Rattle.std.proofs.lemmas.Bool.{cases_lt}
use Rattle.race_sweeps.proofs.Noting.{answered_still}
use Rattle.race_sweeps.proofs.Settling.{enough_noted}
use Rattle.race_sweeps.proofs.scan.Scan.note_racing.Goals as goal

pub loop-first-preserved : goal.loop-first-preserved
loop-first-preserved c =
    let e = c.in_ok-note_slice.ensures in
    record {
      within = omega (arith, c.min-end.ensures);
      scanned = e.scanned;
      size = e.size;
      answered = λ u low. elim (cases_lt u c.loop-first.first) [
        | inl before ↦ answered_still c.args.graph.now c.args.table.now.limit c.args.table.now.lines.items c.loop-first.racing.items c.note_slice.new.racing.items u e.noted (c.loop-first.invariant.answered u before)
        | inr behind ↦ e.answered u behind low
      ];
    }

pub returns-clause-enough : goal.returns-clause-enough
returns-clause-enough c = enough_noted c.args.graph.now c.lines-lines.ensures.is_graph c.edges_between_lines.ensures c.args.table.now.lines.items c.requires.table.placed c.args.table.now.limit c.loop-first.racing.items
    (λ u low. c.loop-first.invariant.answered u (omega (arith, c.requires.table.placed.count, c.lines-lines.ensures.number)))
