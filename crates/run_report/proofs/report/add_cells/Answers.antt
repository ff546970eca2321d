use Rattle.std.proofs.Common.{◌∷◌, ◌++◌, sym, ap, ◌∙◌, arith}
use Rattle.std.specs.Prelude.{decimal}
use Rattle.run_report.proofs.ReportRest.{no_cells, cells_before}
use Rattle.run_report.proofs.report.add_cells.Goals as goal

pub loop-rank-init : goal.loop-rank-init
loop-rank-init c = record {
  low = c.requires.ordered;
  high = omega arith;
  start = omega arith;
  room = omega (arith, c.requires.few);
  bytes = no_cells _ c.args.text.now c.args.end 504 (omega (arith, c.told-text));
}

pub loop-rank-preserved : goal.loop-rank-preserved
loop-rank-preserved c =
    let i = c.loop-rank.invariant in
    let some = c.loop-rank-test.true in
    let cell = c.add_cell-start.ensures in
    record {
      low = omega (arith, i.low, some);
      high = omega (arith, i.high);
      start = omega (arith, i.start, cell.start.0);
      room = omega (arith, i.room, i.low, some, cell.start.1);
      bytes = cell.bytes ∙ (ap (λ xs. (32 ∷ decimal c.at.result) ++ xs) i.bytes
          ∙ sym (cells_before _ c.loop-rank.rank _ _ c.at.ensures (omega (arith, i.low, some)) i.high c.requires.within));
    }
