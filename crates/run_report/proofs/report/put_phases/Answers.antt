use Rattle.realm_io.proofs.Public.{stops, goes_on, breaks_off}
use Rattle.run_report.proofs.ReportRest.{phases_left}
use Rattle.run_report.proofs.report.put_phases.Goals as goal

pub returns-in_err-put_if_phase : goal.returns-in_err-put_if_phase
returns-in_err-put_if_phase g c =
    stops _ _ _ c.from_residual.result c.from_residual.ensures.0 (breaks_off _ _ _ _ _ _ _ c.loop-i.invariant (phases_left _ _ c.loop-i.i _ _ c.line.ensures.line c.at.ensures) c.in_err-put_if_phase.ensures)

pub loop-i-preserved : goal.loop-i-preserved
loop-i-preserved g c = goes_on _ _ _ _ _ _ _ c.loop-i.invariant (phases_left _ _ c.loop-i.i _ _ c.line.ensures.line c.at.ensures) c.in_ok-put_if_phase.ensures
