use Rattle.realm_io.proofs.Public.{stopped_early, stopped_later, then_writes, stops}
use Rattle.std.specs.Prelude.{codes}
use Rattle.run_report.proofs.report.put_parts.Goals as goal

pub returns-in_err-put_bytes : goal.returns-in_err-put_bytes
returns-in_err-put_bytes g c = stops _ _ _ c.from_residual.result c.from_residual.ensures.0 (stopped_early _ _ (codes "realm-report 1\n") _ c.in_err-put_bytes.ensures)

pub returns-in_err-put_ops : goal.returns-in_err-put_ops
returns-in_err-put_ops g c =
    let r = c.from_residual-in_err-put_ops in
    stops _ _ _ r.result r.ensures.0 (stopped_later _ _ _ (codes "realm-report 1\n") _ c.in_ok-put_bytes.ensures (stopped_early _ _ _ _ c.in_err-put_ops.ensures))

pub returns-in_err-put_phases : goal.returns-in_err-put_phases
returns-in_err-put_phases g c =
    let r = c.from_residual-in_err-put_phases in
    stops _ _ _ r.result r.ensures.0 (stopped_later _ _ _ (codes "realm-report 1\n") _ c.in_ok-put_bytes.ensures (stopped_later _ _ _ _ _ c.in_ok-put_ops.ensures (stopped_early _ _ _ _ c.in_err-put_phases.ensures)))

pub returns-in_err-put_columns : goal.returns-in_err-put_columns
returns-in_err-put_columns g c =
    let r = c.from_residual-in_err-put_columns in
    stops _ _ _ r.result r.ensures.0 (stopped_later _ _ _ (codes "realm-report 1\n") _ c.in_ok-put_bytes.ensures (stopped_later _ _ _ _ _ c.in_ok-put_ops.ensures
    (stopped_later _ _ _ _ _ c.in_ok-put_phases.ensures (stopped_early _ _ _ _ c.in_err-put_columns.ensures))))

pub returns : goal.returns
returns g c =
    let r = c.put_bytes-2.result in
    then_writes _ _ _ (codes "realm-report 1\n") _ r c.in_ok-put_bytes.ensures (then_writes _ _ _ _ _ r c.in_ok-put_ops.ensures
    (then_writes _ _ _ _ _ r c.in_ok-put_phases.ensures (then_writes _ _ _ _ _ r c.in_ok-put_columns.ensures c.put_bytes-2.ensures)))
