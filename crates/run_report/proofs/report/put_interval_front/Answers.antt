use Rattle.std.proofs.Common.{◌∷◌, []}
use Rattle.realm_io.proofs.Public.{stopped_early, stopped_later, then_writes, stops}
use Rattle.std.specs.Prelude.{codes}
use Rattle.run_report.proofs.report.put_interval_front.Goals as goal

pub returns-in_err-put_bytes : goal.returns-in_err-put_bytes
returns-in_err-put_bytes g c = stops _ _ _ c.from_residual.result c.from_residual.ensures.0 (stopped_early _ _ (codes "cells ") _ c.in_err-put_bytes.ensures)

pub returns-in_err-put_column_name : goal.returns-in_err-put_column_name
returns-in_err-put_column_name g c =
    let r = c.from_residual-in_err-put_column_name in
    stops _ _ _ r.result r.ensures.0 (stopped_later _ _ _ (codes "cells ") _ c.in_ok-put_bytes.ensures (stopped_early _ _ _ _ c.in_err-put_column_name.ensures))

pub returns-in_err-put_bytes-2 : goal.returns-in_err-put_bytes-2
returns-in_err-put_bytes-2 g c =
    let r = c.from_residual-in_err-put_bytes-2 in
    stops _ _ _ r.result r.ensures.0
    (stopped_later _ _ _ (codes "cells ") _ c.in_ok-put_bytes.ensures (stopped_later _ _ _ _ _ c.in_ok-put_column_name.ensures (stopped_early _ _ (32 ∷ []) _ c.in_err-put_bytes-2.ensures)))

pub returns : goal.returns
returns g c =
    let r = c.put_interval.result in
    then_writes _ _ _ (codes "cells ") _ r c.in_ok-put_bytes.ensures (then_writes _ _ _ _ _ r c.in_ok-put_column_name.ensures (then_writes _ _ _ (32 ∷ []) _ r c.in_ok-put_bytes-2.ensures c.put_interval.ensures))
