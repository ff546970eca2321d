use Rattle.std.specs.Prelude.{codes}
use Rattle.realm_io.proofs.Public.{stopped_early, stopped_later, then_writes, stops}
use Rattle.realm_audit.proofs.writing.put_trace.Goals as goal

pub returns-in_err-put_bytes : goal.returns-in_err-put_bytes
returns-in_err-put_bytes g c = stops _ _ _ c.from_residual.result c.from_residual.ensures.0 (stopped_early _ _ (codes "realm-trace 1\n") _ c.in_err-put_bytes.ensures)

pub returns-in_err-put_items : goal.returns-in_err-put_items
returns-in_err-put_items g c =
    let r = c.from_residual-in_err-put_items in
    stops _ _ _ r.result r.ensures.0 (stopped_later _ _ _ (codes "realm-trace 1\n") _ c.in_ok-put_bytes.ensures (stopped_early _ _ _ _ c.in_err-put_items.ensures))

pub returns : goal.returns
returns g c =
    let r = c.put_bytes-2.result in
    then_writes _ _ _ (codes "realm-trace 1\n") _ r c.in_ok-put_bytes.ensures (then_writes _ _ _ _ _ r c.in_ok-put_items.ensures c.put_bytes-2.ensures)
