use Rattle.std.proofs.Common.{subst}
use Rattle.std.specs.Prelude.{codes}
use Rattle.realm_io.specs.Written.{Wrote, Stopped}
use Rattle.realm_io.proofs.Public.{stopped_early, stopped_later, then_writes, stops}
use Rattle.realm_audit.proofs.writing.put_item.Goals as goal

pub returns-in_err-put_bytes : goal.returns-in_err-put_bytes
returns-in_err-put_bytes g c = stops _ _ _ c.from_residual.result c.from_residual.ensures.0 (stopped_early _ _ (codes "at ") _ c.in_err-put_bytes.ensures)

pub returns-in_err-put_bytes-2 : goal.returns-in_err-put_bytes-2
returns-in_err-put_bytes-2 g c =
    let r = c.from_residual-in_err-put_bytes-2 in
    stops _ _ _ r.result r.ensures.0 (stopped_later _ _ _ (codes "at ") _ c.in_ok-put_bytes.ensures (stopped_early _ _ c.args.line.now.name _ (subst (Stopped _ _) c.bytes.ensures.bytes c.in_err-put_bytes-2.ensures)))

pub returns : goal.returns
returns g c =
    let r = c.put_bytes-3.result in
    then_writes _ _ _ (codes "at ") _ r c.in_ok-put_bytes.ensures (then_writes _ _ _ c.args.line.now.name (codes "\n") r (subst (Wrote _ _) c.bytes.ensures.bytes c.in_ok-put_bytes-2.ensures) c.put_bytes-3.ensures)
