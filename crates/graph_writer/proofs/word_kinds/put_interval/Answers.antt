use Rattle.std.proofs.Common.{◌∷◌, [], subst, ap}
use Rattle.realm_io.specs.Written.{Writes, Wrote}
use Rattle.realm_io.proofs.Public.{stopped_early, stopped_later, then_writes, stops}
use Rattle.std.specs.Prelude.{decimal}
use Rattle.graph_writer.proofs.word_kinds.put_interval.Goals as goal

pub returns-in_err-put_bytes : goal.returns-in_err-put_bytes
returns-in_err-put_bytes g c =
    let r = c.from_residual-in_err-put_bytes in
    stops _ _ _ r.result r.ensures.0 (stopped_later _ _ _ _ _ (subst (Wrote _ _) (ap decimal c.from.ensures) c.in_ok-put_decimal.ensures) (stopped_early _ _ (46 ∷ 46 ∷ []) _ c.in_err-put_bytes.ensures))

pub returns : goal.returns
returns g c =
    then_writes _ _ _ _ _ c.put_decimal-2.result (subst (Wrote _ _) (ap decimal c.from.ensures) c.in_ok-put_decimal.ensures)
    (then_writes _ _ _ (46 ∷ 46 ∷ []) _ c.put_decimal-2.result c.in_ok-put_bytes.ensures (subst (Writes _ _ c.put_decimal-2.result) (ap decimal c.from-2.ensures) c.put_decimal-2.ensures))
