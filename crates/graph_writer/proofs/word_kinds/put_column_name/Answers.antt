use Rattle.std.proofs.Common.{◌∷◌, [], subst}
use Rattle.realm_io.specs.Written.{Writes, Wrote}
use Rattle.realm_io.proofs.Public.{stopped_early, stopped_later, then_writes, stops}
use Rattle.graph_writer.proofs.word_kinds.put_column_name.Goals as goal

pub returns-in_err-put_bytes-2 : goal.returns-in_err-put_bytes-2
returns-in_err-put_bytes-2 g c =
    let r = c.from_residual-in_err-put_bytes-2 in
    stops _ _ _ r.result r.ensures.0 (stopped_later _ _ _ _ _ (subst (Wrote _ _) c.bytes.ensures.bytes c.in_ok-put_bytes.ensures) (stopped_early _ _ (46 ∷ []) c.args.field.now c.in_err-put_bytes-2.ensures))

pub returns : goal.returns
returns g c =
    then_writes _ _ _ _ _ c.put_bytes-3.result (subst (Wrote _ _) c.bytes.ensures.bytes c.in_ok-put_bytes.ensures)
    (then_writes _ _ _ (46 ∷ []) c.args.field.now c.put_bytes-3.result c.in_ok-put_bytes-2.ensures (subst (Writes _ _ c.put_bytes-3.result) c.bytes-2.ensures.bytes c.put_bytes-3.ensures))
