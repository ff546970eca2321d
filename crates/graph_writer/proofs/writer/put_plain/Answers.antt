use Rattle.realm_io.proofs.Public.{stopped_early, stopped_later, then_writes, stops}
use Rattle.graph_writer.proofs.writer.put_plain.Goals as goal

pub returns-in_err-put_bytes : goal.returns-in_err-put_bytes
returns-in_err-put_bytes g c = stops _ _ _ c.from_residual.result c.from_residual.ensures.0 (stopped_early _ _ c.args.first.now _ c.in_err-put_bytes.ensures)

pub returns-in_err-put_spaced : goal.returns-in_err-put_spaced
returns-in_err-put_spaced g c = stops _ _ _ c.from_residual-in_err-put_spaced.result c.from_residual-in_err-put_spaced.ensures.0 (stopped_later _ _ _ c.args.first.now _ c.in_ok-put_bytes.ensures (stopped_early _ _ _ _ c.in_err-put_spaced.ensures))

pub returns : goal.returns
returns g c = then_writes _ _ _ c.args.first.now _ c.put_bytes-2.result c.in_ok-put_bytes.ensures (then_writes _ _ _ _ _ c.put_bytes-2.result c.in_ok-put_spaced.ensures (c.put_bytes-2.ensures))
