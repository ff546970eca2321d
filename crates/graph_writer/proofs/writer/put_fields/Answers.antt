use Rattle.std.proofs.Common.{List, ℕ, ◌++◌}
use Rattle.realm_io.proofs.Public.{stops, goes_on, breaks_off}
use Rattle.graph_writer.proofs.WrittenLists.{comma_at}
use Rattle.graph_writer.proofs.writer.put_fields.Goals as goal

pub returns-in_err-put_behind : goal.returns-in_err-put_behind
returns-in_err-put_behind g c = stops _ _ _ c.from_residual.result c.from_residual.ensures.0
    (breaks_off _ _ _ _ _ (c.comma.result.now ++ c.at.result) _ c.loop-i.invariant (comma_at (λ (w : List ℕ). w) c.args.fields.now c.loop-i.i c.at.result c.comma.result.now c.at.ensures c.comma.ensures) c.in_err-put_behind.ensures)

pub loop-i-preserved : goal.loop-i-preserved
loop-i-preserved g c = goes_on _ _ _ _ _ (c.comma.result.now ++ c.at.result) _ c.loop-i.invariant (comma_at (λ (w : List ℕ). w) c.args.fields.now c.loop-i.i c.at.result c.comma.result.now c.at.ensures c.comma.ensures) c.in_ok-put_behind.ensures
