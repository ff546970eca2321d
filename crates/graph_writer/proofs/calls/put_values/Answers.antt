use Rattle.std.proofs.Common.{◌∷◌}
use Rattle.std.specs.Prelude.{decimal}
use Rattle.std.proofs.lemmas.Option.{slice_get-get_or}
use Rattle.realm_io.proofs.Public.{stops, goes_on, breaks_off}
use Rattle.basics.proofs.ListParts.{flat_at}
use Rattle.graph_writer.proofs.calls.put_values.Goals as goal

pub returns-in_err-put_behind : goal.returns-in_err-put_behind
returns-in_err-put_behind g c =
    stops _ _ _ c.from_residual.result c.from_residual.ensures.0
    (breaks_off _ _ _ _ _ _ _ c.loop-value.invariant (flat_at (λ n. 32 ∷ decimal n) c.args.values.now c.loop-value.value-index _ (slice_get-get_or c.args.values.now c.loop-value.value-index 0 c.loop-value-test.true)) c.in_err-put_behind.ensures)

pub loop-value-preserved : goal.loop-value-preserved
loop-value-preserved g c = goes_on _ _ _ _ _ _ _ c.loop-value.invariant (flat_at (λ n. 32 ∷ decimal n) c.args.values.now c.loop-value.value-index _ (slice_get-get_or c.args.values.now c.loop-value.value-index 0 c.loop-value-test.true)) c.in_ok-put_behind.ensures
