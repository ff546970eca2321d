use Rattle.std.proofs.lemmas.Option.{slice_get-get_or}
use Rattle.graph_terms.specs.Spelling.{access_words}
use Rattle.realm_io.proofs.Public.{stops, goes_on, breaks_off}
use Rattle.basics.proofs.ListParts.{flat_at}
use Rattle.graph_writer.specs.WrittenWords.{spaced}
use Rattle.graph_writer.proofs.calls.put_accesses.Goals as goal

pub returns-in_err-put_access : goal.returns-in_err-put_access
returns-in_err-put_access g c =
    stops _ _ _ c.from_residual.result c.from_residual.ensures.0
    (breaks_off _ _ _ _ _ _ _ c.loop-access.invariant (flat_at (λ a. spaced (access_words c.args.graph.now a)) c.args.accesses.now c.loop-access.access-index _ (slice_get-get_or c.args.accesses.now c.loop-access.access-index _ c.loop-access-test.true)) c.in_err-put_access.ensures)

pub loop-access-preserved : goal.loop-access-preserved
loop-access-preserved g c = goes_on _ _ _ _ _ _ _ c.loop-access.invariant (flat_at (λ a. spaced (access_words c.args.graph.now a)) c.args.accesses.now c.loop-access.access-index _ (slice_get-get_or c.args.accesses.now c.loop-access.access-index _ c.loop-access-test.true)) c.in_ok-put_access.ensures
