use Rattle.std.proofs.Common.{◌++◌}
use Rattle.std.specs.Prelude.{decimal}
use Rattle.realm_io.proofs.Public.{stops, goes_on, breaks_off}
use Rattle.basics.proofs.ListParts.{flat_next}
use Rattle.graph_answers.specs.declared.summary.Count.{Count}
use Rattle.graph_answers.proofs.summary.put_counts.Goals as goal

pub returns-in_err-put_count : goal.returns-in_err-put_count
returns-in_err-put_count g c =
    stops _ _ _ c.from_residual.result c.from_residual.ensures.0
    (breaks_off _ _ _ _ _ _ _ c.loop-count.invariant (flat_next (λ (x : Count). x.words.now ++ decimal x.number) c.args.counts.now c.loop-count.count-index _ c.loop-count-test.true) c.in_err-put_count.ensures)

pub loop-count-preserved : goal.loop-count-preserved
loop-count-preserved g c = goes_on _ _ _ _ _ _ _ c.loop-count.invariant (flat_next (λ (x : Count). x.words.now ++ decimal x.number) c.args.counts.now c.loop-count.count-index _ c.loop-count-test.true) c.in_ok-put_count.ensures
