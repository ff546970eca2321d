use Rattle.std.specs.List.{slice_index_or}
use Rattle.std.proofs.lemmas.Option.{slice_get-get_or}
use Rattle.basics.proofs.ListFacts.{got_contains}
use Rattle.race_check.proofs.release_faults.stands_on_merges.Goals as goal

pub ignores_faults-requires : goal.ignores_faults-requires
ignores_faults-requires c =
    let on = c.args.on.now in
    let k = c.loop-source.source-index in
    c.requires (slice_index_or on k 0) (got_contains on k (slice_index_or on k 0) (slice_get-get_or on k 0 c.loop-source-test.true))
