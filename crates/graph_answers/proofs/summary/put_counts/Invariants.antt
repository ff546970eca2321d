use Rattle.std.proofs.Common.{◌++◌, drop}
use Rattle.std.specs.Prelude.{decimal}
use Rattle.std.specs.List.{flat_map}
use Rattle.realm_io.specs.Written.{Progress}
use Rattle.graph_answers.specs.declared.summary.Count.{Count}
use Rattle.graph_answers.proofs.summary.put_counts.Given as goal

abbrev pub invariant-loop-count : goal.invariant-loop-count
invariant-loop-count g l =
    Progress (g.K.Sink.state l.initial.sink) (g.K.Sink.state l.sink)
    (flat_map (λ (x : Count). x.words.now ++ decimal x.number) l.counts) (flat_map (λ (x : Count). x.words.now ++ decimal x.number) (drop l.count-index l.counts))
