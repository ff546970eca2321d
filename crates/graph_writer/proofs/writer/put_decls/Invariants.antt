use Rattle.std.proofs.Common.{drop}
use Rattle.std.specs.List.{flat_map}
use Rattle.graph_terms.specs.Spelling.{spelled, decl_words}
use Rattle.realm_io.specs.Written.{Progress}
use Rattle.graph_writer.proofs.writer.put_decls.Given as goal

abbrev pub invariant-loop-d : goal.invariant-loop-d
invariant-loop-d g l = Progress (g.K.Sink.state l.initial.sink) (g.K.Sink.state l.sink)
    (flat_map (λ x. spelled (decl_words l.graph x)) l.graph.decls) (flat_map (λ x. spelled (decl_words l.graph x)) (drop l.d l.graph.decls))
