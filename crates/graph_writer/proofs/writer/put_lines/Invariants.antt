use Rattle.std.proofs.Common.{drop}
use Rattle.std.specs.List.{flat_map}
use Rattle.graph_terms.specs.Spelling.{spelled, line_words}
use Rattle.realm_io.specs.Written.{Progress}
use Rattle.graph_writer.proofs.writer.put_lines.Given as goal

abbrev pub invariant-loop-i : goal.invariant-loop-i
invariant-loop-i g l = Progress (g.K.Sink.state l.initial.sink) (g.K.Sink.state l.sink)
    (flat_map (λ x. spelled (line_words l.graph x)) l.graph.lines) (flat_map (λ x. spelled (line_words l.graph x)) (drop l.i l.graph.lines))
