use Rattle.std.proofs.Common.{ap, ◌∙◌, length}
use Rattle.std.proofs.lemmas.List.FromFn.{length-map-range_with_len}
use Rattle.graph_meaning.specs.Evaluation.{end_in}
use Rattle.plain_eval.proofs.state.end_line.Goals as goal

pub is_cancelled-requires-clause-count : goal.is_cancelled-requires-clause-count
is_cancelled-requires-clause-count c = ap length c.requires.shown.1 ∙ length-map-range_with_len (end_in c.requires.shown.0) 0 (length c.args.graph.now.lines)
