use Rattle.std.proofs.Common.{◌≡◌, map, []}
use Rattle.basics.specs.Lists.{numbers_below}
use Rattle.graph_meaning.specs.Evaluation.{end_in}
use Rattle.plain_eval.proofs.state.all_waiting.Given as goal

abbrev pub invariant-loop-line : goal.invariant-loop-line
invariant-loop-line l = record { made : l.ends.items ≡ map (end_in []) (numbers_below l._line) }
