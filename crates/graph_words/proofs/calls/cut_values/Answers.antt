use Rattle.graph_words.proofs.CallLists.{values_fit, values_cut}
use Rattle.graph_words.proofs.calls.cut_values.Goals as goal

pub slice_bounds-result-count : goal.slice_bounds-result-count
slice_bounds-result-count c = values_fit c.args.words.now c.behind_values-rest.result.now c.behind_values-rest.ensures

pub returns-clause-values : goal.returns-clause-values
returns-clause-values c = values_cut c.args.words.now c.behind_values-rest.result.now c.behind_values-rest.ensures
