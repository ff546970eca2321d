use Rattle.std.proofs.Common.{◌+◌, ◌*◌, ◌≤◌, length, arith, ap, ◌∙◌}
use Rattle.graph_terms.specs.Graph.{GraphValue, columns, locks}
use Rattle.word_steps.specs.Layout.{size_of}
use Rattle.word_steps.specs.Table.{graph_of}
use Rattle.share_words.specs.Planes.{plane_words}
use Rattle.share_words.proofs.Public.{plane_words_few, plane_count_few}
use Rattle.word_steps.proofs.table.WordTable.clock_word.Goals as goal

pub returns-clause-few : goal.returns-clause-few
returns-clause-few c =
    let z = size_of (graph_of c.args.self.now) in
    let n = c.lines.ensures.number ∙ ap (λ (g : GraphValue). length g.lines) c.graph-graph.ensures.graph in
    let k = c.columns.ensures.number ∙ ap (λ (g : GraphValue). length (columns g)) c.graph-graph.ensures.graph in
    let l = c.locks.ensures.number ∙ ap (λ (g : GraphValue). length (locks g)) c.graph-graph.ensures.graph in
    let few : plane_words z.cols z.planes ≤ 9 * (z.cols + 8) = plane_words_few z.cols z.planes (plane_count_few (graph_of c.args.self.now)) in
    omega (arith, n, k, l, few, c.args.self.now.placed.0, c.columns.ensures.few, c.lines.ensures.few, c.locks.ensures.few)
