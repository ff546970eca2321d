use Rattle.std.proofs.Common.{ℕ, ◌*◌, length, arith, ap, ◌∙◌}
use Rattle.graph_terms.specs.Graph.{GraphValue, columns}
use Rattle.share_words.specs.Planes.{slot_in_planes}
use Rattle.word_steps.proofs.table.WordTable.share_slot.Goals as goal

pub returns : goal.returns
unfolding slot_in_planes
returns c =
    let l = c.lines.ensures.number ∙ ap (λ (g : GraphValue). length g.lines) c.graph-graph.ensures.graph in
    let k = c.columns-columns.ensures.number ∙ ap (λ (g : GraphValue). length (columns g)) c.graph-graph.ensures.graph in
    let e = ap (λ (n : ℕ). c.args.j * n) k in
    omega (arith, l, k, e)
