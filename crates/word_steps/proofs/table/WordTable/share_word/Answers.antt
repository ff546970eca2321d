use Rattle.std.proofs.Common.{ℕ, ◌*◌, ◌+◌, length, arith, ap, ◌∙◌}
use Rattle.graph_terms.specs.Graph.{GraphValue, columns}
use Rattle.share_words.specs.Planes.{word_in_planes}
use Rattle.word_steps.specs.Table.{graph_of}
use Rattle.word_steps.proofs.Lent.{share_word_within}
use Rattle.word_steps.proofs.table.WordTable.share_word.Goals as goal

pub returns-clause-word : goal.returns-clause-word
unfolding word_in_planes
returns-clause-word c =
    let l = c.lines.ensures.number ∙ ap (λ (g : GraphValue). length g.lines) c.graph-graph.ensures.graph in
    let k = c.columns-columns.ensures.number ∙ ap (λ (g : GraphValue). length (columns g)) c.graph-graph.ensures.graph in
    let e = ap (λ (n : ℕ). c.args.j * (n + 8)) k in
    omega (arith, l, k, e)

pub returns-clause-there : goal.returns-clause-there
unfolding word_in_planes
returns-clause-there c =
    let l = c.lines.ensures.number ∙ ap (λ (g : GraphValue). length g.lines) c.graph-graph.ensures.graph in
    let k = c.columns-columns.ensures.number ∙ ap (λ (g : GraphValue). length (columns g)) c.graph-graph.ensures.graph in
    let e = ap (λ (n : ℕ). c.args.j * (n + 8)) k in
    let w = (share_word_within (graph_of c.args.self.now) c.args.c c.args.j c.requires.known.0 c.requires.known.1).1 in
    omega (arith, l, k, e, w)
