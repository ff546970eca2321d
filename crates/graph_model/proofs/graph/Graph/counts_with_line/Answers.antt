use Rattle.std.proofs.Common.{◌≡◌, ◌≤◌, List, length, ◌∙◌, ap, arith}
use Rattle.graph_indexes.specs.declared.counts.Counts.{Counts}
use Rattle.graph_terms.specs.declared.verb.Line.{Line}
use Rattle.graph_terms.specs.Graph.{GraphValue}
use Rattle.graph_terms.specs.Edges.{edges, line_edges}
use Rattle.graph_model.proofs.CountLaws.{line_counts_read}
use Rattle.graph_model.proofs.graph.Graph.counts_with_line.Goals as goal

pub overflow_add-result-3 : goal.overflow_add-result-3
overflow_add-result-3 c =
    let g : GraphValue = record { format = c.self.inside.format; decls = c.self.inside.decls.items; lines = c.self.inside.lines.items } in
    let now : c.self.inside.counts.edges ≡ length (edges g) = ap (λ (x : Counts). x.edges) c.self.invariant.counts in
    let few : length (edges g) ≤ 524288 = c.self.invariant.limits.few_edges in
    omega arith

pub returns : goal.returns
returns c =
    let g : GraphValue = record { format = c.self.inside.format; decls = c.self.inside.decls.items; lines = c.self.inside.lines.items } in
    line_counts_read g c.args.self.now c.args.line.now c.self.inside.counts c.line_size.result c.count_edges.result c.self.view_is c.self.invariant.counts c.line_size.ensures.size
    (c.count_edges.ensures.number ∙ ap (λ (ls : List Line). length (line_edges ls c.args.line.now)) c.deref.ensures.value)
