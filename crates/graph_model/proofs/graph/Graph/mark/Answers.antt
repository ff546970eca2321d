use Rattle.std.proofs.Common.{◌≡◌, ◌≤◌, ◌*◌, length, ◌∙◌, ap, arith}
use Rattle.graph_indexes.specs.declared.mark.Mark.{Mark}
use Rattle.graph_terms.specs.Graph.{GraphValue, arrivals}
use Rattle.graph_model.proofs.RowLaws.{few_arrivals}
use Rattle.graph_model.proofs.graph.Graph.mark.Goals as goal

pub returns-clause-few : goal.returns-clause-few
returns-clause-few c =
    let g : GraphValue = record { format = c.self.inside.format; decls = c.self.inside.decls.items; lines = c.self.inside.lines.items } in
    let is : c.mark.result.arrivals ≡ arrivals g c.args.i = ap (λ (m : Mark). m.arrivals) (c.mark.ensures ∙ c.self.invariant.rows.mark c.args.i) in
    let few : arrivals g c.args.i ≤ length g.lines * 65536 = few_arrivals g c.self.invariant.fits c.args.i in
    let lines : length g.lines ≤ 65536 = c.self.invariant.limits.few_lines in
    omega (arith, is, few, lines)
