use Rattle.std.proofs.Common.{◌≡◌, ◌*◌, length, sym, ◌∙◌, ap}
use Rattle.graph_indexes.specs.Counts.{cells_of_decl}
use Rattle.graph_model.proofs.CountLaws.{cells_of_fields}
use Rattle.graph_model.proofs.graph.Graph.cells_of.Goals as goal

pub returns-in-Inst-clause-cells : goal.returns-in-Inst-clause-cells
returns-in-Inst-clause-cells c =
    let is : cells_of_decl c.args.self.now c.args.decl.now ≡ _ = ap (cells_of_decl c.args.self.now) c.in-Inst.is ∙ cells_of_fields c.args.self.now c.in-Inst.name c.in-Inst.space c.in-Inst.fields in
    ap (λ n. n * c.points_of.result) (c.from.ensures ∙ c.len.ensures) ∙ (ap (λ n. length c.in-Inst.fields * n) c.points_of.ensures.points ∙ sym is)
