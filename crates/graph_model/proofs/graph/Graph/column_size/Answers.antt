use Rattle.std.proofs.Common.{ap, arith}
use Rattle.std.specs.Prelude.{option_map, slice_get}
use Rattle.graph_terms.specs.Graph.{columns}
use Rattle.graph_model.proofs.CountLaws.{dotted}
use Rattle.graph_model.proofs.graph.Graph.column_size.Goals as goal

pub returns-clause-size : goal.returns-clause-size
returns-clause-size c =
    let column = c.column_info-column.result.now in
    let one = c.name_size.ensures.size in
    let other = c.name_size-2.ensures.size in
    let l = dotted (slice_get (columns c.args.self.now) c.args.c) column.inst column.field
    (ap (option_map (λ x. x.inst)) c.column_info-column.ensures) (ap (option_map (λ x. x.field)) c.column_info-column.ensures) in
    omega (arith, one, other, l)
