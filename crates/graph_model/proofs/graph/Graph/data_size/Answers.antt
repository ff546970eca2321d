use Rattle.std.proofs.Common.{arith}
use Rattle.std.specs.Prelude.{slice_get}
use Rattle.graph_terms.specs.Graph.{data_columns}
use Rattle.graph_model.proofs.CountLaws.{dotted}
use Rattle.graph_model.proofs.graph.Graph.data_size.Goals as goal

pub returns-clause-size : goal.returns-clause-size
returns-clause-size c =
    let names = c.data_column_name-owner.ensures in
    let one = c.name_size.ensures.size in
    let other = c.name_size-2.ensures.size in
    let l = dotted (slice_get (data_columns c.args.self.now) c.args.c) c.data_column_name-owner.result.0 c.data_column_name-owner.result.1 names.owner names.field in
    omega (arith, one, other, l)
