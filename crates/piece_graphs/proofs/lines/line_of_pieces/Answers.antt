use Rattle.std.proofs.Common.{ap}
use Rattle.graph_terms.specs.declared.verb.Verb.{Verb}
use Rattle.piece_graphs.proofs.Naming.{line_named}
use Rattle.piece_graphs.proofs.lines.line_of_pieces.Goals as goal

pub returns : goal.returns
returns c =
    line_named c.args.graph.now c.args.columns.now.unions.items c.args.columns.now.pieces.items c.lines.ensures.is_graph c.requires.columns.pieces c.args.i c.args.line.now c.in_ok-name.field-0 _ c.requires.line c.in_ok-name.ensures
    (ap (λ (v : Verb). record { name = c.in_ok-name.field-0.name; verb = v; «on» = c.in_ok-name.field-0.on }) c.verb_on.ensures)
