use Rattle.std.proofs.Common.{◌∙◌, subst}
use Rattle.graph_terms.specs.Fits.{IsGraph}
use Rattle.piece_graphs.proofs.InPieces as in_pieces
use Rattle.piece_graphs.proofs.accepted.checked_pieces.Goals as goal

pub new-requires-clause-accepted : goal.new-requires-clause-accepted
new-requires-clause-accepted c =
    let fits = subst IsGraph c.graph.ensures.graph c.lines.ensures.is_graph in
    (in_pieces.accepted c.pieces_are_accepted.ensures c.pieces_cut.ensures c.args.checked.now.graph c.args.graph c.args.pieces.now.unions.items c.args.pieces.now.pieces.items fits c.lines-2.ensures.is_graph c.requires.pieces c.requires.graph).0
    c.graph.ensures.accepted

pub new-requires-clause-need : goal.new-requires-clause-need
new-requires-clause-need c =
    let fits = subst IsGraph c.graph.ensures.graph c.lines.ensures.is_graph in
    (in_pieces.accepted c.pieces_are_accepted.ensures c.pieces_cut.ensures c.args.checked.now.graph c.args.graph c.args.pieces.now.unions.items c.args.pieces.now.pieces.items fits c.lines-2.ensures.is_graph c.requires.pieces c.requires.graph).1
    c.need.result c.need.ensures.need

pub returns-clause-is_cut : goal.returns-clause-is_cut
returns-clause-is_cut c =
    let fits = subst IsGraph c.graph.ensures.graph c.lines.ensures.is_graph in
    let g = c.args.checked.now.graph in
    let pieces = c.args.pieces.now.pieces.items in
    in_pieces.is_cut c.pieces_cut.ensures g c.new.result.graph c.args.pieces.now.unions.items pieces fits c.requires.pieces (c.new.ensures.graph ∙ c.requires.graph)
