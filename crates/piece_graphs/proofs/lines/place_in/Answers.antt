use Rattle.std.proofs.Common.{sym, ◌∙◌, ap}
use Rattle.std.specs.Prelude.{position}
use Rattle.index_spaces.specs.Space.{has_point, point_at}
use Rattle.graph_terms.specs.Graph.{space_at}
use Rattle.column_pieces.specs.Pieces.{piece_space}
use Rattle.piece_graphs.specs.declared.numbered.Place.{Place}
use Rattle.piece_graphs.proofs.Placing.{place_over, place_found, place_without}
use Rattle.piece_graphs.proofs.lines.place_in.Goals as goal

pub returns-in-Some-clause-some : goal.returns-in-Some-clause-some
returns-in-Some-clause-some c = place_over c.args.graph.now c.args.unions.now c.args.space c.args.own.now c.in-Some.k c.requires.space c.requires.is_space (sym c.place_of_space.ensures ∙ c.in-Some.is)

pub returns-in-None-clause-some : goal.returns-in-None-clause-some
returns-in-None-clause-some c =
    let g = c.args.graph.now in
    let us = c.args.unions.now in
    place_found (λ (p : Place). has_point (piece_space g us p.space) (point_at (space_at g c.args.space) 0)) c.args.own.now c.place_of_point.result
    (c.place_of_point.ensures ∙ ap (λ q. position (λ (p : Place). has_point (piece_space g us p.space) q) c.args.own.now) c.first_point.ensures)

pub returns-in-None-clause-none : goal.returns-in-None-clause-none
returns-in-None-clause-none c = λ none.
    let g = c.args.graph.now in
    let us = c.args.unions.now in
    place_without (λ (p : Place). has_point (piece_space g us p.space) (point_at (space_at g c.args.space) 0)) c.args.own.now
    (sym (c.place_of_point.ensures ∙ ap (λ q. position (λ (p : Place). has_point (piece_space g us p.space) q) c.args.own.now) c.first_point.ensures) ∙ none)
