use Rattle.std.proofs.Common.{◌≡◌, ◌<◌, ◌∙◌, sym, length, arith}
use Rattle.std.specs.Prelude.{◌==◌}
use Rattle.std.proofs.lemmas.Bool.{eqb-true}
use Rattle.basics.proofs.ListFacts.{find_is}
use Rattle.graph_terms.specs.declared.verb.Access.{Access}
use Rattle.graph_terms.specs.Access.{accesses}
use Rattle.graph_terms.specs.Graph.{columns}
use Rattle.piece_graphs.proofs.lines.name_of.Goals as goal

pub place_of-requires-clause-known : goal.place_of-requires-clause-known
place_of-requires-clause-known c =
    let g = c.args.graph.now in
    let a = c.in-Some.access in
    let f = find_is (λ (a : Access). a.column == c.args.column) (accesses g c.args.i) a (sym c.access_of.ensures ∙ c.in-Some.is) in
    let known : a.column < length (columns g) = (c.accesses_fit.ensures g c.args.i a c.lines.ensures.is_graph f.0).column in
    let same : a.column ≡ c.args.column = eqb-true a.column c.args.column f.1 in
    omega (arith, known, same, c.requires.columns.places.count)

pub place_of-requires-clause-space : goal.place_of-requires-clause-space
place_of-requires-clause-space c =
    let g = c.args.graph.now in
    let a = c.in-Some.access in
    (c.accesses_fit.ensures g c.args.i a c.lines.ensures.is_graph (find_is (λ (a : Access). a.column == c.args.column) (accesses g c.args.i) a (sym c.access_of.ensures ∙ c.in-Some.is)).0).space

pub place_of-requires-clause-is_space : goal.place_of-requires-clause-is_space
place_of-requires-clause-is_space c =
    let g = c.args.graph.now in
    let a = c.in-Some.access in
    (c.accesses_fit.ensures g c.args.i a c.lines.ensures.is_graph (find_is (λ (a : Access). a.column == c.args.column) (accesses g c.args.i) a (sym c.access_of.ensures ∙ c.in-Some.is)).0).is_space
