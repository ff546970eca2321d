use Rattle.std.proofs.Common.{◌≡◌, ◌<◌, ◌∙◌, length, refl, sym, arith}
use Rattle.std.specs.Prelude.{Some, slice_get}
use Rattle.std.proofs.lemmas.Option.{slice_get_read}
use Rattle.std.proofs.lemmas.Result.{on_ok_weaker}
use Rattle.basics.proofs.ListFacts.{got_contains}
use Rattle.graph_terms.specs.Access.{accesses}
use Rattle.graph_terms.specs.Graph.{columns}
use Rattle.graph_meaning.specs.LineLaws.{AccessFits}
use Rattle.column_parts.proofs.Noting.{place_noted}
use Rattle.column_parts.proofs.accessed.note_place.Goals as goal

pub index_mut-requires : goal.index_mut-requires
index_mut-requires c =
    let g = c.args.graph.now in
    let access = c.in-Some.access in
    let known = (c.accesses_fit.ensures g c.args.i access c.lines.ensures.is_graph (got_contains (accesses g c.args.i) c.args.k access (sym c.access.ensures ∙ c.in-Some.is))).column in
    omega (arith, known, c.requires.count)

pub returns-in-Some : goal.returns-in-Some
returns-in-Some c =
    let g = c.args.graph.now in
    let access = c.in-Some.access in
    let lists = c.args.lists.now.items in
    let got = sym c.access.ensures ∙ c.in-Some.is in
    let fits : AccessFits g access = c.accesses_fit.ensures g c.args.i access c.lines.ensures.is_graph (got_contains (accesses g c.args.i) c.args.k access got) in
    let below : access.column < length (columns g) = fits.column in
    let at : slice_get lists access.column ≡ Some c.index_mut.result.now = slice_get_read lists (length lists) access.column c.index_mut.result.now refl (omega (arith, below, c.requires.count)) c.index_mut.ensures.value in
    on_ok_weaker c.note.result (λ e. place_noted g lists c.args.i c.args.k access got c.index_mut.result.now c.note.new.list at e) c.note.ensures
