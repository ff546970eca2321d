use Rattle.std.proofs.Common.{◌≡◌, length, refl, sym, ◌∙◌, ap}
use Rattle.std.specs.Prelude.{Some, slice_get}
use Rattle.std.proofs.lemmas.Option.{slice_get_read, slice_get_past}
use Rattle.graph_terms.specs.Access.{call_accesses}
use Rattle.graph_model.proofs.CallLaws.{call_known, access_known, column_known, no_data, call_read, call_past}
use Rattle.graph_model.proofs.graph.Graph.call_access.Goals as goal
use Rattle.graph_model.proofs.graph.Graph.call_access.Goals.{In-Some}

pub returns-then-data_columns-eq0 : goal.returns-then-data_columns-eq0
returns-then-data_columns-eq0 c = no_data c.args.self.now c.args.i c.args.k c.line-line.result.now c.line-line.ensures.is_graph c.line-line.ensures.line (sym c.data_columns.ensures.number ∙ c.if-data_columns-eq0.true)

-- the access that is read
read : (c : In-Some) → slice_get (call_accesses c.line-line.result.now.verb) c.args.k ≡ Some c.in-Some.access.now
read c =
    ap (λ given. slice_get given c.args.k) (sym c.call_accesses.ensures)
    ∙ slice_get_read c.call_accesses.result.now (length c.call_accesses.result.now) c.args.k c.in-Some.access.now refl c.in-Some.ensures.lookup.3.0 c.in-Some.ensures.lookup.1

pub behind_columns-requires : goal.behind_columns-requires
behind_columns-requires c =
    column_known c.args.self.now c.in-Some.access.now
    (access_known c.args.self.now (call_accesses c.line-line.result.now.verb) c.args.k c.in-Some.access.now (call_known c.args.self.now c.args.i c.line-line.result.now c.line-line.ensures.is_graph c.line-line.ensures.line) (read c))

pub returns-in-Some : goal.returns-in-Some
returns-in-Some c =
    ap (λ a. Some a) c.behind_columns.ensures
    ∙ call_read c.args.self.now c.args.i c.args.k c.line-line.result.now c.in-Some.access.now c.line-line.ensures.line (read (goal.at.returns-in-Some c).In-Some)

pub returns-in-None : goal.returns-in-None
returns-in-None c =
    call_past c.args.self.now c.args.i c.args.k c.line-line.result.now c.line-line.ensures.line
    (ap (λ given. slice_get given c.args.k) (sym c.call_accesses.ensures) ∙ slice_get_past c.call_accesses.result.now c.args.k c.in-None.ensures.lookup.3)
