use Rattle.std.proofs.Common.{◌≡◌, ◌<◌, ◌∙◌, ℕ, Some, length, sym, ap, subst}
use Rattle.std.specs.Prelude.{slice_get}
use Rattle.std.proofs.lemmas.Result.{IfOk-weaker}
use Rattle.graph_terms.specs.Graph.{GraphValue}
use Rattle.graph_terms.specs.declared.outcome.Outcome.{Outcome}
use Rattle.graph_meaning.specs.Evaluation.{outcome}
use Rattle.graph_meaning.specs.Trace.{IsLawful}
use Rattle.column_pieces.specs.Joined.{joined}
use Rattle.column_pieces.specs.Pieces.{graph_of_pieces, cut_of}
use Rattle.joined_columns.specs.Over.{AreOver}
use Rattle.realm_top.proofs.InPieces as in_pieces
use Rattle.realm_top.proofs.running.run_in_pieces.Goals as goal

pub join-requires-clause-over : goal.join-requires-clause-over
join-requires-clause-over t c =
    let g = c.args.checked.now.graph in
    let h = c.checked_pieces-in_pieces.result.graph in
    let us = c.args.cut.pieces.unions.items in
    let pieces = c.args.cut.pieces.pieces.items in
    let part = c.in_ok-outcome.outcome in
    let made : h ≡ graph_of_pieces g us pieces = c.checked_pieces-in_pieces.ensures.graph in
    let given : part ≡ outcome (graph_of_pieces g us pieces) part.trace = c.in_ok-outcome.ensures.outcome ∙ ap (λ (k : GraphValue). outcome k part.trace) made in
    let over : AreOver g us pieces part.columns =
    subst (λ (x : Outcome). AreOver g us pieces x.columns) (sym given) (c.outcomes_are_over.ensures g us pieces part.trace) in
    subst (λ (k : GraphValue). AreOver k us pieces part.columns) (sym c.graph.ensures.graph) over

pub returns-clause-outcome : goal.returns-clause-outcome
returns-clause-outcome t c =
    let g = c.args.checked.now.graph in
    let h = c.checked_pieces-in_pieces.result.graph in
    let us = c.args.cut.pieces.unions.items in
    let pieces = c.args.cut.pieces.pieces.items in
    let part = c.in_ok-outcome.outcome in
    let given = c.checked_pieces-in_pieces.ensures in
    IfOk-weaker c.join.result (λ o. o ≡ joined c.graph.result.now (cut_of c.graph.result.now us pieces) part) (λ o. o ≡ outcome g o.trace)
    (λ o e. in_pieces.outcome_is c.outcome_of_pieces.ensures g h (cut_of g us pieces) given.is_graph given.is_cut part o c.in_ok-outcome.ensures.outcome
    (e ∙ ap (λ (k : GraphValue). joined k (cut_of k us pieces) part) c.graph.ensures.graph)) c.join.ensures

pub returns-clause-lawful : goal.returns-clause-lawful
returns-clause-lawful t c =
    let g = c.args.checked.now.graph in
    let h = c.checked_pieces-in_pieces.result.graph in
    let us = c.args.cut.pieces.unions.items in
    let pieces = c.args.cut.pieces.pieces.items in
    let part = c.in_ok-outcome.outcome in
    let given = c.checked_pieces-in_pieces.ensures in
    IfOk-weaker c.join.result (λ o. o ≡ joined c.graph.result.now (cut_of c.graph.result.now us pieces) part) (λ o. IsLawful g o.trace)
    (λ o e. in_pieces.trace_is_lawful c.traces_of_pieces.ensures g h (cut_of g us pieces) given.is_cut part o c.in_ok-outcome.ensures.lawful
    (e ∙ ap (λ (k : GraphValue). joined k (cut_of k us pieces) part) c.graph.ensures.graph)) c.join.ensures

pub returns-clause-lines : goal.returns-clause-lines
returns-clause-lines t c =
    let g = c.args.checked.now.graph in
    let h = c.checked_pieces-in_pieces.result.graph in
    let us = c.args.cut.pieces.unions.items in
    let pieces = c.args.cut.pieces.pieces.items in
    let part = c.in_ok-outcome.outcome in
    let given = c.checked_pieces-in_pieces.ensures in
    IfOk-weaker c.join.result (λ o. o ≡ joined c.graph.result.now (cut_of c.graph.result.now us pieces) part) (λ o. (k i : ℕ) → slice_get o.trace k ≡ Some i → i < length g.lines)
    (λ o e. in_pieces.lines_are_known g h (cut_of g us pieces) given.is_cut part o c.in_ok-outcome.ensures.lines
    (e ∙ ap (λ (k : GraphValue). joined k (cut_of k us pieces) part) c.graph.ensures.graph)) c.join.ensures
