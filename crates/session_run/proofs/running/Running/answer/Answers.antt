use Rattle.std.proofs.Common.{sym, ◌∙◌, ap}
use Rattle.std.proofs.lemmas.Option.{same_Some}
use Rattle.realm_session.specs.Recorded.{answer_for}
use Rattle.realm_session.specs.declared.line.Line.{Line}
use Rattle.session_run.specs.Running.{graph_place}
use Rattle.session_run.proofs.Asking.{no_graph, graph_there, graph_within, recorded_line, answer_there, no_answer_there, place_within}
use Rattle.session_run.proofs.running.Running.answer.Goals as goal

pub returns-in_default-clause-answer : goal.returns-in_default-clause-answer
returns-in_default-clause-answer c = sym (no_graph c.args.self.now c.args.link.now (ap (λ xs. graph_place xs c.args.link.now) (sym c.as_slice.ensures.value) ∙ sym c.in_default.ensures))

pub returns-in_default-op_of-clause-answer : goal.returns-in_default-op_of-clause-answer
returns-in_default-op_of-clause-answer c =
    let l = c.args.link.now in
    let x = c.index.result.now in
    sym (graph_there c.args.self.now l c.in-Some.place x (ap (λ xs. graph_place xs l) (sym c.as_slice.ensures.value) ∙ sym c.in-Some.ensures) c.index.ensures ∙ no_answer_there x.checked.graph l (sym c.in_default-op_of.ensures))

pub handle_of-handle-requires : goal.handle_of-handle-requires
handle_of-handle-requires c =
    let r = c.args.self.now in
    let l = c.args.link.now in
    let x = c.index.result.now in
    let i = c.in-Some-op_of.line in
    let at = graph_within r l c.in-Some.place x (ap (λ xs. graph_place xs l) (sym c.as_slice.ensures.value) ∙ sym c.in-Some.ensures) c.index.ensures in
    record { recorded = (recorded_line r c.in-Some.place i x c.requires.running at (place_within x.checked.graph l i (sym c.in-Some-op_of.ensures))).near }

pub ask-requires-clause-recorded : goal.ask-requires-clause-recorded
ask-requires-clause-recorded c =
    let h = c.handle_of-handle.ensures.line in
    (h.0, c.requires.tells h.0 h.2, h.3)

pub returns-clause-tells : goal.returns-clause-tells
returns-clause-tells c = λ x h. c.ask.ensures.tells x (c.requires.tells x h)

pub returns-clause-answer : goal.returns-clause-answer
returns-clause-answer c =
    let r = c.args.self.now in
    let l = c.args.link.now in
    let x = c.index.result.now in
    let k = c.in-Some.place in
    let i = c.in-Some-op_of.line in
    let at = graph_within r l k x (ap (λ xs. graph_place xs l) (sym c.as_slice.ensures.value) ∙ sym c.in-Some.ensures) c.index.ensures in
    let place = sym c.in-Some-op_of.ensures in
    let d = recorded_line r k i x c.requires.running at (place_within x.checked.graph l i place) in
    let h = c.handle_of-handle.ensures.line in
    let same = same_Some h.0 d.line (sym h.1 ∙ d.is_line) in
    c.ask.ensures.answer h.0 h.3 (c.requires.tells h.0 h.2)
    ∙ (ap (λ (y : Line). answer_for y.end) same ∙ (ap answer_for d.ended ∙ sym (graph_there r l k x (ap (λ xs. graph_place xs l) (sym c.as_slice.ensures.value) ∙ sym c.in-Some.ensures) c.index.ensures ∙ answer_there x.checked.graph l i place)))
