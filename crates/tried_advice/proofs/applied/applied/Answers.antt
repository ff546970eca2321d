use Rattle.std.proofs.Common.{◌≡◌, sym, ◌∙◌, ap, arith}
use Rattle.graph_meaning.specs.Laws.{waiting_for}
use Rattle.tried_advice.specs.Forms.{with_event, changed}
use Rattle.tried_advice.proofs.AppliedSteps.{name_fits, unfit, none_is, one_more, all_lines}
use Rattle.tried_advice.proofs.applied.applied.Goals as goal

pub offer_line-requires-clause-named : goal.offer_line-requires-clause-named
offer_line-requires-clause-named c = λ none.
    let l = c.line.result.now in
    name_fits c.args.graph.now c.loop-n.copy c.args.form c.loop-n.n l c.in_ok-line.line c.line.ensures.is_graph c.line.ensures.line c.loop-n.invariant (c.in_ok-line.ensures ∙ ap (λ e. waiting_for (with_event l.on e) l) c.event_for.ensures)

pub returns-then-is_some-clause-none : goal.returns-then-is_some-clause-none
returns-then-is_some-clause-none c = λ none fits.
    let l = c.line.result.now in
    unfit c.args.graph.now c.loop-n.copy c.args.form c.loop-n.n l c.in_ok-line.line c.in_ok-offer_line.field-0 c.line.ensures.line c.loop-n.invariant (c.in_ok-line.ensures ∙ ap (λ e. waiting_for (with_event l.on e) l) c.event_for.ensures)
    c.in_ok-offer_line.ensures.fault (sym c.is_some.ensures ∙ c.if-is_some.true) fits

pub loop-n-preserved : goal.loop-n-preserved
loop-n-preserved c =
    let l = c.line.result.now in
    one_more c.args.graph.now c.loop-n.copy c.offer_line.new.self c.args.form c.loop-n.n l c.in_ok-line.line c.line.ensures.line c.loop-n.invariant (c.in_ok-line.ensures ∙ ap (λ e. waiting_for (with_event l.on e) l) c.event_for.ensures)
    (c.in_ok-offer_line.ensures.added (sym c.in_ok-offer_line.ensures.fault ∙ none_is c.in_ok-offer_line.field-0 (sym c.is_some.ensures ∙ c.if-is_some.false)))

pub returns-clause-some : goal.returns-clause-some
returns-clause-some c = all_lines c.args.graph.now c.loop-n.copy c.args.form c.loop-n.n c.loop-n.invariant (omega (arith, c.loop-n-test.false, c.lines-n-end.ensures.number, c.loop-n.auto.n-end))
