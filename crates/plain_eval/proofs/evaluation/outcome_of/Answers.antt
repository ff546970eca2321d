use Rattle.std.proofs.Common.{◌∙◌, ap, map, length, arith}
use Rattle.std.proofs.lemmas.List.{length-map}
use Rattle.std.proofs.lemmas.List.FromFn.{length-map-range_with_len}
use Rattle.graph_meaning.specs.Evaluation.{Step, answer_of, eval_end, phase_value, cells_of, evaluation}
use Rattle.plain_eval.proofs.PhaseFacts.{few_steps, outcome_from, columns_from, all_some}
use Rattle.plain_eval.proofs.evaluation.outcome_of.Goals as goal

pub invariant_of-result : goal.invariant_of-result
invariant_of-result c =
    let g = c.args.graph.now in
    let n = ap length c.requires.ends ∙ length-map-range_with_len (eval_end g) 0 (length g.lines) in
    omega (arith, n, c.lines.ensures.number, c.lines.ensures.few)

pub invariant_of-result-2 : goal.invariant_of-result-2
invariant_of-result-2 c =
    let g = c.args.graph.now in
    let n = ap length c.requires.ends ∙ length-map-range_with_len (eval_end g) 0 (length g.lines) in
    let a = ap length (c.in_ok-answers.ensures ∙ ap (map answer_of) c.as_slice.ensures.value) ∙ length-map c.args.state.ends.items answer_of in
    omega (arith, n, a, c.lines.ensures.number, c.lines.ensures.few)

pub invariant_of-result-3 : goal.invariant_of-result-3
invariant_of-result-3 c =
    let g = c.args.graph.now in
    let n = ap length c.in_ok-phases.ensures ∙ length-map-range_with_len (phase_value g) 0 (length g.lines) in
    omega (arith, n, c.lines.ensures.number, c.lines.ensures.few)

pub invariant_of-result-4 : goal.invariant_of-result-4
invariant_of-result-4 c =
    let g = c.args.graph.now in
    let n = ap length c.requires.order ∙ length-map (evaluation g) (λ (s : Step). s.line) in
    let few = few_steps g (length g.lines) in
    omega (arith, n, few, c.lines.ensures.number, c.lines.ensures.few)

pub returns : goal.returns
returns c =
    let g = c.args.graph.now in
    outcome_from g c.args.state.ends.items c.in_ok-answers.answers.items c.in_ok-phases.phases.items c.into_columns.result c.args.state.order.items
    c.requires.ends (c.in_ok-answers.ensures ∙ ap (map answer_of) c.as_slice.ensures.value) c.in_ok-phases.ensures (columns_from g (cells_of (evaluation g)) c.args.state.homes c.into_columns.result c.requires.homes c.into_columns.ensures) c.requires.order

pub into_columns-requires : goal.into_columns-requires
into_columns-requires c = all_some c.args.graph.now (cells_of (evaluation c.args.graph.now)) c.args.state.homes c.requires.homes
