use Rattle.std.specs.Prelude.{Some, slice_get}
use Rattle.basics.specs.Lists.{numbers_below}
use Rattle.run_state.specs.Run.{end_so_far}
use Rattle.run_core.specs.Answers.{phase_of_line}
use Rattle.run_lists.specs.Stages.{shown_stage}
use Rattle.std.proofs.Common.{◌≡◌, ◌≤◌, ◌<◌, ℕ, map, length, refl, sym, ◌∙◌, ap, subst, arith, false}
use Rattle.graph_terms.specs.Graph.{GraphValue}
use Rattle.run_state.specs.Quiet.{ByTimes, IsLawfulWith}
use Rattle.run_core.specs.Core.{CoreValue}
use Rattle.run_core.proofs.OutcomeFacts.{handles_and_stages, handle_answers, columns_home, trace_small, trace_by_times, trace_lines, outcome_is, trace_lawful}
use Rattle.run_core.proofs.ReaderFacts.{unlent}
use Rattle.run_core.proofs.run.Core.outcome.Goals as goal
use Rattle.run_core.specs.Finishing.{IsQuiet}
use Rattle.run_core.specs.Core.{IsCore, MayFault}
use Rattle.run_core.proofs.CoreFacts.{kept_core}
use Rattle.run_core.proofs.OutcomeFacts.{none_may}
use Rattle.run_state.proofs.Public.{lawful_with_verbs}
use Rattle.run_state.specs.Verdicts.{effect_by}
use Rattle.graph_meaning.specs.Effect.{zero_cells}
use Rattle.graph_meaning.specs.Evaluation.{outcome_with}

pub answers_of-requires-clause-issued : goal.answers_of-requires-clause-issued
answers_of-requires-clause-issued c =
    let quiet = subst (λ (v : CoreValue). IsQuiet v.graph v.run) (sym c.self.view_is) c.requires.quiet in
    handles_and_stages _ c.self.inside.stages.items refl c.self.invariant.core quiet ∙ ap length (sym c.as_slice-2.ensures.value)

pub answers_of-requires-clause-created : goal.answers_of-requires-clause-created
answers_of-requires-clause-created c = handle_answers _ c.self.invariant.core

pub into_columns-requires-clause-home : goal.into_columns-requires-clause-home
into_columns-requires-clause-home c =
    let quiet = subst (λ (v : CoreValue). IsQuiet v.graph v.run) (sym c.self.view_is) c.requires.quiet in
    columns_home _ c.self.inside.columns.homes c.self.inside.columns.takers.items refl c.self.invariant.core quiet c.self.invariant.kept

pub into_columns-requires-clause-unlent : goal.into_columns-requires-clause-unlent
into_columns-requires-clause-unlent c =
    let quiet = subst (λ (v : CoreValue). IsQuiet v.graph v.run) (sym c.self.view_is) c.requires.quiet in
    unlent c.self.inside.checked.now.graph _ c.self.inside.columns.homes.lendings c.self.invariant.core.lent quiet.none_out

pub invariant_of-result : goal.invariant_of-result
invariant_of-result c =
    let small = trace_small _ c.self.inside.trace.items c.clock_is_small.ensures refl c.self.invariant.core in
    let lines : c.lines.result ≡ length c.self.inside.checked.now.graph.lines = c.lines.ensures.number ∙ ap (λ (g : GraphValue). length g.lines) c.graph-graph.ensures.graph in
    let few : c.lines.result ≤ 65536 = c.lines.ensures.few in
    omega (arith, small, lines, few)

pub returns-clause-evaluated : goal.returns-clause-evaluated
returns-clause-evaluated c = λ faults may.
    let s = c.self.inside in
    let g = s.checked.now.graph in
    let quiet = subst (λ (v : CoreValue). IsQuiet v.graph v.run) (sym c.self.view_is) c.requires.quiet in
    let by = trace_by_times c.slots_are_by_times.ensures _ s.trace.items refl refl c.self.invariant.core quiet in
    let ends = c.ends_of.ensures ∙ ap (map (λ p. end_so_far (shown_stage p))) c.as_slice.ensures.value in
    let asks = c.answers_of.ensures in
    let phases = c.phases_of.ensures ∙ (ap (λ ss. map (phase_of_line c.graph-graph.result.now (map shown_stage ss) c.as_slice-4.result.now) (numbers_below (length c.graph-graph.result.now.lines))) c.as_slice-3.ensures.value
    ∙ (ap (λ vs. map (phase_of_line c.graph-graph.result.now (map shown_stage s.stages.items) vs) (numbers_below (length c.graph-graph.result.now.lines))) c.as_slice-4.ensures.value
    ∙ ap (λ (h : GraphValue). map (phase_of_line h (map shown_stage s.stages.items) s.values.items) (numbers_below (length h.lines))) c.graph-graph.ensures.graph)) in
    outcome_is _ c.self.invariant.core quiet s.stages.items s.columns.homes s.columns.takers.items refl refl c.self.invariant.kept c.quiet_gives_outcome.ensures s.trace.items by c.ends_of.result c.answers_of.result c.phases_of.result c.into_columns.result ends asks phases c.into_columns.ensures faults
    (subst (λ (v : CoreValue). MayFault v faults) (sym c.self.view_is) may)
    ∙ ap (λ (v : CoreValue). outcome_with (effect_by faults v.graph) zero_cells v.graph s.trace.items) c.self.view_is

pub returns-clause-in_order : goal.returns-clause-in_order
returns-clause-in_order c = λ faults may.
    let s = c.self.inside in
    let quiet = subst (λ (v : CoreValue). IsQuiet v.graph v.run) (sym c.self.view_is) c.requires.quiet in
    let by = trace_by_times c.slots_are_by_times.ensures _ s.trace.items refl refl c.self.invariant.core quiet in
    subst (λ (v : CoreValue). IsLawfulWith (effect_by faults v.graph) v.graph s.trace.items) c.self.view_is
    (trace_lawful _ c.self.invariant.core quiet s.stages.items s.columns.homes s.columns.takers.items refl refl c.self.invariant.kept c.quiet_gives_outcome.ensures s.trace.items by faults
    (subst (λ (v : CoreValue). MayFault v faults) (sym c.self.view_is) may))

pub returns-clause-outcome : goal.returns-clause-outcome
returns-clause-outcome c = λ unhosted. returns-clause-evaluated c (λ i. false) (none_may c.args.self unhosted)

pub returns-clause-lawful : goal.returns-clause-lawful
returns-clause-lawful c = λ unhosted. lawful_with_verbs c.args.self.graph c.self.inside.trace.items (returns-clause-in_order c (λ i. false) (none_may c.args.self unhosted))

pub returns-clause-sections : goal.returns-clause-sections
returns-clause-sections c = λ unhosted.
    let core = kept_core c.args.self (subst IsCore c.self.view_is c.self.invariant.core) in
    c.sections_never_overlap.ensures c.args.self.graph c.self.inside.trace.items core.sound.graph core.sound.accepted (returns-clause-lawful c unhosted)

pub returns-clause-times : goal.returns-clause-times
returns-clause-times c =
    let quiet = subst (λ (v : CoreValue). IsQuiet v.graph v.run) (sym c.self.view_is) c.requires.quiet in
    subst (λ (v : CoreValue). ByTimes v.run c.self.inside.trace.items) c.self.view_is (trace_by_times c.slots_are_by_times.ensures _ c.self.inside.trace.items refl refl c.self.invariant.core quiet)

pub returns-clause-lines : goal.returns-clause-lines
returns-clause-lines c =
    let quiet = subst (λ (v : CoreValue). IsQuiet v.graph v.run) (sym c.self.view_is) c.requires.quiet in
    subst (λ (v : CoreValue). (k i : ℕ) → slice_get c.self.inside.trace.items k ≡ Some i → i < length v.graph.lines) c.self.view_is
    (trace_lines _ c.self.inside.trace.items c.self.invariant.core (trace_by_times c.slots_are_by_times.ensures _ c.self.inside.trace.items refl refl c.self.invariant.core quiet))
