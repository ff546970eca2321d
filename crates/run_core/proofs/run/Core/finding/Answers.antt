use Rattle.std.proofs.Common.{map, refl, ◌∙◌, ap, subst}
use Rattle.run_state.specs.Quiet.{kept_cancels}
use Rattle.run_lists.specs.Sources.{HasSources}
use Rattle.run_lists.specs.Holders.{HasLock, IsKeptOut, holders_by}
use Rattle.run_lists.specs.Stages.{shown_stage}
use Rattle.run_parts.specs.declared.answers.Thing.TheVariants.{Lock, Column}
use Rattle.run_core.proofs.OpenFacts.{has_columns_in, first_out_in}
use Rattle.run_core.proofs.FindFacts.{issued_here, stages_near, found_cancelled, found_busy, found_free}
use Rattle.run_core.proofs.run.Core.finding.Goals as goal

pub returns-then-is_cancelled : goal.returns-then-is_cancelled
returns-then-is_cancelled c =
    found_cancelled _ c.args.self.now c.self.view_is c.args.i c.graph-graph.result.now c.graph-graph.ensures.graph
    (issued_here c.self.inside.stages.items c.args.i c.index-progress.result.now (stages_near _ c.self.inside.stages.items c.args.self.now c.args.i c.self.view_is refl c.self.invariant.core c.requires) c.index-progress.ensures c.in-Issued.is) c.if-never_comes.ensures (subst (λ ss. HasSources c.graph-graph.result.now (map shown_stage ss) c.args.i) c.as_slice.ensures.value (c.in_default-least_left.ensures))
    (c.if-is_cancelled.ensures ∙ ap (λ ss. kept_cancels c.graph-graph.result.now (map shown_stage ss) c.args.i) c.as_slice-2.ensures.value)

pub returns-in-Some-busy_lock : goal.returns-in-Some-busy_lock
returns-in-Some-busy_lock c =
    found_busy _ c.args.self.now c.self.view_is c.args.i c.graph-graph.result.now c.graph-graph.ensures.graph
    (issued_here c.self.inside.stages.items c.args.i c.index-progress.result.now (stages_near _ c.self.inside.stages.items c.args.self.now c.args.i c.self.view_is refl c.self.invariant.core c.requires) c.index-progress.ensures c.in-Issued.is) c.if-never_comes.ensures (subst (λ ss. HasSources c.graph-graph.result.now (map shown_stage ss) c.args.i) c.as_slice.ensures.value (c.in_default-least_left.ensures))
    (c.if-is_cancelled.ensures ∙ ap (λ ss. kept_cancels c.graph-graph.result.now (map shown_stage ss) c.args.i) c.as_slice-2.ensures.value)
    (Lock c.in-Some-busy_lock.lock) ((c.in-Some-busy_lock.ensures).0, subst (λ g. IsKeptOut c.graph-graph.result.now (holders_by g c.self.inside.holders.holding.items) c.in-Some-busy_lock.lock c.args.i) c.graph-graph.ensures.graph (c.in-Some-busy_lock.ensures).1)

pub returns-in-Some-busy_column : goal.returns-in-Some-busy_column
returns-in-Some-busy_column c =
    found_busy _ c.args.self.now c.self.view_is c.args.i c.graph-graph.result.now c.graph-graph.ensures.graph
    (issued_here c.self.inside.stages.items c.args.i c.index-progress.result.now (stages_near _ c.self.inside.stages.items c.args.self.now c.args.i c.self.view_is refl c.self.invariant.core c.requires) c.index-progress.ensures c.in-Issued.is) c.if-never_comes.ensures (subst (λ ss. HasSources c.graph-graph.result.now (map shown_stage ss) c.args.i) c.as_slice.ensures.value (c.in_default-least_left.ensures))
    (c.if-is_cancelled.ensures ∙ ap (λ ss. kept_cancels c.graph-graph.result.now (map shown_stage ss) c.args.i) c.as_slice-2.ensures.value)
    (Column c.in-Some-busy_column.column) (subst (λ g. HasLock c.graph-graph.result.now (holders_by g c.self.inside.holders.holding.items) c.args.i) c.graph-graph.ensures.graph c.in_default-busy_lock.ensures, first_out_in _ c.self.invariant.core c.self.inside.columns.homes c.self.inside.columns.takers.items refl refl c.self.invariant.kept c.args.i c.graph-graph.result.now c.graph-graph.ensures.graph c.in-Some-busy_column.column c.in-Some-busy_column.ensures)

pub returns-in-None : goal.returns-in-None
returns-in-None c =
    found_free _ c.args.self.now c.self.view_is c.args.i c.graph-graph.result.now c.graph-graph.ensures.graph
    (issued_here c.self.inside.stages.items c.args.i c.index-progress.result.now (stages_near _ c.self.inside.stages.items c.args.self.now c.args.i c.self.view_is refl c.self.invariant.core c.requires) c.index-progress.ensures c.in-Issued.is) c.if-never_comes.ensures (subst (λ ss. HasSources c.graph-graph.result.now (map shown_stage ss) c.args.i) c.as_slice.ensures.value (c.in_default-least_left.ensures))
    (c.if-is_cancelled.ensures ∙ ap (λ ss. kept_cancels c.graph-graph.result.now (map shown_stage ss) c.args.i) c.as_slice-2.ensures.value)
    (subst (λ g. HasLock c.graph-graph.result.now (holders_by g c.self.inside.holders.holding.items) c.args.i) c.graph-graph.ensures.graph c.in_default-busy_lock.ensures) (has_columns_in _ c.self.invariant.core c.self.inside.columns.homes c.self.inside.columns.takers.items refl refl c.self.invariant.kept c.args.i c.graph-graph.result.now c.graph-graph.ensures.graph c.in-None.ensures)
