use Rattle.std.proofs.Common.{◌≡◌, ℕ, List, sym, ◌∙◌, subst, ap, ◌<◌, length}
use Rattle.std.specs.Prelude.{Some, IsSome, slice_get}
use Rattle.index_spaces.specs.Held.{HeldList, held_at}
use Rattle.graph_terms.specs.declared.outcome.End.{End}
use Rattle.graph_terms.specs.Graph.{GraphValue}
use Rattle.graph_meaning.specs.Effect.{effect, cells_after, Cells}
use Rattle.line_effects.specs.Moved.{moves, HeldShow, OwnsChanged}
use Rattle.run_state.specs.Work.{cells_now_with}
use Rattle.run_core.specs.Works.{FinishedValue, IsWork, IsFinished, WorkValue}
use Rattle.run_core.proofs.PerformFacts.{said_finished, work_shows, work_moves, work_owns, cancelled_finished, work_near}
use Rattle.run_core.proofs.work.Work.perform_by.Goals as goal
use Rattle.run_core.proofs.work.Work.perform_by.Goals.{then-is_cancelled, else-is_cancelled}
use Rattle.run_core.proofs.CoreFacts.{kept_may}
use Rattle.run_state.specs.Verdicts.{effect_by}
use Rattle.graph_meaning.specs.Evaluation.{end_by}
use Rattle.run_core.specs.Works.{verdict_by}
use Rattle.graph_terms.specs.Graph.{is_call, line_passes}
use Rattle.run_core.specs.Core.{kept_faults, CoreValue, IsCore}

abbrev finished_with : ℕ → End → HeldList → FinishedValue
finished_with i x held = record { line = i; ends = x; «held» = held }

pub apply-own-requires-clause-shown : goal.apply-own-requires-clause-shown
apply-own-requires-clause-shown c =
    let core = c.requires.work.0 in
    let is = subst (IsWork core) (sym c.self.view_is) c.requires.work.3 (kept_faults core) (kept_may core) in
    let cells = cells_now_with (effect_by (kept_faults core) core.graph) core.graph core.run in
    (cells, subst (λ (g : GraphValue). HeldShow g cells c.self.inside.held) c.requires.work.2 (work_shows core _ is c.if-is_cancelled.false))

pub apply-own-requires-clause-moved : goal.apply-own-requires-clause-moved
apply-own-requires-clause-moved c =
    let core = c.requires.work.0 in
    let is = subst (IsWork core) (sym c.self.view_is) c.requires.work.3 (kept_faults core) (kept_may core) in
    subst (λ (g : GraphValue). (k col : ℕ) → slice_get (moves g c.self.inside.line) k ≡ Some col → IsSome (held_at c.self.inside.held col)) c.requires.work.2 (work_moves core _ is c.if-is_cancelled.false)

pub apply-own-requires-clause-own : goal.apply-own-requires-clause-own
apply-own-requires-clause-own c =
    let core = c.requires.work.0 in
    let is = subst (IsWork core) (sym c.self.view_is) c.requires.work.3 (kept_faults core) (kept_may core) in
    subst (λ (g : GraphValue). OwnsChanged g c.self.inside.line c.self.inside.held) c.requires.work.2 (work_owns core _ is c.if-is_cancelled.false)

pub returns-clause-finished : goal.returns-clause-finished
returns-clause-finished c = λ core is_core unhosted graph is. (elim c.if-is_cancelled.branch [
  | then-is_cancelled w ↦ subst (λ (h : HeldList). IsFinished core (finished_with c.self.inside.line c.if-is_cancelled.end h)) (sym w.held-is) (subst (λ (x : End). IsFinished core (finished_with c.self.inside.line x c.self.inside.held)) (sym w.end-is)
      (cancelled_finished core _ (subst (IsWork core) (sym c.self.view_is) is) w.if-is_cancelled.true))
  | else-is_cancelled w ↦
      let work = subst (IsWork core) (sym c.self.view_is) is in
      let made = λ (cells : Cells) (shows : HeldShow core.graph cells c.self.inside.held).
      subst (λ (g : GraphValue). (w.apply-own.result ≡ (effect g c.self.inside.line cells).verdict) × HeldShow g (cells_after cells (effect g c.self.inside.line cells).changes) w.apply-own.new.held) (sym graph)
      (w.apply-own.ensures.effect cells (subst (λ (g : GraphValue). HeldShow g cells c.self.inside.held) graph shows)) in
      let verdict = w.verdict_by.ensures ∙ ap (λ (g : GraphValue). verdict_by (line_passes is_call g c.self.inside.line) c.args.said w.apply-own.result) (sym graph) in
      subst (λ (h : HeldList). IsFinished core (finished_with c.self.inside.line c.if-is_cancelled.end h)) (sym w.held-is)
      (subst (λ (x : End). IsFinished core (finished_with c.self.inside.line x w.apply-own.new.held)) (sym (w.end-is ∙ (w.end_by-end.ensures ∙ ap end_by verdict)))
      (said_finished c.sight_is_as_evaluated.ensures c.sight_gives_cells.ensures core is_core _ work w.if-is_cancelled.false c.args.said w.apply-own.result unhosted w.apply-own.new.held w.apply-own.ensures.same w.apply-own.ensures.lendings made))
])

-- the line is one of the graph
near : (core : CoreValue) (g : GraphValue) (w now : WorkValue) → w ≡ now → IsCore core → core.graph ≡ g → IsWork core now → w.line < length g.lines
near core g w now same is graph work = subst (λ (h : GraphValue). w.line < length h.lines) graph (work_near core is w (subst (IsWork core) (sym same) work))

pub apply-own-requires-clause-known : goal.apply-own-requires-clause-known
apply-own-requires-clause-known c = let w = c.requires.work in near w.0 c.args.graph.now _ c.args.self c.self.view_is w.1 w.2 w.3

pub verdict_by-requires : goal.verdict_by-requires
verdict_by-requires c = let w = c.requires.work in near w.0 c.args.graph.now _ c.args.self c.self.view_is w.1 w.2 w.3
