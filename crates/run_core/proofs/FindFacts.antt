-- What is found of a line says what the definitions say.
use Rattle.std.proofs.Common.{◌≡◌, ℕ, zero, suc, ◌<◌, true, false, List, [], ◌∷◌, map, length, refl, sym, ◌∙◌, ap, subst, arith}
use Rattle.std.specs.Prelude.{◌≢◌, slice_index_or}
use Rattle.std.proofs.lemmas.List.{length-map}
use Rattle.graph_terms.specs.Graph.{GraphValue, never_comes}
use Rattle.run_state.specs.Run.{Issued, stage_at}
use Rattle.run_state.specs.Quiet.{kept_cancels}
use Rattle.run_core.specs.Core.{CoreValue, IsCore}
use Rattle.run_lists.specs.Sources.{HasSources}
use Rattle.run_lists.specs.Holders.{HasLock}
use Rattle.run_core.specs.Steps.{IsDue, HasColumns, IsHeldBy}
use Rattle.run_core.specs.Findings.{IsFound}
use Rattle.run_lists.specs.Stages.{shown_stage}
use Rattle.run_parts.specs.declared.answers.Thing.{Thing}
use Rattle.run_core.specs.declared.run.attempt.Finding.TheVariants as finding
use Rattle.run_parts.specs.declared.progress.Progress.{Progress}
use Rattle.run_parts.specs.declared.progress.Progress.TheVariants as progress
use Rattle.run_core.proofs.CoreFacts.{kept_core}

-- the stage of a line that the code keeps
pub stage_shown : (stages : List Progress) (i : ℕ) (d : Progress) → i < length stages → stage_at (map shown_stage stages) i ≡ shown_stage (slice_index_or stages i d)
stage_shown [] i d h = absurd (omega (arith, h))
stage_shown (p ∷ ps) zero d h = refl
stage_shown (p ∷ ps) (suc i) d h = stage_shown ps i d (omega (arith, h))

issued_only : (p : Progress) → p ≢ progress.Issued → shown_stage p ≢ Issued
issued_only progress.Unissued ne e = cc
issued_only progress.Issued ne e = ne refl
issued_only progress.Out ne e = cc
issued_only (progress.Ended x) ne e = cc

pub not_issued : (stages : List Progress) (i : ℕ) (d : Progress) → i < length stages → slice_index_or stages i d ≢ progress.Issued → stage_at (map shown_stage stages) i ≢ Issued
not_issued stages i d h ne e = issued_only (slice_index_or stages i d) ne (sym (stage_shown stages i d h) ∙ e)

pub is_issued : (stages : List Progress) (i : ℕ) (d : Progress) → i < length stages → slice_index_or stages i d ≡ progress.Issued → stage_at (map shown_stage stages) i ≡ Issued
is_issued stages i d h e = stage_shown stages i d h ∙ ap shown_stage e

-- WHAT IS FOUND, where the code speaks of its own graph and lists
module _ (before now : CoreValue) (same : before ≡ now) (i : ℕ) (h : GraphValue) (graph : h ≡ before.graph)
    (issued_now : stage_at before.run.stages i ≡ Issued) (comes : false ≡ never_comes h i) (sources : HasSources h before.run.stages i)
  where
    due_before : IsDue before.graph before.run i
    due_before = record {
      is_issued = issued_now;
      comes = ap (λ g. never_comes g i) (sym graph) ∙ sym comes;
      sources = subst (λ g. HasSources g before.run.stages i) graph sources;
    }

    pub found_cancelled : true ≡ kept_cancels h before.run.stages i → IsFound now i finding.Cancelled
    found_cancelled e = subst (λ (c : CoreValue). IsFound c i finding.Cancelled) same
        (due_before, ap (λ g. kept_cancels g before.run.stages i) (sym graph) ∙ sym e)

    runs_before : false ≡ kept_cancels h before.run.stages i → kept_cancels before.graph before.run.stages i ≡ false
    runs_before e = ap (λ g. kept_cancels g before.run.stages i) (sym graph) ∙ sym e

    pub found_busy : false ≡ kept_cancels h before.run.stages i → (thing : Thing) → IsHeldBy h before.run i thing → IsFound now i (finding.Busy thing)
    found_busy e thing held = subst (λ (c : CoreValue). IsFound c i (finding.Busy thing)) same (due_before, runs_before e, subst (λ g. IsHeldBy g before.run i thing) graph held)

    pub found_free : false ≡ kept_cancels h before.run.stages i → HasLock h before.run.holders i → HasColumns h before.run i → IsFound now i finding.Free
    found_free e lock columns = subst (λ (c : CoreValue). IsFound c i finding.Free) same
        (due_before, runs_before e, subst (λ g. HasLock g before.run.holders i) graph lock, subst (λ g. HasColumns g before.run i) graph columns)

pub issued_here : (stages : List Progress) (i : ℕ) (p : Progress) → i < length stages → p ≡ slice_index_or stages i p → p ≡ progress.Issued → stage_at (map shown_stage stages) i ≡ Issued
issued_here stages i p near e is = is_issued stages i p near (sym e ∙ is)

-- a line of the graph has a stage
pub stages_near : (before : CoreValue) (stages : List Progress) (now : CoreValue) (i : ℕ) → before ≡ now → before.run.stages ≡ map shown_stage stages → IsCore before → i < length now.graph.lines → i < length stages
stages_near before stages now i same shows core near =
    subst (λ n. i < n) (sym (sym (length-map stages shown_stage) ∙ (ap length (sym shows) ∙ (kept_core before core).sound.on_lines.each_line))) (subst (λ (c : CoreValue). i < length c.graph.lines) (sym same) near)
