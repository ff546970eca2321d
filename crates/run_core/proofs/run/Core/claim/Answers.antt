use Rattle.std.proofs.Common.{ℕ, true, List, ◌∙◌, ap, refl}
use Rattle.index_spaces.specs.Held.{HeldList}
use Rattle.run_parts.specs.declared.progress.Progress.TheVariants as progress
use Rattle.run_core.proofs.TakenFacts.{due_waits, staged_shown, claimed_core, claimed_takes, claimed_works}
use Rattle.run_core.proofs.RestFacts.{with_core}
use Rattle.run_core.proofs.run.Core.claim.Goals as goal

pub invariant_of-self : goal.invariant_of-self
invariant_of-self c =
    let s = c.self.inside in
    let is = staged_shown s.hosted s.checked.now.graph s.stages.items s.events s.columns.homes s.columns.takers.items s.values.items s.holders.holding.items s.trace.items c.args.i progress.Out refl (due_waits _ c.args.self.now c.args.i c.self.view_is c.requires.due) in
    with_core c.self.invariant (claimed_core c.claim_of_cancelled_keeps_sharing.ensures _ _ c.args.self.now c.args.i c.self.view_is is c.self.invariant.core c.requires.due c.requires.cancelled)

pub returns-clause-taken : goal.returns-clause-taken
returns-clause-taken c =
    let s = c.self.inside in
    let is = staged_shown s.hosted s.checked.now.graph s.stages.items s.events s.columns.homes s.columns.takers.items s.values.items s.holders.holding.items s.trace.items c.args.i progress.Out refl (due_waits _ c.args.self.now c.args.i c.self.view_is c.requires.due) in
    claimed_takes _ _ c.args.self.now c.args.i c.of.result c.self.view_is is c.self.invariant.core c.requires.due c.requires.cancelled (c.of.ensures ∙ ap (λ (h : HeldList). record { line = c.args.i; is_cancelled = true; held = h }) c.none.ensures)

pub returns-clause-works : goal.returns-clause-works
returns-clause-works c =
    let s = c.self.inside in
    let is = staged_shown s.hosted s.checked.now.graph s.stages.items s.events s.columns.homes s.columns.takers.items s.values.items s.holders.holding.items s.trace.items c.args.i progress.Out refl (due_waits _ c.args.self.now c.args.i c.self.view_is c.requires.due) in
    claimed_works c.claim_of_cancelled_keeps_sharing.ensures _ _ c.args.self.now c.args.i c.self.view_is is c.self.invariant.core c.requires.due c.requires.cancelled
