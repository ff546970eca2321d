use Rattle.std.proofs.Common.{◌<◌, length, refl, sym, subst, arith}
use Rattle.std.proofs.lemmas.List.{length-map}
use Rattle.run_lists.specs.Stages.{shown_stage}
use Rattle.run_parts.specs.declared.progress.Progress.TheVariants as progress
use Rattle.run_core.proofs.TakenFacts.{staged_shown}
use Rattle.run_core.proofs.IssueFacts.{issue_waits, stages_differ, left_to_issue, issued_core, issued_answer, issued_works, full_answer}
use Rattle.run_core.specs.Core.{IsCore}
use Rattle.run_core.proofs.OutFacts.{out_by_answer}
use Rattle.run_core.proofs.SlotsGiven.{issued_slots}
use Rattle.run_core.proofs.RestFacts.{with_core}
use Rattle.run_core.proofs.run.Core.issue.Goals as goal
use Rattle.run_core.proofs.CoreFacts.{kept_core}

pub create-requires : goal.create-requires
create-requires c =
    let s = c.self.inside in
    let differ = stages_differ s.stages.items (length s.events.handles) c.issued-next.result c.len.result c.issued-next.ensures (omega (arith, c.len.ensures, s.stages.ok.0)) c.if-next-len.false in
    record { left = subst (λ n. length s.events.handles < n) (sym (kept_core _ c.self.invariant.core).events.waiters) (left_to_issue _ c.self.invariant.core differ) }

pub returns-then-not-create-clause-answer : goal.returns-then-not-create-clause-answer
returns-then-not-create-clause-answer c =
    let s = c.self.inside in
    let differ = stages_differ s.stages.items (length s.events.handles) c.issued-next.result c.len.result c.issued-next.ensures (omega (arith, c.len.ensures, s.stages.ok.0)) c.if-next-len.false in
    let full = c.if-not-create.ensures.full refl in
    full_answer _ _ _ _ s.events c.create.new.self c.args.self.now c.self.view_is c.self.invariant.core differ full.0 full.1

pub index_mut-requires : goal.index_mut-requires
index_mut-requires c =
    let s = c.self.inside in
    let differ = stages_differ s.stages.items (length s.events.handles) c.issued-next.result c.len.result c.issued-next.ensures (omega (arith, c.len.ensures, s.stages.ok.0)) c.if-next-len.false in
    let left = left_to_issue _ c.self.invariant.core differ in
    omega (arith, left, (kept_core _ c.self.invariant.core).sound.on_lines.each_line, length-map s.stages.items shown_stage, c.issued-next.ensures, s.stages.ok.0)

pub invariant_of-self-2 : goal.invariant_of-self-2
invariant_of-self-2 c =
    let s = c.self.inside in
    let differ = stages_differ s.stages.items (length s.events.handles) c.issued-next.result c.len.result c.issued-next.ensures (omega (arith, c.len.ensures, s.stages.ok.0)) c.if-next-len.false in
    let is = staged_shown s.hosted s.checked.now.graph s.stages.items c.create.new.self s.columns.homes s.columns.takers.items s.values.items s.holders.holding.items s.trace.items c.issued-next.result progress.Issued refl (issue_waits _ c.self.invariant.core c.issued-next.result c.issued-next.ensures differ) in
    with_core c.self.invariant (issued_core c.issue_keeps_sharing.ensures _ _ _ _ _ s.events c.create.new.self c.issued-next.result is c.issued-next.ensures c.self.invariant.core c.holds_a_map.ensures differ (c.if-not-create.ensures.made refl))

pub returns-clause-answer : goal.returns-clause-answer
returns-clause-answer c =
    let s = c.self.inside in
    let differ = stages_differ s.stages.items (length s.events.handles) c.issued-next.result c.len.result c.issued-next.ensures (omega (arith, c.len.ensures, s.stages.ok.0)) c.if-next-len.false in
    let is = staged_shown s.hosted s.checked.now.graph s.stages.items c.create.new.self s.columns.homes s.columns.takers.items s.values.items s.holders.holding.items s.trace.items c.issued-next.result progress.Issued refl (issue_waits _ c.self.invariant.core c.issued-next.result c.issued-next.ensures differ) in
    issued_answer _ _ _ _ _ s.events c.create.new.self c.args.self.now c.issued-next.result c.self.view_is is c.issued-next.ensures c.self.invariant.core differ (c.if-not-create.ensures.made refl)

pub returns-clause-works : goal.returns-clause-works
returns-clause-works c =
    let s = c.self.inside in
    let differ = stages_differ s.stages.items (length s.events.handles) c.issued-next.result c.len.result c.issued-next.ensures (omega (arith, c.len.ensures, s.stages.ok.0)) c.if-next-len.false in
    let is = staged_shown s.hosted s.checked.now.graph s.stages.items c.create.new.self s.columns.homes s.columns.takers.items s.values.items s.holders.holding.items s.trace.items c.issued-next.result progress.Issued refl (issue_waits _ c.self.invariant.core c.issued-next.result c.issued-next.ensures differ) in
    issued_works c.issue_keeps_sharing.ensures _ _ _ _ _ s.events c.create.new.self c.args.self.now c.issued-next.result c.self.view_is is c.issued-next.ensures c.self.invariant.core c.holds_a_map.ensures differ (c.if-not-create.ensures.made refl)

pub returns-clause-out : goal.returns-clause-out
returns-clause-out c = out_by_answer c.args.self.now _ c.issued-next.result (subst IsCore c.self.view_is c.self.invariant.core) (returns-clause-answer c)

pub returns-clause-slots : goal.returns-clause-slots
returns-clause-slots c = issued_slots c.args.self.now _ c.issued-next.result (returns-clause-answer c)
