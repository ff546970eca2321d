use Rattle.std.proofs.Common.{rules, ◌≡◌, ◌∙◌, ℕ, false, List, Some, subst}
use Rattle.std.specs.Prelude.{Option}
use Rattle.c_answers.specs.Buffers.{Holds, IsCut}
use Rattle.run_handles.specs.Ends.{AgreesWith, report_with}
use Rattle.run_handles.specs.Runs.{IsRunOf, ends_in}
use Rattle.run_handles.specs.declared.token.Token.{Token}
use Rattle.realm_runs_c.proofs.Reports.{none_agrees}
use Rattle.realm_runs_c.proofs.reporting.realm_run_report.Goals as goal

pub returns-in-Ok-clause-done : goal.returns-in-Ok-clause-done
returns-in-Ok-clause-done c = λ g faults here agrees zero.
    let held : c.args.run.now.value ≡ Some c.deref_mut.result.now = search rules in
    let told : c.in-Ok.report.items ≡ report_with faults g = c.in-Ok.ensures.report g faults (subst (λ (o : Option Token). IsRunOf o g) held here)
    (subst (λ (o : Option Token). AgreesWith g (ends_in o) faults) held agrees) in
    subst (λ (xs : List ℕ). Holds xs c.args.out.now c.hand_out.new.out c.hand_out.new.written) (c.as_slice.ensures.value ∙ told) (c.hand_out.ensures.done zero)

pub returns-in-Ok-clause-cut : goal.returns-in-Ok-clause-cut
returns-in-Ok-clause-cut c = λ g faults here agrees short.
    let held : c.args.run.now.value ≡ Some c.deref_mut.result.now = search rules in
    let told : c.in-Ok.report.items ≡ report_with faults g = c.in-Ok.ensures.report g faults (subst (λ (o : Option Token). IsRunOf o g) held here)
    (subst (λ (o : Option Token). AgreesWith g (ends_in o) faults) held agrees) in
    subst (λ (xs : List ℕ). IsCut xs c.args.out.now c.hand_out.new.out c.hand_out.new.written) (c.as_slice.ensures.value ∙ told) (c.hand_out.ensures.cut short)

pub returns-in-Ok-clause-unfaulted : goal.returns-in-Ok-clause-unfaulted
returns-in-Ok-clause-unfaulted c = λ g here none.
    let agrees : AgreesWith g (ends_in c.args.run.now.value) (λ i. false) = none_agrees g (ends_in c.args.run.now.value) none in
    (returns-in-Ok-clause-done c g (λ i. false) here agrees, returns-in-Ok-clause-cut c g (λ i. false) here agrees)
