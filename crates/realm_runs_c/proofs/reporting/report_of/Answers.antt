use Rattle.std.proofs.Common.{◌≡◌, ℕ, inl, inr, Some, sym, subst}
use Rattle.std.specs.Prelude.{◌⊎◌}
use Rattle.graph_terms.specs.Graph.{GraphValue}
use Rattle.graph_terms.specs.declared.outcome.End.{End}
use Rattle.c_numbers.specs.declared.status.TheConstants.{CALLS_LEFT, WORK_OUT}
use Rattle.run_core.specs.Core.{Tells}
use Rattle.run_handles.specs.Runs.{IsRunOf, MayReport}
use Rattle.run_handles.specs.declared.token.Token.{Token}
use Rattle.run_handles.specs.declared.token.Token.TheVariants as token
use Rattle.realm_runs_c.proofs.reporting.report_of.Goals as goal

may_is_run : (held : Token) (g : GraphValue) → MayReport (Some held) g → IsRunOf (Some held) g
may_is_run (token.Run c) g may = may.0
may_is_run (token.Taken t) g may = absurd may
may_is_run (token.Finished x) g may = absurd may
may_is_run (token.Over o) g may = may
may_is_run token.Empty g may = absurd may

pick : (s done lost out left : ℕ) → (s ≡ done) ⊎ ((s ≡ lost) ⊎ ((s ≡ out) ⊎ (s ≡ left))) → (s ≡ done → ⊥) → (s ≡ out → ⊥) → (s ≡ lost) ⊎ (s ≡ left)
pick s done lost out left (inl is) undone within = absurd (undone is)
pick s done lost out left (inr (inl is)) undone within = inl is
pick s done lost out left (inr (inr (inl is))) undone within = absurd (within is)
pick s done lost out left (inr (inr (inr is))) undone within = inr is

pub returns-then-status-ne-DONE-clause-answers : goal.returns-then-status-ne-DONE-clause-answers
returns-then-status-ne-DONE-clause-answers c = λ g may.
    pick c.finish_in-status.result 0 7 WORK_OUT CALLS_LEFT (c.finish_in-status.ensures.answers g (may_is_run c.args.token.now g may))
    (λ is. c.if-status-ne-DONE.true is) (c.finish_in-status.ensures.nothing_out g may)

pub returns-in-Some-clause-report : goal.returns-in-Some-clause-report
returns-in-Some-clause-report c = λ g faults here agrees.
    c.in-Some.ensures g faults (c.finish_in-status.ensures.over g here c.if-status-ne-DONE.false)
    (λ i call. subst (λ (x : End). Tells x (faults i)) (sym (c.finish_in-status.ensures.ends g i here call)) (agrees i call))
