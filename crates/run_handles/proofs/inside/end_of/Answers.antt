use Rattle.std.proofs.Common.{rules, ◌≡◌, ℕ, sym, subst}
use Rattle.run_core.specs.Core.{CoreValue}
use Rattle.run_core.specs.Finishing.{NothingOut}
use Rattle.run_handles.specs.Ends.{IsCall, LeavesNoCall, end_in, end_of}
use Rattle.run_handles.proofs.inside.end_of.Goals as goal

pub end-requires-clause-nothing_out : goal.end-requires-clause-nothing_out
end-requires-clause-nothing_out c =
    let done : c.may_end-run.result.1 ≡ 0 = search rules in
    subst NothingOut (sym c.may_end-run.ensures.same) (c.may_end-run.ensures.may done).0

pub end-requires-clause-none_left : goal.end-requires-clause-none_left
end-requires-clause-none_left c =
    let done : c.may_end-run.result.1 ≡ 0 = search rules in
    subst LeavesNoCall (sym c.may_end-run.ensures.same) (c.may_end-run.ensures.may done).1

pub returns-clause-ends : goal.returns-clause-ends
returns-clause-ends c = subst (λ (v : CoreValue). (i : ℕ) → IsCall v.graph i → end_of c.end.result.found i ≡ end_in v i) c.may_end-run.ensures.same c.end.ensures.ends
