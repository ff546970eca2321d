use Rattle.std.proofs.Common.{rules, ◌≡◌, Some, sym, subst}
use Rattle.graph_terms.specs.Graph.{GraphValue}
use Rattle.run_handles.specs.Ends.{IsCall}
use Rattle.run_handles.specs.Runs.{IsRunOf, ends_in}
use Rattle.run_handles.specs.declared.token.Token.{Token}
use Rattle.run_handles.specs.declared.token.Token.TheVariants as token
use Rattle.run_handles.proofs.inside.finish_in.Goals as goal

pub returns-in-Run-clause-ends : goal.returns-in-Run-clause-ends
returns-in-Run-clause-ends c = λ g i here call.
    let is : token.Run c.in-Run.run' ≡ c.args.token.now = search rules in
    subst (λ (t : Token). IsRunOf (Some t) g → ends_in (Some c.end_of-kept.result.0) i ≡ ends_in (Some t) i) is
    (λ same. c.end_of-kept.ensures.ends i (subst (λ (h : GraphValue). IsCall h i) (sym same) call)) here
