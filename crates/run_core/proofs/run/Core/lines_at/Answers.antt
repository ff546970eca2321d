use Rattle.std.proofs.Common.{◌≡◌, length, map, sym, ◌∙◌, ap, subst}
use Rattle.std.specs.Prelude.{◌↔◌}
use Rattle.std.proofs.lemmas.List.{length-map}
use Rattle.basics.specs.Lists.{count_below}
use Rattle.run_state.specs.Run.{out, stage_at}
use Rattle.run_core.specs.Core.{CoreValue}
use Rattle.run_core.specs.Counts.{has_stage}
use Rattle.run_core.specs.Finishing.{NothingOut}
use Rattle.run_lists.specs.Stages.{shown_stage}
use Rattle.run_core.proofs.CountFacts.{none_out_is_counted}
use Rattle.run_core.proofs.run.Core.lines_at.Goals as goal

pub returns-clause-out : goal.returns-clause-out
returns-clause-out c = λ is.
    let s = c.self.inside.stages.items in
    let slice = c.as_slice.result.now in
    let stages = map shown_stage s in
    let counted : c.count_at.result ≡ count_below (out stages) (length stages) =
    c.count_at.ensures ∙ (ap (λ t. count_below (λ i. has_stage t (stage_at (map shown_stage slice) i)) (length slice)) is
    ∙ (ap (λ xs. count_below (out (map shown_stage xs)) (length xs)) c.as_slice.ensures.value ∙ ap (count_below (out stages)) (sym (length-map s shown_stage)))) in
    subst (λ (v : CoreValue). (c.count_at.result ≡ 0) ↔ NothingOut v) c.self.view_is (none_out_is_counted stages c.count_at.result counted)
