use Rattle.std.proofs.Common.{◌≡◌, ℕ, ◌<◌, true, false, Err, length, ◌∙◌, ap, subst, arith}
use Rattle.std.specs.Prelude.{OnOk, IfErr}
use Rattle.std.proofs.lemmas.Result.{IfOk-weaker}
use Rattle.task_flow.specs.Construction.{written, is_over}
use Rattle.task_flow.specs.Refusal.{IsFlowRefusal}
use Rattle.task_flow.proofs.Writing.{written_means}
use Rattle.task_flow.proofs.make.make_graph.Goals as goal

pub returns-in-Err-Limit-clause-refusal : goal.returns-in-Err-Limit-clause-refusal
returns-in-Err-Limit-clause-refusal c =
    let limit = ap (λ e. Err e) c.in-Err-Limit.field-0-is in record {
      line = c.in-Err-Limit.ensures.some limit;
      over = subst (λ z. is_over c.args.flow.now z 0 ≡ true) c.in_ok-sections.ensures.commute (c.in-Err-Limit.ensures.limit limit);
      before = λ i h. absurd (omega arith);
    }

pub returns-in-Ok-clause-graph : goal.returns-in-Ok-clause-graph
returns-in-Ok-clause-graph c = IfOk-weaker c.with_lines.result _ _ (λ g h. h.0 ∙ ap (written c.args.flow.now) c.in_ok-sections.ensures.commute) c.with_lines.ensures.graph

pub returns-in-Ok-clause-means : goal.returns-in-Ok-clause-means
returns-in-Ok-clause-means c = IfOk-weaker c.with_lines.result _ _ (λ g h.
    written_means c.means_by_sources.ensures c.points_are_listed.ensures c.args.flow.now c.args.commute c.requires g (h.0 ∙ ap (written c.args.flow.now) c.in_ok-sections.ensures.commute) h.1) c.with_lines.ensures.graph

pub returns-in-Ok-clause-within : goal.returns-in-Ok-clause-within
returns-in-Ok-clause-within c = subst (λ z. OnOk c.with_lines.result ((j : ℕ) → j < length c.args.flow.now.lines → is_over c.args.flow.now z j ≡ false)) c.in_ok-sections.ensures.commute c.with_lines.ensures.within

pub returns-in-Ok-clause-refusal : goal.returns-in-Ok-clause-refusal
returns-in-Ok-clause-refusal c = subst (λ z. IfErr c.with_lines.result (λ e. IsFlowRefusal c.args.flow.now z e)) c.in_ok-sections.ensures.commute c.with_lines.ensures.refusal
