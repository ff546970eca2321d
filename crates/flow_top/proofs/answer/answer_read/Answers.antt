use Rattle.std.proofs.Common.{◌≡◌, ℕ, ◌+◌, ◌<◌, Bool, false, length, ◌∙◌, subst, inr, arith}
use Rattle.std.proofs.lemmas.Result.{IfOk-weaker, IfErr-weaker}
use Rattle.graph_terms.specs.Limits.{limits}
use Rattle.graph_terms.specs.Graph.{GraphValue}
use Rattle.graph_words.specs.Text.{text, GraphText}
use Rattle.task_flow.specs.Construction.{is_over, written}
use Rattle.flow_order.specs.Written.{MeansFlow}
use Rattle.flow_top.specs.Answer.{IsTooLong, IsFaultOfFlow}
use Rattle.flow_top.specs.declared.FlowFault.{FlowFault}
use Rattle.flow_top.specs.declared.FlowFault.TheVariants as fault
use Rattle.flow_top.proofs.answer.answer_read.Goals as goal

at_end : (f g : GraphValue) (commute : Bool) (end : ℕ) (e : FlowFault) → g ≡ written f commute → ((j : ℕ) → j < length f.lines → is_over f commute j ≡ false) → end ≡ length f.decls + length f.lines + 2 → IsTooLong g end e → IsFaultOfFlow f commute e
unfolding written
at_end f g commute end (fault.Line n w) is within at h = inr (record { within = within; too_long = subst (λ (x : GraphValue). (limits x.format).text < length (text x)) is h.0; number_is = h.1 ∙ at; reason_is = h.2 })
at_end f g commute end fault.NoMemory is within at h = tt

pub text_within-requires : goal.text_within-requires
text_within-requires c = c.in-Ok.ensures.means.fits

pub returns-in-Ok-clause-answer : goal.returns-in-Ok-clause-answer
returns-in-Ok-clause-answer c = IfOk-weaker c.text_within.result _ _ (λ v t. record {
  out_is = subst (GraphText v.items) c.in-Ok.ensures.graph t;
  means = subst (MeansFlow c.args.flow.now c.args.commute) c.in-Ok.ensures.graph c.in-Ok.ensures.means;
}) c.text_within.ensures.text

pub returns-in-Ok-clause-refusal : goal.returns-in-Ok-clause-refusal
returns-in-Ok-clause-refusal c = IfErr-weaker c.text_within.result _ _ (λ e h. at_end c.args.flow.now c.in-Ok.graph c.args.commute c.number_in_text.result e c.in-Ok.ensures.graph c.in-Ok.ensures.within
    (omega (arith, c.number_in_text.ensures, c.decls.ensures.number, c.lines.ensures.number)) h) c.text_within.ensures.refusal
