use Rattle.std.proofs.Common.{◌+◌, ◌^◌, ◌<◌, Bool, List, ℕ, length, sym, subst, inl, inr}
use Rattle.std.proofs.lemmas.Result.{IfOk-weaker, IfErr-weaker}
use Rattle.graph_terms.specs.declared.format.Format.{Format}
use Rattle.graph_terms.specs.Graph.{GraphValue, written_in}
use Rattle.graph_terms.specs.Fits.{IsGraph}
use Rattle.flow_top.specs.FlowText.{FlowText, IsReadFault}
use Rattle.flow_top.specs.Answer.{AnswersFlow, IsAnswerFault, IsFaultOfFlow}
use Rattle.flow_top.specs.declared.FlowFault.{FlowFault}
use Rattle.flow_top.specs.declared.FlowFault.TheVariants as fault
use Rattle.flow_order.specs.Flow.{IsFlow}
use Rattle.flow_top.proofs.FlowLines.{one_of, flow_in, few_items}
use Rattle.flow_top.proofs.answer.answer_flow.Goals as goal

of_text : (bytes : List ℕ) (commute : Bool) (format : Format) (e : FlowFault) → IsReadFault bytes e → IsAnswerFault bytes commute format e
of_text bytes commute format (fault.Line n w) h = inl h
of_text bytes commute format fault.NoMemory h = tt

of_flow : (bytes : List ℕ) (f : GraphValue) (commute : Bool) (format : Format) (e : FlowFault) → FlowText bytes f → IsFaultOfFlow (written_in format f) commute e → IsAnswerFault bytes commute format e
of_flow bytes f commute format (fault.Line n w) t (inl h) = inr (inl (record { flow = f; is_text = t; line = h.line; over = h.over; number_is = h.number_is; reason_is = h.reason_is }))
of_flow bytes f commute format (fault.Line n w) t (inr h) = inr (inr (record { flow = f; is_text = t; within = h.within; too_long = h.too_long; number_is = h.number_is; reason_is = h.reason_is }))
of_flow bytes f commute format fault.NoMemory t h = tt

pub in_format-later-requires : goal.in_format-later-requires
in_format-later-requires c = let t = c.in-Ok.ensures.text in one_of t.rest c.in-Ok.flow t.is_text

pub answer_read-requires-clause-flow : goal.answer_read-requires-clause-flow
answer_read-requires-clause-flow c =
    let f = c.in-Ok.flow in
    let is = c.in_format-later.ensures in
    subst IsFlow (sym is) (flow_in c.args.format f (c.in-Ok.ensures.text).is_flow (subst IsGraph is c.lines.ensures.is_graph))

pub answer_read-requires-clause-few : goal.answer_read-requires-clause-few
answer_read-requires-clause-few c = subst (λ (g : GraphValue). length g.decls + length g.lines + 2 < 2 ^ 32) (sym c.in_format-later.ensures) (few_items c.args.bytes.now c.in-Ok.flow c.in-Ok.ensures.text)

pub returns-in-Ok-clause-answer : goal.returns-in-Ok-clause-answer
returns-in-Ok-clause-answer c = IfOk-weaker c.answer_read.result _ _ (λ v h.
    let a : AnswersFlow (written_in c.args.format c.in-Ok.flow) c.args.commute v.items = subst (λ (g : GraphValue). AnswersFlow g c.args.commute v.items) c.in_format-later.ensures h in
    record { flow = c.in-Ok.flow; is_text = c.in-Ok.ensures.text; out_is = a.out_is; means = a.means }) c.answer_read.ensures.answer

pub returns-in-Ok-clause-refusal : goal.returns-in-Ok-clause-refusal
returns-in-Ok-clause-refusal c = IfErr-weaker c.answer_read.result _ _ (λ e h. of_flow c.args.bytes.now c.in-Ok.flow c.args.commute c.args.format e c.in-Ok.ensures.text (subst (λ (g : GraphValue). IsFaultOfFlow g c.args.commute e) c.in_format-later.ensures h)) c.answer_read.ensures.refusal

pub returns-in-Err-clause-refusal : goal.returns-in-Err-clause-refusal
returns-in-Err-clause-refusal c = of_text c.args.bytes.now c.args.commute c.args.format c.in-Err.fault c.in-Err.ensures.refusal
