use Rattle.std.proofs.Common.{◌≡◌, [], refl, sym, ap, ◌∙◌, subst}
use Rattle.graph_terms.specs.Graph.{GraphValue}
use Rattle.realm_timeline.specs.Text.{timeline_text}
use Rattle.graph_answers.specs.Answer.{IsTimelineText}
use Rattle.graph_answers.proofs.Timelines.{timeline_certified}
use Rattle.realm_io.specs.TextSinks.{TextSinkValue}
use Rattle.c_answers.proofs.Sinks.{taken_is}
use Rattle.c_answers.proofs.texts.plan_text.Goals as goal

pub returns-in-Ok-put_timeline : goal.returns-in-Ok-put_timeline
returns-in-Ok-put_timeline c =
    let graph = c.args.checked.now.graph in
    let t = c.in-Ok.timeline in
    let p = c.in-Ok.ensures in
    let empty : c.new-sink.result.taken ≡ [] = ap (λ (s : TextSinkValue). s.taken) c.new-sink.ensures in
    let items : c.into_bytes.result.items ≡ timeline_text graph t = c.into_bytes.ensures ∙ (taken_is _ _ (timeline_text c.graph.result.now t) empty c.in-Ok-put_timeline.ensures.taken ∙ ap (λ (g : GraphValue). timeline_text g t) c.graph.ensures.graph) in
    subst (IsTimelineText c.args.processors graph) (sym items) (timeline_certified graph c.args.processors t p.plan p.valid p.greedy p.length p.total p.critical p.critical_cost p.at_least p.at_most)
