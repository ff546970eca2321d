use Rattle.std.proofs.Common.{refl, inr}
use Rattle.realm_timeline.specs.Text.{timeline_text}
use Rattle.program_io.proofs.Public.{written_then_flushed, stopped_is_broken}
use Rattle.graph_answers.proofs.Timelines.{timeline_certified, wrote_timeline, stopped_timeline}
use Rattle.graph_answers.proofs.planning.plan_lines.Goals as goal

pub returns-in-Ok-put_timeline-clause-done : goal.returns-in-Ok-put_timeline-clause-done
returns-in-Ok-put_timeline-clause-done g c =
    let graph = c.args.checked.now.graph in
    let t = c.in-Ok.timeline in
    let p = c.in-Ok.ensures in
    inr (
      timeline_text graph t,
      timeline_certified graph c.args.processors t p.plan p.valid p.greedy p.length p.total p.critical p.critical_cost p.at_least p.at_most,
      written_then_flushed _ _ _ _ c.flush.result (timeline_text graph t) (wrote_timeline _ _ c.graph.result.now graph t c.graph.ensures.graph c.in-Ok-put_timeline.ensures) c.flush.ensures,
    )

pub returns-clause-done : goal.returns-clause-done
returns-clause-done g c =
    let graph = c.args.checked.now.graph in
    let t = c.in-Ok.timeline in
    let p = c.in-Ok.ensures in
    inr (
      timeline_text graph t,
      timeline_certified graph c.args.processors t p.plan p.valid p.greedy p.length p.total p.critical p.critical_cost p.at_least p.at_most,
      inr (refl, stopped_is_broken _ _ (timeline_text graph t) (stopped_timeline _ _ c.graph.result.now graph t c.graph.ensures.graph c.in-Err.ensures)),
    )
