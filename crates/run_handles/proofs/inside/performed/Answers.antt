use Rattle.std.proofs.Common.{rules, ◌≡◌, true, ◌&&◌, not, subst}
use Rattle.std.specs.Arc.{arc_value}
use Rattle.graph_terms.specs.Graph.{GraphValue, is_call, line_passes}
use Rattle.run_handles.proofs.Bodies.{body_parts}
use Rattle.run_handles.proofs.inside.performed.Goals as goal

pub returns-clause-said : goal.returns-clause-said
returns-clause-said c = λ body.
    let work = c.args.taken.work in
    let same : (arc_value c.args.taken.graph).graph ≡ c.graph.result.now = search rules in
    let parts = body_parts work.is_cancelled (line_passes is_call c.graph.result.now work.line)
    (subst (λ (g : GraphValue). (not work.is_cancelled && line_passes is_call g work.line) ≡ true) same body) in
    c.perform.ensures.said parts.0 parts.1

pub returns-clause-finished : goal.returns-clause-finished
returns-clause-finished c = λ core is_core same work.
    let graph : core.graph ≡ c.graph.result.now = search rules in
    c.perform.ensures.finished core is_core graph work
