use Rattle.std.proofs.Common.{rules, ◌≡◌, true, ◌&&◌, not, ◌∙◌, subst}
use Rattle.std.specs.Arc.{arc_value}
use Rattle.graph_terms.specs.Graph.{GraphValue, is_call, line_passes}
use Rattle.run_handles.proofs.Bodies.{body_parts}
use Rattle.run_handles.proofs.verdicts.performed_with.Goals as goal

pub returns : goal.returns
returns c =
    let work = c.args.taken.work in
    let same : (arc_value c.args.taken.graph).graph ≡ c.graph.result.now = search rules in
    record {
      line = c.perform_with.ensures.line;
      said = λ body.
          let parts = body_parts work.is_cancelled (line_passes is_call c.graph.result.now work.line)
          (subst (λ (g : GraphValue). (not work.is_cancelled && line_passes is_call g work.line) ≡ true) same body) in
          c.perform_with.ensures.said parts.0 parts.1 ∙ c.said.ensures;
      finished = λ core is_core hosted graph work. c.perform_with.ensures.finished core is_core hosted (graph ∙ same) work;
    }
