use Rattle.std.proofs.Common.{◌≡◌, ◌≤◌, length, ◌∙◌, ap, arith}
use Rattle.graph_terms.specs.Graph.{GraphValue}
use Rattle.graph_answers.proofs.RunFacts.{need_is_small}
use Rattle.c_answers.proofs.need.need_of.Goals as goal

pub returns : goal.returns
returns c =
    let lines : c.lines.result ≡ length c.args.checked.now.graph.lines = c.lines.ensures.number ∙ ap (λ (x : GraphValue). length x.lines) c.graph.ensures.graph in
    let few : c.lines.result ≤ 65536 = c.lines.ensures.few in
    record { need = (c.need.ensures.value, need_is_small c.args.checked.now.graph c.need.result 65535 c.need.ensures.need (omega (arith, lines, few))) }
