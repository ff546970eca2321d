use Rattle.std.proofs.Common.{◌≤◌, arith}
use Rattle.graph_answers.proofs.RunFacts.{need_is_small}
use Rattle.realm_top.proofs.sessions.run_one.Goals as goal

pub run_graph-requires-clause-need : goal.run_graph-requires-clause-need
run_graph-requires-clause-need g c = λ κs lives.
    let few : c.need.result ≤ 8192 = need_is_small c.args.checked.now.graph c.need.result 8191 c.need.ensures.need (omega arith) in
    omega (arith, few, c.need.ensures.value)
