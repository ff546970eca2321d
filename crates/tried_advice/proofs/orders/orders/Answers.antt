use Rattle.std.proofs.Common.{◌≡◌, length, arith}
use Rattle.std.proofs.lemmas.Result.{IfOk-weaker}
use Rattle.tried_advice.proofs.AppliedSteps.{applied_length, tried_is}
use Rattle.tried_advice.proofs.RuleFacts.{orders_by}
use Rattle.tried_advice.proofs.orders.orders.Goals as goal

pub leads_and_holds-requires-clause-first : goal.leads_and_holds-requires-clause-first
leads_and_holds-requires-clause-first c =
    let size : length c.in-Some.tried.lines ≡ length (c.args.graph.now).lines = applied_length c.args.graph.now c.in-Some.tried c.args.form (tried_is c.args.graph.now c.in-Some.tried c.args.form c.in_ok-tried.field-0 c.in_ok-tried.ensures.some c.in-Some.is) in
    omega (arith, size, c.requires.first)

pub leads_and_holds-requires-clause-second : goal.leads_and_holds-requires-clause-second
leads_and_holds-requires-clause-second c =
    let size : length c.in-Some.tried.lines ≡ length (c.args.graph.now).lines = applied_length c.args.graph.now c.in-Some.tried c.args.form (tried_is c.args.graph.now c.in-Some.tried c.args.form c.in_ok-tried.field-0 c.in_ok-tried.ensures.some c.in-Some.is) in
    omega (arith, size, c.requires.second)

pub returns-in-Some : goal.returns-in-Some
returns-in-Some c =
    IfOk-weaker c.leads_and_holds.result _ _ (λ b h. orders_by c.args.graph.now c.in-Some.tried c.args.form c.args.first c.args.second b (tried_is c.args.graph.now c.in-Some.tried c.args.form c.in_ok-tried.field-0 c.in_ok-tried.ensures.some c.in-Some.is) c.requires.race h)
    c.leads_and_holds.ensures
