use Rattle.std.proofs.Common.{sym, ◌∙◌, arith, ap}
use Rattle.graph_terms.specs.Access.{all_accesses}
use Rattle.basics.proofs.ListFacts.{got_contains}
use Rattle.index_spaces.specs.Space.{space_size}
use Rattle.realm_timeline.proofs.CostFacts.{cost_more, cost_whole, no_more}
use Rattle.realm_timeline.proofs.cost.cost_of.Goals as goal

pub space-requires : goal.space-requires
space-requires c =
    (c.all_accesses_fit.ensures c.args.graph.now c.args.line c.in-Some.access c.lines.ensures.is_graph
    (got_contains (all_accesses c.args.graph.now c.args.line) c.loop-k.k c.in-Some.access (sym c.any_access.ensures ∙ c.in-Some.is))).space

pub loop-k-preserved : goal.loop-k-preserved
loop-k-preserved c = cost_more c.args.graph.now c.args.line c.loop-k.k c.loop-k.cost c.size-cost.result c.in-Some.access c.loop-k.invariant (sym c.any_access.ensures ∙ c.in-Some.is)
    (c.size-cost.ensures.size ∙ ap space_size c.space.ensures) c.size-cost.ensures.at_most

pub returns-in_default-clause-cost : goal.returns-in_default-clause-cost
returns-in_default-clause-cost c = cost_whole c.args.graph.now c.args.line c.loop-k.k c.loop-k.cost c.loop-k.invariant (no_more (all_accesses c.args.graph.now c.args.line) c.loop-k.k (sym c.any_access.ensures ∙ c.in_default.is))

pub returns-clause-cost : goal.returns-clause-cost
returns-clause-cost c = cost_whole c.args.graph.now c.args.line c.loop-k.k c.loop-k.cost c.loop-k.invariant (omega (arith, c.all_accesses_are_few.ensures c.args.graph.now c.args.line c.lines.ensures.is_graph))
