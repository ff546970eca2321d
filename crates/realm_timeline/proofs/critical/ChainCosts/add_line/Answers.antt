use Rattle.std.proofs.Common.{◌+◌, ◌<◌, ◌≤◌, ◌∙◌, length, sym, subst, ap}
use Rattle.std.specs.Prelude.{slice_set}
use Rattle.realm_timeline.specs.ChainCosts.{chain_cost_at, IsBestOf, best_cost}
use Rattle.realm_timeline.proofs.ChainCostFacts.{source_line, best_fits}
use Rattle.realm_timeline.proofs.critical.ChainCosts.add_line.Goals as goal

pub best_of-best-requires : goal.best_of-best-requires
best_of-best-requires c = λ e m. subst (λ n. e.from < n) (sym (ap length c.deref.ensures.value ∙ c.requires.costs))
    (source_line c.args.graph.now (λ x k. c.edges_between_lines.ensures c.args.graph.now x c.lines.ensures.is_graph k) c.args.line c.edges_into.result.now c.edges_into.ensures e m)

pub set-requires-clause-fits : goal.set-requires-clause-fits
set-requires-clause-fits c = best_fits c.args.self.now.costs.items c.edges_into.result.now c.best_of-best.result c.cost_of-cost.result c.requires.few
    (subst (λ xs. IsBestOf (chain_cost_at xs) c.edges_into.result.now c.best_of-best.result) c.deref.ensures.value c.best_of-best.ensures) c.cost_of-cost.ensures.few

pub returns : goal.returns
returns c = record {
  best = c.best_of-best.result;
  is_best = subst (λ es. IsBestOf (chain_cost_at c.args.self.now.costs.items) es c.best_of-best.result) c.edges_into.ensures
      (subst (λ xs. IsBestOf (chain_cost_at xs) c.edges_into.result.now c.best_of-best.result) c.deref.ensures.value c.best_of-best.ensures);
  costs_are = c.set.ensures.costs ∙ ap (λ n. slice_set c.args.self.now.costs.items c.args.line (best_cost c.best_of-best.result + n)) c.cost_of-cost.ensures.cost;
  before_are = c.set.ensures.before;
  few = subst (λ n. n ≤ 68719476736) c.cost_of-cost.ensures.cost c.cost_of-cost.ensures.few;
}
