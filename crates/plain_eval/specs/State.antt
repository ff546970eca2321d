-- What the state of an evaluation shows, by the steps that were made.
use Rattle.std.specs.Prelude.{◌≡◌, List, length, map}
use Rattle.std.specs.BTreeSet.{contains}
use Rattle.std.specs.Ordering.{nat_cmp}
use Rattle.basics.specs.Lists.{numbers_below}
use Rattle.graph_terms.specs.Graph.{GraphValue}
use Rattle.graph_meaning.specs.Evaluation.{Step, end_in, has_ended, cells_of}
use Rattle.line_effects.specs.Homes.{all_home}
use Rattle.plain_eval.specs.Waiting.{IsWaiting}
use Rattle.plain_eval.specs.declared.state.State.{State}

-- the state after these steps
pub record IsState (g : GraphValue) (ss : List Step) (state : State) : Type 0 where
  pub waiting : IsWaiting g (has_ended ss) state.waiting.left.items (contains nat_cmp state.waiting.ready)
  pub ends : state.ends.items ≡ map (end_in ss) (numbers_below (length g.lines))
  pub order : state.order.items ≡ map (λ (s : Step). s.line) ss
  pub homes : state.homes ≡ all_home g (cells_of ss)
