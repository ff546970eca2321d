-- A core without its borrow of the graph.
use Rattle.std.specs.Prelude.{◌≡◌, ◌≤◌, [], length}
use Rattle.std.specs.Vec.{vec_capacity}
use Rattle.graph_terms.specs.Graph.{GraphValue}
use Rattle.run_core.specs.Core.{CoreValue, IsCore}
use Rattle.run_lists.specs.Holders.{AreHeld}
use Rattle.run_core.specs.Kept.{shown_core, AreKept}
use Rattle.run_core.specs.declared.run.rest.Resting.{Resting}

-- the core that it is with this graph
abbrev pub core_by : GraphValue → Resting → CoreValue
core_by g r = shown_core r.hosted g r.stages.items r.events r.columns.homes r.columns.takers.items r.values.items r.holders.holding.items r.trace.items

-- with this graph it is a core, with room for what its end needs
pub record RestsBy (g : GraphValue) (r : Resting) : Type 0 where
  pub core : IsCore (core_by g r)
  pub kept : AreKept g r.columns.homes r.columns.takers.items
  pub held : AreHeld g r.holders.holding.items r.holders.held.items
  pub trace : length g.lines ≤ vec_capacity r.trace
  pub ends : (r.room.ends.items ≡ []) × (length g.lines ≤ vec_capacity r.room.ends)
  pub answers : (r.room.answers.items ≡ []) × (length g.lines ≤ vec_capacity r.room.answers)
  pub phases : (r.room.phases.items ≡ []) × (length g.lines ≤ vec_capacity r.room.phases)
