-- How much the room for a core holds.
use Rattle.std.specs.Prelude.{◌≡◌, ◌≤◌, [], length}
use Rattle.std.specs.Vec.{vec_capacity}
use Rattle.graph_terms.specs.Graph.{GraphValue, columns, locks}
use Rattle.run_parts.specs.declared.room.RunRoom.{RunRoom}

-- each list has room for an item for each line, column or reservation, and those of the outcome are empty
pub record HasRoom (g : GraphValue) (r : RunRoom) : Type 0 where
  pub stages : length g.lines ≤ vec_capacity r.stages
  pub handles : length g.lines ≤ vec_capacity r.handles
  pub busy : length g.lines ≤ vec_capacity r.busy
  pub values : length g.lines ≤ vec_capacity r.values
  pub holding : length g.lines ≤ vec_capacity r.holding
  pub trace : length g.lines ≤ vec_capacity r.trace
  pub takers : length (columns g) ≤ vec_capacity r.takers
  pub lent : length (columns g) ≤ vec_capacity r.lent
  pub held : length (locks g) ≤ vec_capacity r.held
  pub ends : (r.outcome.ends.items ≡ []) × (length g.lines ≤ vec_capacity r.outcome.ends)
  pub answers : (r.outcome.answers.items ≡ []) × (length g.lines ≤ vec_capacity r.outcome.answers)
  pub phases : (r.outcome.phases.items ≡ []) × (length g.lines ≤ vec_capacity r.outcome.phases)
