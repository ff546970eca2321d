-- What the end of a run needs of memory.
use Rattle.std.specs.Prelude.{◌≡◌, ◌≤◌, ℕ, length}
use Rattle.std.specs.Vec.{vec_capacity}
use Rattle.event_table.specs.EventMap.{fresh}
use Rattle.graph_terms.specs.Graph.{GraphValue}
use Rattle.run_parts.specs.LineEvents.{last_gen_for}
use Rattle.run_parts.specs.Room.{HasRoom}
use Rattle.word_parts.specs.declared.closing_room.ClosingRoom.{ClosingRoom}

-- room for the states, the values and a core of so many lines, and a table of so many slots
pub record IsClosingRoom (g : GraphValue) (slots : ℕ) (s : ClosingRoom) : Type 0 where
  pub states : length g.lines ≤ vec_capacity s.states
  pub phases : length g.lines ≤ vec_capacity s.phases
  pub table : s.table ≡ fresh slots (length g.lines) (last_gen_for (length g.lines))
  pub room : HasRoom g s.room
