-- What a run begins with.
use Rattle.std.specs.Prelude.{◌≡◌, ℕ, ◌-◌, ◌≤◌, [], length}
use Rattle.shared_events.specs.Views.{shape_of, IsAt}
use Rattle.run_parts.specs.LineEvents.{last_gen_for}
use Rattle.word_parts.specs.declared.opening.Begun.{Begun}
use Rattle.word_parts.specs.ClosingRoom.{IsClosingRoom}
use Rattle.word_parts.specs.Preparing.{AreOut}
use Rattle.word_steps.specs.Rule.{opener}
use Rattle.word_steps.specs.Table.{graph_of, events_of, IsSeatOf}

-- a table with so many event slots, enough for its graph, first seats that have done nothing, and what its end needs
pub record IsBegun (slots : ℕ) (b : Begun) : Type 0 where
  pub at : IsSeatOf b.table b.place
  pub knows : b.place.me ≡ (opener (graph_of b.table) (events_of b.table), [])
  pub events : IsAt (events_of b.table) b.events
  pub slots_are : (shape_of (events_of b.table)).slots ≡ slots
  pub waiters : (shape_of (events_of b.table)).waiters ≡ length (graph_of b.table).lines
  pub last_gen : (shape_of (events_of b.table)).last_gen ≡ length (graph_of b.table).lines - slots
  pub few : (shape_of (events_of b.table)).last_gen ≤ last_gen_for (length (graph_of b.table).lines)
  pub enough : b.table.base.checked.now.need ≤ slots
  pub room : IsClosingRoom (graph_of b.table) slots b.closing_room
  pub out : AreOut (graph_of b.table) b.homes
