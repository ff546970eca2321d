-- Seats at the table of a run.
use Rattle.std.specs.Prelude.{◌≡◌, [], ◌∷◌}
use Rattle.atomic_table.specs.declared.shared.Seat as table
use Rattle.graph_terms.specs.Graph.{GraphValue}
use Rattle.shared_events.specs.declared.events.Events.{Events}
use Rattle.word_steps.specs.declared.content.Content.{Content}
use Rattle.word_steps.specs.declared.view.View.{View}
use Rattle.word_steps.specs.declared.table.WordTable.{WordTable}
use Rattle.word_steps.specs.Rule.{ground_of}

-- the graph of this table
abbrev pub graph_of : WordTable → GraphValue
graph_of w = w.base.checked.now.graph

-- the events of its lines
abbrev pub events_of : WordTable → Events
events_of w = w.base.events

-- the seat is one of this table
abbrev pub IsSeatOf : WordTable → table.Seat Content View → Type 0
IsSeatOf w s = (s.table_id ≡ w.table.shared.table_id) × (s.me.0.keys ≡ ground_of (graph_of w) (events_of w) ∷ [])
