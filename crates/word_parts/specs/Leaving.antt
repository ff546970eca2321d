-- What a run leaves once its words are closed.
use Rattle.std.specs.Prelude.{◌≡◌, ◌≤◌, ◌↔◌, ◌⊎◌, ℕ, [], true, false, List, length, Contains, Some}
use Rattle.graph_terms.specs.declared.outcome.End.{End}
use Rattle.event_table.specs.EventMap.{answer, answer_of}
use Rattle.event_table.specs.declared.handle.Fate.{Fate}
use Rattle.event_table.specs.declared.handle.Handle.{Handle}
use Rattle.shared_events.specs.Seats.{Begins, Knows}
use Rattle.shared_events.specs.Views.{lists, shape_of}
use Rattle.shared_events.specs.declared.tokens.Seat.{Seat}
use Rattle.run_state.specs.Run.{Run, Ended, stage_at, time_at, issued, out}
use Rattle.run_parts.specs.Room.{HasRoom}
use Rattle.run_parts.specs.Shown.{IsShown}
use Rattle.run_parts.specs.declared.parts.RunParts.{RunParts}
use Rattle.word_steps.specs.declared.table.WordTable.{WordTable}
use Rattle.word_steps.specs.declared.view.View.{View}
use Rattle.word_steps.specs.Table.{graph_of, events_of}

-- the parts show a sound state in which no work is out, and of which a seat with this view knew what is issued, has ended and when, and the handles; they have the slots of the events, enough for the graph, room for a core, and the fates that the seat at the events knew
pub record LeavesParts (w : WordTable) (v : View) (s : Seat) (p : RunParts) : Type 0 where
  pub run : Run
  pub handled : List Handle
  pub shown : IsShown p.checked.now.graph run handled p.states p.table p.homes p.phases
  pub room : HasRoom p.checked.now.graph p.room
  pub graph : p.checked.now.graph ≡ graph_of w
  pub slots : length p.table.slots ≡ (shape_of (events_of w)).slots
  pub enough : p.checked.now.need ≤ length p.table.slots
  pub most : length p.table.slots ≤ 8192
  pub nothing_out : (i : ℕ) → out run.stages i ≡ false
  pub issued : (i : ℕ) → Contains v.issued i ↔ (issued run.stages i ≡ true)
  pub ended : (i : ℕ) (x : End) → Contains v.ended (i, x) ↔ (stage_at run.stages i ≡ Ended x)
  pub times : (i t : ℕ) → Contains v.times (i, t) ↔ (time_at run.times i ≡ Some t)
  pub handles : (hs : List Handle) → Contains v.named hs → Begins hs handled
  pub all_handles : (handled ≡ []) ⊎ Contains v.named handled
  pub fates : (h : Handle) (f : Fate) → Knows (lists s) h f → answer p.table h ≡ Some (answer_of f)
