-- Sessions, their recorders, and what a seat tells of a recorded line.
use Rattle.std.specs.Prelude.{◌≡◌, ◌≢◌, List, map, Contains, Some, None}
use Rattle.event_table.specs.declared.handle.Handle.{Handle}
use Rattle.event_table.specs.declared.handle.Fate.{Fate}
use Rattle.shared_events.specs.declared.tokens.Seat.{Seat}
use Rattle.shared_events.specs.Seats.{HasSeen, Knows, no_event}
use Rattle.shared_events.specs.Views.{lists, IsAt, IsMakerOf, made_by, shape_of}
use Rattle.realm_session.specs.declared.line.Line.{Line}
use Rattle.realm_session.specs.declared.recorder.Recorder.{Recorder}
use Rattle.realm_session.specs.declared.session.Session.{Session}
use Rattle.realm_session.specs.Recorded.{RecordedGraphs, ends_for, handle_in, lines_in}

-- The seat tells of the event of a line
pub record Tells (seat : Seat) (x : Line) : Type 0 where
  pub seen : HasSeen (lists seat) x.handle
  -- it was left pending where the line waits
  pub left : ends_for x.end ≡ None → Contains (lists seat).left x.handle
  -- and else the seat knows how it ended
  pub known : (f : Fate) → ends_for x.end ≡ Some f → Knows (lists seat) x.handle f
  pub real : x.handle ≢ no_event

-- the handle is that of a line of which the seat tells
abbrev pub CanAsk : Seat → Handle → Type 0
CanAsk seat h = (x : Line) × Tells seat x × (x.handle ≡ h)

abbrev pub IsSeatOf : Session → Seat → Type 0
IsSeatOf s seat = IsAt s.events seat

-- what a Recorder has recorded
abbrev pub recorded_by : Recorder → RecordedGraphs
recorded_by r = record { slots = r.slots; graphs = r.graphs.items }

-- The Recorder is of the session, and has made the events of these lines, in order, and no others
pub record HasMade (s : Session) (r : Recorder) (lines : List Line) : Type 0 where
  pub maker : IsMakerOf s.events r.maker
  pub seat : IsSeatOf s r.seat
  pub slots : r.slots ≡ (shape_of s.events).slots
  pub made : made_by r.maker ≡ map handle_in lines
  pub tells : (x : Line) → Contains lines x → Tells r.seat x

-- The Recorder is of the session
abbrev pub IsRecorderOf : Session → Recorder → Type 0
IsRecorderOf s r = HasMade s r (lines_in (recorded_by r).graphs)
