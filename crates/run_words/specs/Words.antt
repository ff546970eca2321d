-- Seats at their words.
use Rattle.std.specs.Prelude.{◌≡◌, ◌≢◌, ℕ, Bool, List, [], ◌∷◌, ◌++◌, Contains}
use Rattle.atomic_table.specs.declared.shared.Seat as table
use Rattle.graph_terms.specs.Graph.{GraphValue}
use Rattle.shared_events.specs.declared.events.Events.{Events}
use Rattle.event_table.specs.declared.handle.Handle.{Handle}
use Rattle.word_steps.specs.declared.content.Content.{Content}
use Rattle.word_steps.specs.declared.view.View.{View}
use Rattle.run_words.specs.declared.words.Words.{Words}
use Rattle.run_words.specs.declared.seats.WordSeat.{WordSeat}
use Rattle.shared_events.specs.declared.tokens.Seat.{Seat}
use Rattle.shared_events.specs.Views as events
use Rattle.graph_terms.specs.declared.outcome.End.{End}
use Rattle.word_steps.specs.Table as steps

-- the graph of these words
abbrev pub graph_of : Words → GraphValue
graph_of w = steps.graph_of w.table

-- the events of its lines
abbrev pub events_of : Words → Events
events_of w = steps.events_of w.table

-- the seat is one of these words
abbrev pub IsSeatOf : Words → table.Seat Content View → Type 0
IsSeatOf w s = steps.IsSeatOf w.table s

-- the seat of a thread is one of these words
abbrev pub IsAt : Words → WordSeat → Type 0
IsAt w s = IsSeatOf w s.inner × events.IsAt (events_of w) s.events

-- the seat knows that line i is issued
pub record KnowsIssued (s : WordSeat) (i : ℕ) : Type 0 where
  pub known : Contains s.inner.me.0.issued i

-- the seat knows that line i has ended with x
pub record KnowsEnded (s : WordSeat) (i : ℕ) (x : End) : Type 0 where
  pub known : Contains s.inner.me.0.ended (i, x)

-- the seat knows that t is the time of line i, which it closed, or a seat that was joined into it
pub record KnowsTime (s : WordSeat) (i t : ℕ) : Type 0 where
  pub known : Contains s.inner.me.0.times (i, t)

-- its number with those of the seats joined into it
abbrev pub numbers_of : WordSeat → List ℕ
numbers_of s = s.inner.me.0.mine

-- the numbers of the seats that were split off it, and off those joined into it
abbrev pub splits_of : WordSeat → List ℕ
splits_of s = s.inner.me.0.splits

-- each word that it loaded, or took a column by, with what it held
abbrev pub saw_of : WordSeat → List (ℕ × ℕ)
saw_of s = s.inner.me.0.saw

-- the lines whose claims it gave up
abbrev pub gave_up_of : WordSeat → List ℕ
gave_up_of s = s.inner.me.0.gave_up

-- those that it closed
abbrev pub closed_of : WordSeat → List ℕ
closed_of s = s.inner.me.0.closed

-- the lines of which it let the reservation go, where they had done nothing
abbrev pub let_go_of : WordSeat → List ℕ
let_go_of s = s.inner.me.0.let_go

-- the lists with which it knows the handles of the lines to begin
abbrev pub named_of : WordSeat → List (List Handle)
named_of s = s.inner.me.0.named

-- whether its last try that was answered NotYet placed the line's waiter
abbrev pub has_placed_of : WordSeat → Bool
has_placed_of s = s.has_placed

-- its seat at the events
abbrev pub events_seat : WordSeat → Seat
events_seat s = s.events

-- every seat split off was joined
pub record HasAll (s : WordSeat) : Type 0 where
  pub first : Contains (numbers_of s) 0
  pub each : (n : ℕ) → Contains (splits_of s) n → Contains (numbers_of s) n

-- in between, the seat found r in the word w
abbrev pub Found : WordSeat → WordSeat → ℕ → ℕ → Type 0
Found s t w r = (found : List (ℕ × ℕ)) × (saw_of t ≡ saw_of s ++ found) × Contains found (w, r)

-- in between, the seat found that the word was not 0
abbrev pub FoundTaken : WordSeat → WordSeat → ℕ → Type 0
FoundTaken s t w = (r : ℕ) × (r ≢ 0) × (saw_of t ≡ saw_of s ++ (w, r) ∷ [])

-- it knows that the handles of the lines begin with these
pub record KnowsHandles (s : WordSeat) (handles : List Handle) : Type 0 where
  pub known : Contains s.inner.me.0.named handles

-- a seat at the events of these words
abbrev pub IsEventSeat : Words → Seat → Type 0
IsEventSeat w s = events.IsAt (events_of w) s
