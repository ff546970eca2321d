-- What a session has recorded.
use Rattle.std.specs.Prelude.{◌≡◌, ◌≢◌, ℕ, ◌+◌, ◌<◌, ◌≤◌, List, [], ◌∷◌, ◌++◌, length, map, slice_get, slice_index_or, Contains, Option, Some, None}
use Rattle.basics.specs.Sums.{total}
use Rattle.event_table.specs.declared.handle.Handle.{Handle}
use Rattle.event_table.specs.declared.handle.Answer.{Answer}
use Rattle.event_table.specs.declared.handle.Answer.TheVariants.{Pending, Triggered, Poisoned}
use Rattle.event_table.specs.declared.handle.Fate.{Fate}
use Rattle.event_table.specs.declared.handle.Fate.TheVariants.{Ok, Poison}
use Rattle.event_table.specs.declared.limits.TheConstants.{MAX_SLOTS}
use Rattle.graph_terms.specs.declared.outcome.End.{End}
use Rattle.graph_terms.specs.declared.outcome.End.TheVariants.{Done, Faulted, Cancelled, Waiting}
use Rattle.realm_session.specs.declared.limits.TheConstants.{MAX_RECORDED}
use Rattle.realm_session.specs.declared.line.Line.{Line}

-- what is answered for the event of a line that ended so
abbrev pub answer_for : End → Answer
answer_for Done = Triggered
answer_for Faulted = Poisoned
answer_for Cancelled = Poisoned
answer_for Waiting = Pending

-- how the event of such a line ends: not at all where the line waits
abbrev pub ends_for : End → Option Fate
ends_for Done = Some Ok
ends_for Faulted = Some Poison
ends_for Cancelled = Some Poison
ends_for Waiting = None

-- 1 for a line that waits
abbrev pub waits : End → ℕ
waits Done = 0
waits Faulted = 0
waits Cancelled = 0
waits Waiting = 1

abbrev pub handle_in : Line → Handle
handle_in x = x.handle

abbrev pub end_in : Line → End
end_in x = x.end

-- The slots of a session, and the lines of each graph that was recorded, in order
pub record RecordedGraphs : Type 0 where
  pub slots : ℕ
  pub graphs : List (List Line)

-- the lines of all graphs, in order
abbrev pub lines_in : List (List Line) → List Line
lines_in [] = []
lines_in (g ∷ gs) = g ++ lines_in gs

abbrev pub waiting_in : List Line → ℕ
waiting_in xs = total (λ (x : Line). waits x.end) xs

-- the slots that are needed: one, and one for each line that waits
abbrev pub need : List (List Line) → ℕ
need gs = 1 + waiting_in (lines_in gs)

-- the same once the lines with these ends are recorded too
abbrev pub need_with : List (List Line) → List End → ℕ
need_with gs ends = need gs + total waits ends

-- the lines of the graph g: none where g was not recorded
abbrev pub graph_at : RecordedGraphs → ℕ → List Line
graph_at r g = slice_index_or r.graphs g []

-- x is the line l of the graph g
abbrev pub IsLine : RecordedGraphs → ℕ → ℕ → Line → Type 0
IsLine r g l x = slice_get (graph_at r g) l ≡ Some x

-- x was recorded
abbrev pub IsRecorded : RecordedGraphs → Line → Type 0
IsRecorded r x = Contains (lines_in r.graphs) x

-- no two of the lines have one handle
abbrev pub AreApart : List Line → Type 0
AreApart xs = (i j : ℕ) (x y : Line) → slice_get xs i ≡ Some x → slice_get xs j ≡ Some y → x.handle ≡ y.handle → i ≡ j

-- new lines, whose slots are the session's, with handles of their own
pub record AreNew (slots : ℕ) (old new : List Line) : Type 0 where
  pub within : (x : Line) → Contains new x → x.handle.slot < slots
  pub apart : AreApart new
  pub other : (x y : Line) → Contains new x → Contains old y → x.handle ≢ y.handle

-- What holds of each record
pub record IsRecord (r : RecordedGraphs) : Type 0 where
  pub few : length (lines_in r.graphs) ≤ MAX_RECORDED
  pub slots : r.slots ≤ MAX_SLOTS
  pub room : need r.graphs ≤ r.slots
  -- the slot of each handle is one of the session's
  pub within : (x : Line) → IsRecorded r x → x.handle.slot < r.slots
  -- and two lines have different handles
  pub apart : (g l g' l' : ℕ) (x y : Line) → IsLine r g l x → IsLine r g' l' y → x.handle ≡ y.handle → (g ≡ g') × (l ≡ l')

-- one graph more was recorded, whose lines ended so
pub record Adds (r after : RecordedGraphs) (ends : List End) : Type 0 where
  pub lines : List Line
  pub added : after.graphs ≡ r.graphs ++ lines ∷ []
  pub ended : map end_in lines ≡ ends
  pub slots : after.slots ≡ r.slots
