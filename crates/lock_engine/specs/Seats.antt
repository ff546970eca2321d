-- Seats at the lock, between turns and in their turn.
use Rattle.std.specs.Prelude.{◌≡◌, ◌<◌, ⊤, true, false, List, [], ◌∷◌, length, Option, Some, None}
use Rattle.atomic_table.specs.Seated.{TableId}
use Rattle.atomic_table.specs.declared.shared.Seat.{Seat}
use Rattle.atomic_table.specs.declared.badge.Badge.{Badge}
use Rattle.graph_terms.specs.Graph.{GraphValue}
use Rattle.run_core.specs.Core.{IsCore}
use Rattle.run_core.specs.Works.{WorkValue, FinishedValue, IsWork, IsFinished}
use Rattle.run_parts.specs.declared.answers.Issue.{Issue as IssueAnswer}
use Rattle.run_parts.specs.declared.answers.Issue.TheVariants as issues
use Rattle.lock_engine.specs.Rule.{Slot}
use Rattle.lock_engine.specs.Plays.{spent_view}
use Rattle.lock_engine.specs.declared.view.View.{View}

-- the seat is one of the lock with this name, which has one word and one slot, and it has a part
pub record IsOf (z : TableId) (s : Seat Slot View) : Type 0 where
  pub table : s.table_id ≡ z
  pub words : z.words ≡ 1
  pub slots : z.slots ≡ 1
  pub parts : 0 < s.me.0.parts

-- between two turns, with empty hands
pub record IsWaiting (z : TableId) (s : Seat Slot View) : Type 0 where
  pub at : IsOf z s
  pub hand : s.me.1 ≡ []
  pub turn : s.me.0.has_turn ≡ false

-- the same with no line
pub record IsIdle (z : TableId) (s : Seat Slot View) : Type 0 where
  pub waiting : IsWaiting z s
  pub line : s.me.0.line ≡ None

-- after some turns it is between two turns again, with as many parts and the same graph
pub record KeepsPlace (z : TableId) (old new : Seat Slot View) : Type 0 where
  pub waiting : IsWaiting z new
  pub parts : new.me.0.parts ≡ old.me.0.parts
  pub graph : new.me.0.core.graph ≡ old.me.0.core.graph

-- in its turn, with the slot whose core was taken out
pub record IsServing (z : TableId) (s : Seat Slot View) : Type 0 where
  pub at : IsOf z s
  pub hand : s.me.1 ≡ (0, None) ∷ []
  pub turn : s.me.0.has_turn ≡ true

-- the line of the seat has this work in the core as the seat left it, or no line and no work is there
abbrev pub HasWork : View → Option WorkValue → Type 0
HasWork v None = v.line ≡ None
HasWork v (Some w) = (v.line ≡ Some w.line) × IsCore v.core × IsWork v.core w

-- the same once the work is done
abbrev pub HasDone : View → Option FinishedValue → Type 0
HasDone v None = v.line ≡ None
HasDone v (Some f) = (v.line ≡ Some f.line) × IsFinished v.core f

-- a line that was issued is one of this graph
abbrev pub IsIssuedOf : GraphValue → IssueAnswer → Type 0
IsIssuedOf g (issues.Issued i) = i < length g.lines
IsIssuedOf g _ = ⊤

-- A seat that rests holds no slot, and its type does not name what the slots hold
abbrev pub first_of : List View → View
first_of [] = spent_view
first_of (v ∷ vs) = v

abbrev pub view_of : Badge View → View
view_of b = first_of b.views

pub record IsResting (z : TableId) (b : Badge View) : Type 0 where
  pub table : b.table_id ≡ z
  pub words : z.words ≡ 1
  pub slots : z.slots ≡ 1
  pub views : b.views ≡ view_of b ∷ []
  pub parts : 0 < (view_of b).parts
  pub turn : (view_of b).has_turn ≡ false
