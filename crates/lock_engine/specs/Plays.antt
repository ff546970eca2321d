-- What each step of the turn lock tells, and how views are cut and joined.
use Rattle.std.specs.Prelude.{◌≡◌, ℕ, ◌+◌, ◌-◌, ◌==◌, MatchBool, true, false, [], ◌∷◌, Option, Some, None}
use Rattle.atomic_table.specs.Table.{Me}
use Rattle.graph_terms.specs.declared.format.Format.TheVariants.{One}
use Rattle.run_core.specs.Core.{CoreValue, unissued}
use Rattle.run_core.specs.Works.{KeepsWork}
use Rattle.lock_engine.specs.Turns.{Call, IsTurn, line_taken}
use Rattle.lock_engine.specs.Rule.{Slot}
use Rattle.lock_engine.specs.declared.view.View.{View}

abbrev pub Sat : Type 0
Sat = Me Slot View

-- a view that has the turn with the core c, and one that gave the turn back with the core c and has this line
abbrev pub with_turn : View → CoreValue → View
with_turn v c = record { parts = v.parts; has_turn = true; core = c; line = v.line }

abbrev pub with_line : View → CoreValue → Option ℕ → View
with_line v c taken = record { parts = v.parts; has_turn = false; core = c; line = taken }

-- TURN. The seat has the core, of the same graph, in which the work of its line is as it was
pub record HasCore (old new : Sat) : Type 0 where
  pub core : CoreValue
  pub now : new ≡ (with_turn old.0 core, (0, Some core) ∷ [])
  pub graph : core.graph ≡ old.0.core.graph
  pub works : (i : ℕ) → old.0.line ≡ Some i → KeepsWork old.0.core core i

-- or somebody else has the turn
abbrev pub turns : Sat → ℕ → Sat → Type 0
turns old found new = MatchBool (found == 0) (HasCore old new) (new ≡ old)

-- GIVE. The core in the seat's hand is at home. It is the one that the turn found after one call, and the seat has the line that this call took
pub record HasGiven (old new : Sat) : Type 0 where
  pub core : CoreValue
  pub call : Call
  pub had : old.1 ≡ (0, Some core) ∷ []
  pub turn : IsTurn old.0.core old.0.line call core
  pub now : new ≡ (with_line old.0 core (line_taken call), [])

-- CUTTING AND JOINING. A seat with no line, and with one part of another's
abbrev pub without_part : View → View
without_part v = record { parts = v.parts - 1; has_turn = v.has_turn; core = v.core; line = v.line }

abbrev pub one_part : View → View
one_part v = record { parts = 1; has_turn = false; core = v.core; line = None }

abbrev pub joined : View → View → View
joined v w = record { parts = v.parts + w.parts; has_turn = v.has_turn; core = v.core; line = v.line }

-- what is left of a seat that was joined to another
abbrev pub spent_view : View
spent_view = record { parts = 0; has_turn = false; core = unissued (record { format = One; decls = []; lines = [] }) 0; line = None }
