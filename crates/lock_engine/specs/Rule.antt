-- The rule of the turn lock. Its one word is 0 where the turn is free and 1 where somebody has it, and its one slot has the core.
use Rattle.std.specs.Prelude.{◌≡◌, ℕ, ◌<◌, ◌⊎◌, true, false, List, [], ◌∷◌, Option, Some, None}
use mathlib.Core.Option.{some, none}
use lib.ListN.{get_elem?}
use Rattle.atomic_table.specs.Table.{State}
use Rattle.graph_terms.specs.Graph.{GraphValue}
use Rattle.basics.specs.Sums.{total}
use Rattle.run_core.specs.Core.{CoreValue, unissued}
use Rattle.run_core.specs.Works.{KeepsWork}
use Rattle.lock_engine.specs.Turns.{IsOut}
use Rattle.lock_engine.specs.declared.view.View.{View}

-- what the lock guards: a core, or nothing while somebody has it
abbrev pub Slot : Type 0
Slot = Option CoreValue

-- how many parts all seats have: one for each of eight workers, and one for the caller
abbrev pub all_parts : ℕ
all_parts = 9

abbrev pub parts_of : View → ℕ
parts_of v = v.parts

-- what holds of a view where the core is c: a seat with parts knows the graph, and its line is out, with its work as it was when the seat last had the core
pub record Fits (g : GraphValue) (c : CoreValue) (v : View) : Type 0 where
  pub graph : 0 < v.parts → v.core.graph ≡ g
  pub is_out : (i : ℕ) → v.line ≡ Some i → IsOut c i
  pub works : (i : ℕ) → v.line ≡ Some i → KeepsWork v.core c i
  pub idle : v.parts ≡ 0 → (v.line ≡ None) × (v.has_turn ≡ false)

-- the seats share out the lines of the core c that are out: each is some seat's, and none is two seats'
pub record Shares (g : GraphValue) (c : CoreValue) (views : List View) : Type 0 where
  pub graph : c.graph ≡ g
  pub unhosted : c.hosted ≡ false
  pub each : (a : ℕ) (v : View) → get_elem? views a ≡ some v → Fits g c v
  pub apart : (a b : ℕ) (v w : View) (i : ℕ) → get_elem? views a ≡ some v → get_elem? views b ≡ some w → v.line ≡ Some i → w.line ≡ Some i → a ≡ b
  pub all_out : (i : ℕ) → IsOut c i → (a : ℕ) × (v : View) × (get_elem? views a ≡ some v) × (v.line ≡ Some i)
  pub whole : total parts_of views ≡ all_parts

-- nobody has the turn, and the core is at home
pub record IsAtHome (c : CoreValue) (s : State Slot View) : Type 0 where
  pub words : s.words ≡ 0 ∷ []
  pub homes : s.homes ≡ some (Some c) ∷ []
  pub nobody : (a : ℕ) (v : View) → get_elem? s.views a ≡ some v → v.has_turn ≡ false

-- one seat has the turn, and found this core in the slot
pub record IsAway (c : CoreValue) (s : State Slot View) : Type 0 where
  pub words : s.words ≡ 1 ∷ []
  pub homes : s.homes ≡ none ∷ []
  pub who : ℕ
  pub one : (v : View) × (get_elem? s.views who ≡ some v) × (v.has_turn ≡ true)
  pub alone : (a : ℕ) (v : View) → get_elem? s.views a ≡ some v → v.has_turn ≡ true → (a ≡ who) × (v.core ≡ c)

abbrev pub Guards : GraphValue → State Slot View → Type 0
Guards g s = (c : CoreValue) × Shares g c s.views × (IsAtHome c s ⊎ IsAway c s)

-- the view of the first seat, which has all parts
abbrev pub first_view : GraphValue → View
first_view g = record { parts = 9; has_turn = false; core = unissued g 0; line = None }
