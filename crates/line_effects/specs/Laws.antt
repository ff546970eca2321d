-- What holds of the lines of a graph: their verbs, accesses and the columns that they move.
use Rattle.std.specs.Prelude.{◌≡◌, ℕ, Some, slice_get, Contains, ◌≤◌, length, ◌<◌}
use Rattle.graph_terms.specs.declared.verb.Line.{Line}
use Rattle.graph_terms.specs.Graph.{GraphValue, verb_at, columns}
use Rattle.graph_terms.specs.declared.verb.Access.{Access}
use Rattle.graph_terms.specs.Access.{accesses}
use Rattle.line_effects.specs.Moved.{moves}
use Rattle.graph_terms.specs.Fits.{IsGraph}
use Rattle.graph_meaning.specs.LineLaws.{AccessesFit}
use Rattle.graph_terms.specs.declared.outcome.Verdict.{Verdict}
use Rattle.graph_meaning.specs.Effect.{Cells, effect}
use Rattle.graph_meaning.specs.Evaluation.{made_by}

-- the verb at a place is that of the line there
abbrev pub VerbOfLine : Type 0
VerbOfLine = (g : GraphValue) (i : ℕ) (l : Line) → slice_get g.lines i ≡ Some l → verb_at g i ≡ Some l.verb

-- an access at a place is one of the line
abbrev pub AccessesAreListed : Type 0
AccessesAreListed = (g : GraphValue) (i k : ℕ) (a : Access) → slice_get (accesses g i) k ≡ Some a → Contains (accesses g i) a

-- a column that a line moves is that of the access at the same place
abbrev pub MovedByAccess : Type 0
MovedByAccess = (g : GraphValue) (i k c : ℕ) → slice_get (moves g i) k ≡ Some c → (a : Access) × (slice_get (accesses g i) k ≡ Some a) × (a.column ≡ c)

-- the column of each access is moved
abbrev pub AccessesAreMoved : Type 0
AccessesAreMoved = (g : GraphValue) (i : ℕ) (a : Access) → Contains (accesses g i) a → (k : ℕ) × (slice_get (moves g i) k ≡ Some a.column)

-- a line moves at most three columns
abbrev pub FewMoves : Type 0
FewMoves = (g : GraphValue) (i : ℕ) → length (moves g i) ≤ 3

-- a column that a line moves is one of the graph
abbrev pub MovedColumnsAreDeclared : Type 0
MovedColumnsAreDeclared = AccessesFit → (g : GraphValue) → IsGraph g → (i k c : ℕ) → slice_get (moves g i) k ≡ Some c → c < length (columns g)

-- by the verdict of its effect a line makes all the changes of the effect
abbrev pub VerdictMakesChanges : Type 0
VerdictMakesChanges = (g : GraphValue) (i : ℕ) (cells : Cells) (verdict : Verdict) → verdict ≡ (effect g i cells).verdict →
    made_by verdict (effect g i cells).changes ≡ (effect g i cells).changes
