-- What holds of all graphs whose items fit.
use Rattle.std.specs.Prelude.{◌≡◌, ◌≢◌, ℕ, ◌<◌, ◌==◌, ◌⊎◌, ◌↔◌, Bool, true, false, ◌||◌, List, length, AllPairs, Contains, IsTrue, ◌++◌, [], ◌∷◌, Some, slice_get}
use Rattle.index_spaces.specs.Space.{has_point, points}
use Rattle.graph_terms.specs.declared.outcome.End.TheVariants.{Cancelled, Waiting}
use Rattle.graph_terms.specs.declared.verb.Access.{Access}
use Rattle.graph_terms.specs.declared.verb.Edge.{Edge}
use Rattle.graph_terms.specs.declared.verb.Line.{Line}
use Rattle.graph_terms.specs.declared.verb.Verb.TheVariants.{Merge}
use Rattle.graph_terms.specs.declared.verb.Mode.{Mode}
use Rattle.graph_terms.specs.declared.verb.Mode.TheVariants.{Read, Write, Sum, Least, Most}
use Rattle.graph_terms.specs.declared.format.Format.{Format}
use Rattle.graph_terms.specs.Format.{has_since}
use Rattle.graph_terms.specs.Graph.{GraphValue, written_in, upgraded, never_comes, space_at, line_passes, is_phase}
use Rattle.graph_terms.specs.Edges.{edges}
use Rattle.graph_meaning.specs.Path.{HasPath, Reached, Path}
use Rattle.graph_terms.specs.Access.{accesses, all_accesses, is_reduction, AccessesConflict, Conflict}
use Rattle.graph_meaning.specs.Rules.{NoCycleAt, Everywhere, Accepted, modes_commute, Exempt}
use Rattle.graph_meaning.specs.Effect as change
use Rattle.graph_meaning.specs.Effect.{Cells, zero_cells, Change, Add, CellChange, cells_after, Effects, effect, Untouched}
use Rattle.graph_meaning.specs.Evaluation.{Step, outcome, is_ended, is_cancelled, step_by, evaluation_with, order_with, order, end_with, eval_end, changes_with, eval_changes, cells_with, cells_by_with, cells_of_lines_with, UnbrokenBy, Unbroken, steps_after, has_ended, evaluation, end_in, step_of, lowest_ready, is_ready}
use Rattle.graph_terms.specs.Fits.{IsGraph}
use Rattle.graph_meaning.specs.Need.{IsNeed}
use Rattle.graph_meaning.specs.Trace.{ListsEndedBy, ListsEnded, IsLawful, SectionsApart}
use Rattle.graph_meaning.specs.Turns.{ReadyOrNever, HaveTurns, EndsByTurn, StepsEnd, EndsInOrder, EdgesInRange, Ready, IsReadyLine}

-- one path after another is a path
abbrev pub PathsCompose : Type 0
PathsCompose = (g : GraphValue) (i k j : ℕ) → HasPath g i k → HasPath g k j → HasPath g i j

-- the edges of a graph are between its lines
abbrev pub EdgesBetweenLines : Type 0
EdgesBetweenLines = (g : GraphValue) (e : Edge) → IsGraph g → Contains (edges g) e → (e.from < length g.lines) × (e.to < length g.lines)

-- a line that has not ended, may come, and whose sources have ended
pub record IsReady (g : GraphValue) (ended : ℕ → Bool) (k : ℕ) : Type 0 where
  pub below : k < length g.lines
  pub left : ended k ≡ false
  pub comes : never_comes g k ≡ false
  pub sources : (e : Edge) → Contains (edges g) e → e.to ≡ k → ended e.from ≡ true

-- without a cycle a line that has not ended, and that no line that never comes reaches, is ready or has a path from one that is ready
abbrev pub ReadyWhereUnreached : Type 0
ReadyWhereUnreached = (g : GraphValue) (ended : ℕ → Bool) (i : ℕ) → IsGraph g → Everywhere (NoCycleAt g) → i < length g.lines → ended i ≡ false → (Reached g i → ⊥) →
    (k : ℕ) × IsReady g ended k × ((k ≡ i) ⊎ HasPath g k i)

-- without a cycle a line waits in the evaluation exactly where one that never comes reaches it
abbrev pub WaitsWhereReached : Type 0
WaitsWhereReached = (g : GraphValue) (i : ℕ) → IsGraph g → Everywhere (NoCycleAt g) → i < length g.lines → (eval_end g i ≡ Waiting) ↔ Reached g i

-- the same, whatever the lines do to the cells and whatever these are first
abbrev pub WaitsWhereReachedWith : Type 0
WaitsWhereReachedWith = (does : Effects) (first : Cells) (g : GraphValue) (i : ℕ) →
    IsGraph g → Everywhere (NoCycleAt g) → i < length g.lines →
    (end_with does first g i ≡ Waiting) ↔ Reached g i

-- a line is cancelled exactly where an unbroken path from a fault reaches it
abbrev pub CancelledWhereUnbroken : Type 0
CancelledWhereUnbroken = (g : GraphValue) (i : ℕ) → (eval_end g i ≡ Cancelled) ↔ Unbroken g i

-- the same, whatever the lines do to the cells and whatever these are first
abbrev pub CancelledWhereUnbrokenWith : Type 0
CancelledWhereUnbrokenWith = (does : Effects) (first : Cells) (g : GraphValue) (i : ℕ) →
    (end_with does first g i ≡ Cancelled) ↔ UnbrokenBy g (end_with does first g) i

-- no two changes of a line are of one cell
abbrev pub ChangesNameEachCellOnce : Type 0
ChangesNameEachCellOnce = (g : GraphValue) (i : ℕ) (cells : Cells) → IsGraph g → AllPairs (λ (x y : CellChange). x.column ≡ y.column → x.point ≢ y.point) (effect g i cells).changes

-- the order of the evaluation lists the lines that end, each once and after its sources
abbrev pub OrderListsEnded : Type 0
OrderListsEnded = (g : GraphValue) → ListsEnded g (order g)

-- the same, whatever the lines do to the cells and whatever these are first
abbrev pub OrderListsEndedWith : Type 0
OrderListsEndedWith = (does : Effects) (first : Cells) (g : GraphValue) → ListsEndedBy g (end_with does first g) (order_with does first g)

-- a change that an access of this mode may make
abbrev pub FitsMode : Mode → Change → Type 0
FitsMode Read c = ⊥
FitsMode Write c = Unit {0}
FitsMode Sum (Add v) = Unit {0}
FitsMode Least (change.Least v) = Unit {0}
FitsMode Most (change.Most v) = Unit {0}
FitsMode m c = ⊥

-- a change within an access of a list
pub record IsWithinAccess (space : ℕ → List (ℕ × ℕ)) (accesses : List Access) (x : CellChange) : Type 0 where
  pub access : Access
  pub listed : Contains accesses access
  pub column : access.column ≡ x.column
  pub point : has_point (space access.space) x.point ≡ true
  pub mode : FitsMode access.mode x.change

-- each change of a line lies within one of its accesses, and is of its mode
abbrev pub ChangesWithinAccesses : Type 0
ChangesWithinAccesses = (g : GraphValue) (i : ℕ) (cells : Cells) (x : CellChange) → Contains (effect g i cells).changes x → IsWithinAccess (space_at g) (accesses g i) x

-- line i is ready after some lines have ended, in any order. On each column the changes of some lines were put back: of all that ended
-- and change it, and of none whose sources have not ended.
pub record IsReadyAmongWith (does : Effects) (first : Cells) (g : GraphValue) (i : ℕ) (ended : ℕ → Bool) (put : ℕ → ℕ → Bool)
    : Type 0 where
  pub closed : (e : Edge) → Contains (edges g) e → ended e.to ≡ true → ended e.from ≡ true
  pub ready : (e : Edge) → Contains (edges g) e → e.to ≡ i → ended e.from ≡ true
  pub left : ended i ≡ false
  pub out : (c : ℕ) → put c i ≡ false
  pub put_ready : (c k : ℕ) → put c k ≡ true → (e : Edge) → Contains (edges g) e → e.to ≡ k → ended e.from ≡ true
  pub kept : (k : ℕ) (x : CellChange) → ended k ≡ true → Contains (changes_with does first g k) x → put x.column k ≡ true

-- the same with the effects of the graph's verbs, from cells of 0
abbrev pub IsReadyAmong : GraphValue → ℕ → (ℕ → Bool) → (ℕ → ℕ → Bool) → Type 0
IsReadyAmong g i ended put = IsReadyAmongWith (effect g) zero_cells g i ended put

-- the cells of each column are those of the lines put back on it, in the order of the evaluation
abbrev pub cells_put_with : Effects → Cells → GraphValue → (ℕ → ℕ → Bool) → Cells
cells_put_with does first g put column point = cells_of_lines_with does first g (put column) column point

-- the same with the effects of the graph's verbs, from cells of 0
abbrev pub cells_put : GraphValue → (ℕ → ℕ → Bool) → Cells
cells_put g put = cells_put_with (effect g) zero_cells g put

-- two states of the cells are the same where line i reads or writes cells that the library keeps, other than by reductions
abbrev pub AgreeWhereUsed : GraphValue → ℕ → Cells → Cells → Type 0
AgreeWhereUsed g i cells others = (a : Access) → Contains (accesses g i) a → is_reduction a.mode ≡ false → (p : ℕ) → IsTrue (has_point (space_at g a.space) p) → cells a.column p ≡ others a.column p

-- the same of cells of data too
abbrev pub AgreeWhereAccessed : GraphValue → ℕ → Cells → Cells → Type 0
AgreeWhereAccessed g i cells others = (a : Access) → Contains (all_accesses g i) a → is_reduction a.mode ≡ false → (p : ℕ) → IsTrue (has_point (space_at g a.space) p) → cells a.column p ≡ others a.column p

-- effects that keep to the accesses of a graph's lines: each change of a line lies within one of its accesses and is of its mode,
-- and what a line does rests on no cells but those that it reads, or writes other than by reductions
pub record KeepsToAccesses (g : GraphValue) (does : Effects) : Type 0 where
  pub within : (i : ℕ) (cells : Cells) (x : CellChange) → Contains (does i cells).changes x → IsWithinAccess (space_at g) (all_accesses g i) x
  pub agrees : (i : ℕ) (cells others : Cells) → AgreeWhereAccessed g i cells others → does i cells ≡ does i others

-- the effects of a graph's verbs keep to its accesses
abbrev pub VerbsKeepToAccesses : Type 0
VerbsKeepToAccesses = (g : GraphValue) → KeepsToAccesses g (effect g)

-- what line i does on these cells, cancelled where its sources' ends cancel it in the evaluation
abbrev pub step_on_with : Effects → Cells → GraphValue → ℕ → Cells → Step
step_on_with does first g i cells = step_by i (is_cancelled g (evaluation_with does first g) i) (does i cells)

-- the same with the effects of the graph's verbs, from cells of 0
abbrev pub step_on : GraphValue → ℕ → Cells → Step
step_on g i cells = step_on_with (effect g) zero_cells g i cells

-- the lines put back, and line i too
abbrev pub put_with : ℕ → (ℕ → ℕ → Bool) → ℕ → ℕ → Bool
put_with i put column k = (k == i) || put column k

-- a line ends and changes the cells as in the evaluation
pub record DoesAsEvaluatedWith (does : Effects) (first : Cells) (g : GraphValue) (i : ℕ) (cells : Cells) : Type 0 where
  pub ends : (step_on_with does first g i cells).ends ≡ end_with does first g i
  pub changes : (step_on_with does first g i cells).changes ≡ changes_with does first g i

-- the same with the effects of the graph's verbs, from cells of 0
abbrev pub DoesAsEvaluated : GraphValue → ℕ → Cells → Type 0
DoesAsEvaluated g i cells = DoesAsEvaluatedWith (effect g) zero_cells g i cells

-- in an accepted graph a line does as in the evaluation, whatever ready lines came before it, and its changes put back give the cells in the order of the evaluation
abbrev pub OrderIrrelevant : Type 0
OrderIrrelevant = (g : GraphValue) (i : ℕ) (ended : ℕ → Bool) (put : ℕ → ℕ → Bool) → IsGraph g → Accepted g → IsTrue (is_ended (eval_end g i)) → IsReadyAmong g i ended put →
    ((cells : Cells) → AgreeWhereUsed g i cells (cells_put g put) → DoesAsEvaluated g i cells)
    × ((c p : ℕ) → cells_after (cells_put g put) (eval_changes g i) c p ≡ cells_put g (put_with i put) c p)

-- the same of any effects that keep to their accesses, from any first cells
abbrev pub OrderIrrelevantWith : Type 0
OrderIrrelevantWith = (does : Effects) (first : Cells) (g : GraphValue) (i : ℕ) (ended : ℕ → Bool) (put : ℕ → ℕ → Bool) →
    Accepted g → KeepsToAccesses g does →
    IsTrue (is_ended (end_with does first g i)) → IsReadyAmongWith does first g i ended put →
    ((cells : Cells) → AgreeWhereAccessed g i cells (cells_put_with does first g put) → DoesAsEvaluatedWith does first g i cells)
    × ((c p : ℕ) → cells_after (cells_put_with does first g put) (changes_with does first g i) c p
    ≡ cells_put_with does first g (put_with i put) c p)

-- a graph has one need
abbrev pub OneNeed : Type 0
OneNeed = (g : GraphValue) (n m : ℕ) → IsNeed g n → IsNeed g m → n ≡ m

-- in a lawful trace of an accepted graph the sections of one reservation never overlap
abbrev pub SectionsNeverOverlap : Type 0
SectionsNeverOverlap = (g : GraphValue) (trace : List ℕ) → IsGraph g → Accepted g → IsLawful g trace → SectionsApart g trace

-- where a graph is accepted, another is too, with the same need and the same outcome
abbrev pub KeepsMeaning : GraphValue → GraphValue → Type 0
KeepsMeaning g h = (Accepted g → Accepted h) × ((n : ℕ) → IsNeed g n → IsNeed h n) × ((trace : List ℕ) → outcome h trace ≡ outcome g trace)

-- the same graph in a later format, or in its own, keeps its meaning
abbrev pub LaterFormatsKeepMeaning : Type 0
LaterFormatsKeepMeaning = (f : Format) (g : GraphValue) → has_since g.format f ≡ true → KeepsMeaning g (written_in f g)

-- so the graph that an upgrade writes does
abbrev pub UpgradeKeepsMeaning : Type 0
UpgradeKeepsMeaning = (g : GraphValue) → KeepsMeaning g (upgraded g)

-- a graph with other lines, and a line with other events behind `on`
abbrev pub with_lines : GraphValue → List Line → GraphValue
with_lines g ls = record { format = g.format; decls = g.decls; lines = ls }

abbrev pub waiting_for : List ℕ → Line → Line
waiting_for events l = record { name = l.name; verb = l.verb; «on» = events }

-- the evaluation is the same where a line waits for a merge, given above it, of the events behind its `on`
abbrev pub OnIsAsAMerge : Type 0
OnIsAsAMerge = (g : GraphValue) (before after : List Line) (l merge : Line) (m : ℕ) →
    IsGraph (with_lines g (before ++ l ∷ after)) → slice_get before m ≡ Some merge → merge.verb ≡ Merge l.on → merge.on ≡ [] →
    evaluation (with_lines g (before ++ waiting_for (m ∷ []) l ∷ after)) ≡ evaluation (with_lines g (before ++ l ∷ after))

-- without cycles each line that has not ended has a ready line before it, or one that never comes
abbrev pub ReadyOrNeverBefore : Type 0
ReadyOrNeverBefore = (es : List Edge) (n : ℕ) (never ended : ℕ → Bool) (in_range : (e : Edge) → Contains es e → e.from < n) (acyclic : (i : ℕ) → Path es i i → ⊥) →
    (i : ℕ) → i < n → ended i ≡ false → ReadyOrNever es n never ended i

-- a cell after changes rests on that cell alone
abbrev pub CellRestsOnItself : Type 0
CellRestsOnItself = (cells others : Cells) (xs : List CellChange) (c p : ℕ) → cells c p ≡ others c p → cells_after cells xs c p ≡ cells_after others xs c p

-- the cells after changes and others are those after the others, from those after the first
abbrev pub CellsAfterBoth : Type 0
CellsAfterBoth = (cells : Cells) (xs ys : List CellChange) → cells_after cells (xs ++ ys) ≡ cells_after (cells_after cells xs) ys

-- a cell that no change touches stays
abbrev pub UntouchedCellStays : Type 0
UntouchedCellStays = (cells : Cells) (xs : List CellChange) (c p : ℕ) → Untouched c p xs → cells_after cells xs c p ≡ cells c p

-- a point that is listed lies in the space
abbrev pub ListedPointsLieWithin : Type 0
ListedPointsLieWithin = (s : List (ℕ × ℕ)) (p : ℕ) → Contains (points s) p → has_point s p ≡ true

-- one path after another is a path
abbrev pub PathsAppend : List Edge → ℕ → ℕ → ℕ → Type 0
PathsAppend all i k j = Path all i k → Path all k j → Path all i j

-- a path and an edge behind it are a path
abbrev pub PathAndEdge : List Edge → ℕ → Type 0
PathAndEdge all i = (e : Edge) → Contains all e → Path all i e.from → Path all i e.to

-- what passes along each edge passes along a path
abbrev pub PassesAlongPaths : List Edge → (ℕ → Type 0) → ℕ → ℕ → Type 0
PassesAlongPaths all P i j = ((e : Edge) → Contains all e → P e.from → P e.to) → Path all i j → P i → P j

-- what passes back along each edge passes back along a path
abbrev pub PassesBackAlongPaths : List Edge → (ℕ → Type 0) → ℕ → ℕ → Type 0
PassesBackAlongPaths all P i j = ((e : Edge) → Contains all e → P e.to → P e.from) → Path all i j → P j → P i

-- a line that never comes, and to which a path leads, is a phase
abbrev pub ReachedNeverIsPhase : Type 0
ReachedNeverIsPhase = (g : GraphValue) → IsGraph g → (q j : ℕ) → HasPath g q j → never_comes g j ≡ true → line_passes is_phase g j ≡ true

-- both ends of a path are below what the ends of each edge are below
abbrev pub PathsStayBelow : List Edge → ℕ → ℕ → ℕ → Type 0
PathsStayBelow es n i j = ((e : Edge) → Contains es e → (e.from < n) × (e.to < n)) → Path es i j → (i < n) × (j < n)

-- accesses conflict either way
abbrev pub AccessesConflictBack : Type 0
AccessesConflictBack = (g : GraphValue) (a b : Access) → AccessesConflict g a b → AccessesConflict g b a

-- modes commute either way
abbrev pub ModesCommuteBack : Type 0
ModesCommuteBack = (a b : Mode) → modes_commute a b ≡ modes_commute b a

-- lines conflict either way
abbrev pub LinesConflictBack : Type 0
LinesConflictBack = (g : GraphValue) (i j : ℕ) → Conflict g i j → Conflict g j i

-- lines are exempt either way
abbrev pub ExemptBack : Type 0
ExemptBack = (g : GraphValue) (i j : ℕ) → Exempt g i j → Exempt g j i

-- modes that commute are one mode, and it reduces
abbrev pub CommutingModes : Type 0
CommutingModes = (m n : Mode) → modes_commute m n ≡ true → (is_reduction m ≡ true) × (m ≡ n)

-- lines of an accepted graph that conflict have a path between them, or are exempt
abbrev pub ConflictHasPathOrExempt : Type 0
ConflictHasPathOrExempt = (g : GraphValue) → Accepted g → (i j : ℕ) → Conflict g i j → HasPath g i j ⊎ (HasPath g j i ⊎ Exempt g i j)

-- where the sources of each ended line have ended, and those of a line, each line with a path to it has ended
abbrev pub BeforeEndedHasEnded : Type 0
BeforeEndedHasEnded = (all : List Edge) (ended : ℕ → Bool) → ((e : Edge) → Contains all e → ended e.to ≡ true → ended e.from ≡ true) → (i j : ℕ) →
    ((e : Edge) → Contains all e → e.to ≡ j → ended e.from ≡ true) → Path all i j → ended i ≡ true

-- each step of the evaluation is the turn of its line
abbrev pub StepsHaveTurns : Type 0
StepsHaveTurns = (g : GraphValue) (n : ℕ) → HaveTurns (effect g) zero_cells g (steps_after g n)

-- a line that has ended did so by its turn
abbrev pub EndsByItsTurn : Type 0
EndsByItsTurn = (g : GraphValue) (i : ℕ) → has_ended (evaluation g) i ≡ true → EndsByTurn (effect g) zero_cells g i

-- a later step changes no end that stands
abbrev pub LaterStepKeepsEnd : Type 0
LaterStepKeepsEnd = (ss : List Step) (s : Step) (i : ℕ) → has_ended ss i ≡ true → end_in (ss ++ s ∷ []) i ≡ end_in ss i

-- the last step gives the end of its line, where that had not ended
abbrev pub LastStepGivesEnd : Type 0
LastStepGivesEnd = (ss : List Step) (s : Step) (i : ℕ) → s.line ≡ i → has_ended ss i ≡ false → end_in (ss ++ s ∷ []) i ≡ s.ends

-- where each step ends its line, a line that has ended has an end
abbrev pub EndedByStep : Type 0
EndedByStep = (ss : List Step) (i : ℕ) → StepsEnd ss → has_ended ss i ≡ true → is_ended (end_in ss i) ≡ true

-- each step of the evaluation ends its line
abbrev pub StepsEndLines : Type 0
StepsEndLines = (g : GraphValue) (n : ℕ) → StepsEnd (steps_after g n)

-- the step of a line is of that line
abbrev pub StepOfLine : Type 0
StepOfLine = (g : GraphValue) (ss : List Step) (i : ℕ) → (step_of g ss i).line ≡ i

-- the step of a line ends it
abbrev pub StepEndsLine : Type 0
StepEndsLine = (g : GraphValue) (ss : List Step) (i : ℕ) → is_ended (step_of g ss i).ends ≡ true

-- a line that has not ended waits
abbrev pub WaitsWhereLeft : Type 0
WaitsWhereLeft = (ss : List Step) (i : ℕ) → has_ended ss i ≡ false → end_in ss i ≡ Waiting

-- the evaluation ends each line after its sources
abbrev pub EvaluationInOrder : Type 0
EvaluationInOrder = (g : GraphValue) → EndsInOrder g (evaluation g)

-- a line that one that never comes reaches waits in the evaluation
abbrev pub ReachedWaits : Type 0
ReachedWaits = (g : GraphValue) (i : ℕ) → Reached g i → eval_end g i ≡ Waiting

-- without a cycle a line that has not ended is reached by one that never comes
abbrev pub LeftIsReached : Type 0
LeftIsReached = (g : GraphValue) → EdgesInRange g → Everywhere (NoCycleAt g) → (i : ℕ) → i < length g.lines → has_ended (evaluation g) i ≡ false → Reached g i

-- the lowest ready line is ready
abbrev pub LowestReadyIsReady : Type 0
LowestReadyIsReady = (g : GraphValue) (ss : List Step) (i : ℕ) → lowest_ready g ss ≡ Some i → Ready g ss i

-- a line that has ended has ended after a step more
abbrev pub EndedStaysEnded : Type 0
EndedStaysEnded = (ss : List Step) (s : Step) (k : ℕ) → has_ended ss k ≡ true → has_ended (ss ++ s ∷ []) k ≡ true

-- the line of the last step has ended
abbrev pub LastStepEnds : Type 0
LastStepEnds = (ss : List Step) (s : Step) → has_ended (ss ++ s ∷ []) s.line ≡ true

-- a line that has ended has done so before the last step or by it
abbrev pub EndedBeforeOrByLast : Type 0
EndedBeforeOrByLast = (ss : List Step) (s : Step) (k : ℕ) → has_ended (ss ++ s ∷ []) k ≡ true → (has_ended ss k ≡ true) ⊎ (s.line ≡ k)

-- a line that is ready passes as one
abbrev pub ReadyLinesPass : Type 0
ReadyLinesPass = (g : GraphValue) (ss : List Step) (k : ℕ) → IsReadyLine (edges g) (length g.lines) (never_comes g) (has_ended ss) k → is_ready g ss k ≡ true

-- a line that ends in an evaluation is a line of the graph
abbrev pub EndedLinesStand : Type 0
EndedLinesStand = (does : Effects) (first : Cells) (g : GraphValue) (k : ℕ) → is_ended (end_with does first g k) ≡ true → k < length g.lines

-- the cells of an evaluation are those after its lines, each with its changes
abbrev pub CellsByAllLines : Type 0
CellsByAllLines = (does : Effects) (first : Cells) (g : GraphValue) → cells_with first (evaluation_with does first g) ≡ cells_by_with does first g (order_with does first g)
