-- The laws that the proofs of other crates cite, as specs/ states them.
use Rattle.graph_meaning.specs.Laws.{ReadyOrNeverBefore, CellRestsOnItself, CellsAfterBoth, UntouchedCellStays, ListedPointsLieWithin, PathsAppend, PathAndEdge, PassesAlongPaths, PassesBackAlongPaths, ReachedNeverIsPhase, PathsStayBelow, AccessesConflictBack, ModesCommuteBack, LinesConflictBack, ExemptBack, CommutingModes, ConflictHasPathOrExempt, BeforeEndedHasEnded, StepsHaveTurns, EndsByItsTurn, LaterStepKeepsEnd, LastStepGivesEnd, EndedByStep, StepsEndLines, StepOfLine, StepEndsLine, WaitsWhereLeft, EvaluationInOrder, ReachedWaits, LeftIsReached, LowestReadyIsReady, EndedStaysEnded, LastStepEnds, EndedBeforeOrByLast, ReadyLinesPass, EndedLinesStand, CellsByAllLines}
use Rattle.graph_meaning.proofs.ReadyLine as ready_line
use Rattle.graph_meaning.proofs.Changes as changes
use Rattle.std.specs.Prelude.{ℕ, List}
use Rattle.graph_terms.specs.declared.verb.Edge.{Edge}
use Rattle.graph_meaning.proofs.PathLaws as path_laws
use Rattle.graph_meaning.proofs.PathTable as path_table
use Rattle.graph_meaning.specs.LineLaws.{AccessesFit, AccessesAreFew, AllAccessesFit, AllAccessesAreFew, AccessesAreAmongAll, AccessesWithCells, AccessesOfOneKind, ColumnsDiffer, PhasesFit}
use Rattle.graph_meaning.proofs.LineFacts as line_facts
use Rattle.graph_meaning.proofs.Races as races
use Rattle.graph_meaning.proofs.Turns as turns
use Rattle.graph_meaning.proofs.Waiting as waiting
use Rattle.graph_meaning.proofs.Cancelled as cancelled
use Rattle.graph_meaning.proofs.Confluence as confluence

pub ready_or_never : ReadyOrNeverBefore
ready_or_never = ready_line.ready_or_never

pub cells_after_at : CellRestsOnItself
cells_after_at = changes.cells_after_at

pub cells_after-append : CellsAfterBoth
cells_after-append = changes.cells_after-append

pub cells_after_untouched : UntouchedCellStays
cells_after_untouched = changes.cells_after_untouched

pub listed_point : ListedPointsLieWithin
listed_point = changes.listed_point

pub path_append : {all : List Edge} {i k j : ℕ} → PathsAppend all i k j
path_append = path_laws.path_append

pub path_snoc : {all : List Edge} {i : ℕ} → PathAndEdge all i
path_snoc = path_laws.path_snoc

pub along_path : {all : List Edge} (P : ℕ → Type 0) {i j : ℕ} → PassesAlongPaths all P i j
along_path = path_laws.along_path

pub back_path : {all : List Edge} (P : ℕ → Type 0) {i j : ℕ} → PassesBackAlongPaths all P i j
back_path = path_laws.back_path

pub never_with_path : ReachedNeverIsPhase
never_with_path = path_laws.never_with_path

pub path_below : (es : List Edge) (n : ℕ) {i j : ℕ} → PathsStayBelow es n i j
path_below = path_table.path_below

pub accesses_fit : AccessesFit
accesses_fit = line_facts.accesses_fit

pub accesses_are_few : AccessesAreFew
accesses_are_few = line_facts.accesses_are_few

pub all_accesses_fit : AllAccessesFit
all_accesses_fit = line_facts.all_accesses_fit

pub all_accesses_are_few : AllAccessesAreFew
all_accesses_are_few = line_facts.all_accesses_are_few

pub accesses_are_among_all : AccessesAreAmongAll
accesses_are_among_all = line_facts.accesses_are_among_all

pub accesses_with_cells : AccessesWithCells
accesses_with_cells = line_facts.accesses_with_cells

pub accesses_of_one_kind : AccessesOfOneKind
accesses_of_one_kind = line_facts.accesses_of_one_kind

pub columns_differ : ColumnsDiffer
columns_differ = line_facts.columns_differ

pub phases_fit : PhasesFit
phases_fit = line_facts.phases_fit

pub conflict_back : AccessesConflictBack
conflict_back = races.conflict_back

pub commute_back : ModesCommuteBack
commute_back = races.commute_back

pub lines_back : LinesConflictBack
lines_back = races.lines_back

pub exempt_back : ExemptBack
exempt_back = races.exempt_back

pub commute_parts : CommutingModes
commute_parts = races.commute_parts

pub path_or_exempt : ConflictHasPathOrExempt
path_or_exempt = races.path_or_exempt

pub before_ended : BeforeEndedHasEnded
before_ended = races.before_ended

pub turns_after : StepsHaveTurns
turns_after = turns.turns_after

pub ends_by_turn : EndsByItsTurn
ends_by_turn = turns.ends_by_turn

pub end_in-push : LaterStepKeepsEnd
end_in-push = turns.end_in-push

pub end_in_last : LastStepGivesEnd
end_in_last = turns.end_in_last

pub end_in_ended : EndedByStep
end_in_ended = waiting.end_in_ended

pub steps_end : StepsEndLines
steps_end = waiting.steps_end

pub step_of-line : StepOfLine
step_of-line = waiting.step_of-line

pub step_of-ended : StepEndsLine
step_of-ended = waiting.step_of-ended

pub end_in_left : WaitsWhereLeft
end_in_left = waiting.end_in_left

pub ends_in_order : EvaluationInOrder
ends_in_order = waiting.ends_in_order

pub waits_if_reached : ReachedWaits
waits_if_reached = waiting.waits_if_reached

pub left_is_reached : LeftIsReached
left_is_reached = waiting.left_is_reached

pub lowest_ready_is : LowestReadyIsReady
lowest_ready_is = waiting.lowest_ready_is

pub stays_ended : EndedStaysEnded
stays_ended = waiting.stays_ended

pub has_ended_last : LastStepEnds
has_ended_last = waiting.has_ended_last

pub ended_cases : EndedBeforeOrByLast
ended_cases = waiting.ended_cases

pub ready_passes : ReadyLinesPass
ready_passes = waiting.ready_passes

pub ended_lines_stand : EndedLinesStand
ended_lines_stand = cancelled.ended_lines_stand

pub cells_by_all_lines : CellsByAllLines
cells_by_all_lines = confluence.cells_by_all_lines
