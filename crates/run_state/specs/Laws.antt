-- What is proved of the states of all runs, whatever the lines do to the cells, where that keeps to their accesses.
use Rattle.std.specs.Prelude.{◌≡◌, ◌≢◌, ℕ, ◌<◌, ◌≤◌, ◌↔◌, false, List, length, Contains, IsTrue, Some, slice_get, true, ◌∷◌, ◌⊎◌, [], map, ◌++◌, Bool}
use Rattle.index_spaces.specs.declared.Op.{Op}
use Rattle.graph_terms.specs.declared.outcome.End.{End}
use Rattle.graph_terms.specs.declared.outcome.End.TheVariants.{Done, Cancelled}
use Rattle.graph_terms.specs.declared.verb.Edge.{Edge}
use Rattle.graph_terms.specs.Graph.{GraphValue, line_passes, never_comes, columns, verb_at}
use Rattle.graph_terms.specs.Edges.{edges}
use Rattle.graph_meaning.specs.Path.{HasPath}
use Rattle.graph_terms.specs.Reservations.{Releases, Acquires}
use Rattle.graph_meaning.specs.Rules.{Accepted}
use Rattle.graph_meaning.specs.Effect.{Cells, effect, Effects, zero_cells}
use Rattle.graph_meaning.specs.Evaluation.{eval_end, end_by, column_of, has_ended, is_ended, evaluation, is_cancelled, end_with, evaluation_with}
use Rattle.graph_terms.specs.Fits.{IsGraph}
use Rattle.graph_meaning.specs.Need.{IsNeed}
use Rattle.graph_meaning.specs.Trace.{IsLawful}
use Rattle.run_state.specs.Run.{LineStage, Run, Out, Home, Had, is_listed, stage_at, time_at, place_at, list_at, out, ended, stage_out, stage_started, stage_over, stage_ended, stage_issued, started, end_so_far, over}
use Rattle.run_state.specs.Sound.{AccessesColumn, OnlyReads, is_arrive, Once, value_for, home_cells_with, SoundLinesWith, SoundWith}
use Rattle.run_state.specs.Moves.{staged, issue, claim, unclaim, ending, close, column_out, column_unused, column_back, column_read, arrive, hold, let_go, free, draw, without, inserted}
use Rattle.run_state.specs.Work.{cells_from, cells_now_with, HoldsAllWith, SeesAllWith, performed_with, put_cells_with, PerformsAsEvaluatedWith}
use Rattle.run_state.specs.Premises.{MayIssue, MayClaim, MayUnclaim, MayLetGo, MayTakeColumnWith, MayReturnColumnWith, MayPutBackColumnWith, MayReadColumnWith, MayBackOrReadWith, MayHoldWith, MayArriveWith, MayDrawWith, MayEndWith, MayFreeWith, MayCloseWith}
use Rattle.run_state.specs.WholeLine.{take_whole, put_back_whole, lock_of, column_list, columns_back}
use Rattle.run_state.specs.AtRest.{Undisturbed, AtRestWith, MayTakeWholeWith, MayPutBackWith}
use Rattle.run_state.specs.Sharing.{ChangesColumn, take_sharing, AtRestSharingWith, MayTakeSharingWith}
use Rattle.run_state.specs.Start.{start}
use Rattle.run_state.specs.Apart.{ConflictOnlyExempt}
use Rattle.run_state.specs.Quiet.{kept_cancels, left_among, ByTimes, CanTakeWith, QuietWith, StuckWith, IsLawfulWith, GivesOutcomeWith}
use Rattle.graph_terms.specs.declared.verb.Access.{Access}
use Rattle.graph_terms.specs.Access.{accesses}
use Rattle.graph_terms.specs.declared.verb.Verb.TheVariants.{Arrive}
use Rattle.run_state.specs.Verdicts.{KeepsToColumns, effect_by}

-- the effects of a graph's verbs keep to its columns, and so they do where a host says of calls that they faulted
abbrev pub VerbsKeepToColumns : Type 0
VerbsKeepToColumns = (g : GraphValue) → KeepsToColumns g (effect g)

abbrev pub FaultsKeepToColumns : Type 0
FaultsKeepToColumns = (faults : ℕ → Bool) (g : GraphValue) → KeepsToColumns g (effect_by faults g)

-- a run begins sound and at rest
abbrev pub StartIsSound : Type 0
StartIsSound = (does : Effects) (g : GraphValue) → IsGraph g → Accepted g → KeepsToColumns g does → SoundWith does g (start g)

abbrev pub StartIsAtRest : Type 0
StartIsAtRest = (does : Effects) (g : GraphValue) → IsGraph g → Accepted g → AtRestWith does g (start g)

-- each step keeps a state sound
abbrev pub IssueKeepsSound : Type 0
IssueKeepsSound = (does : Effects) (g : GraphValue) (run : Run) (i : ℕ) → SoundWith does g run → MayIssue g run i → SoundWith does g (issue run i)

abbrev pub ClaimKeepsSound : Type 0
ClaimKeepsSound = (does : Effects) (g : GraphValue) (run : Run) (i : ℕ) → SoundWith does g run → MayClaim g run i → SoundWith does g (claim run i)

abbrev pub UnclaimKeepsSound : Type 0
UnclaimKeepsSound = (does : Effects) (g : GraphValue) (run : Run) (i : ℕ) → SoundWith does g run → MayUnclaim g run i → SoundWith does g (unclaim run i)

abbrev pub ColumnOutKeepsSound : Type 0
ColumnOutKeepsSound = (does : Effects) (g : GraphValue) (run : Run) (c i : ℕ) → SoundWith does g run → MayTakeColumnWith does g run c i → SoundWith does g (column_out run c i)

abbrev pub ColumnUnusedKeepsSound : Type 0
ColumnUnusedKeepsSound = (does : Effects) (g : GraphValue) (run : Run) (c i : ℕ) (xs : List ℕ) → SoundWith does g run → MayReturnColumnWith does g run c i xs → SoundWith does g (column_unused run c xs)

abbrev pub ColumnBackKeepsSound : Type 0
ColumnBackKeepsSound = (does : Effects) (g : GraphValue) (run : Run) (c i : ℕ) (xs : List ℕ) → SoundWith does g run → MayPutBackColumnWith does g run c i xs → SoundWith does g (column_back run c i xs)

abbrev pub HoldKeepsSound : Type 0
HoldKeepsSound = (does : Effects) (g : GraphValue) (run : Run) (l q : ℕ) → SoundWith does g run → MayHoldWith does g run l q → SoundWith does g (hold run l q)

abbrev pub LetGoKeepsSound : Type 0
LetGoKeepsSound = (does : Effects) (g : GraphValue) (run : Run) (l q : ℕ) → SoundWith does g run → MayLetGo g run l q → SoundWith does g (let_go run l q)

abbrev pub ArriveKeepsSound : Type 0
ArriveKeepsSound = (does : Effects) (g : GraphValue) (run : Run) (o : Op) (i p v : ℕ) → SoundWith does g run → MayArriveWith does g run o i p v → SoundWith does g (arrive run o i p v)

abbrev pub DrawKeepsSound : Type 0
DrawKeepsSound = (does : Effects) (g : GraphValue) (run : Run) (i : ℕ) → SoundWith does g run → MayDrawWith does g run i → SoundWith does g (draw run i)

abbrev pub EndingKeepsSound : Type 0
EndingKeepsSound = (does : Effects) (g : GraphValue) (run : Run) (i : ℕ) (x : End) → SoundWith does g run → MayEndWith does g run i x → SoundWith does g (ending run i x)

abbrev pub FreeKeepsSound : Type 0
FreeKeepsSound = (does : Effects) (g : GraphValue) (run : Run) (r l q : ℕ) → SoundWith does g run → MayFreeWith does g run r l q → SoundWith does g (free run r l q)

abbrev pub CloseKeepsSound : Type 0
CloseKeepsSound = (does : Effects) (g : GraphValue) (run : Run) (i : ℕ) (x : End) → SoundWith does g run → MayCloseWith does g run i x → SoundWith does g (close run i x)

-- a line issued, a whole line taken, a cancelled line claimed and a whole line put back leave a state sound and at rest
abbrev pub IssueKeepsRest : Type 0
IssueKeepsRest = (does : Effects) (g : GraphValue) (run : Run) (i : ℕ) → SoundWith does g run → AtRestWith does g run → MayIssue g run i → SoundWith does g (issue run i) × AtRestWith does g (issue run i)

abbrev pub TakeKeepsRest : Type 0
TakeKeepsRest = (does : Effects) (g : GraphValue) (run : Run) (i : ℕ) → SoundWith does g run → AtRestWith does g run → MayTakeWholeWith does g run i → SoundWith does g (take_whole g run i) × AtRestWith does g (take_whole g run i)

abbrev pub ClaimOfCancelledKeepsRest : Type 0
ClaimOfCancelledKeepsRest = (does : Effects) (g : GraphValue) (run : Run) (i : ℕ) → SoundWith does g run → AtRestWith does g run → MayClaim g run i → end_with does zero_cells g i ≡ Cancelled → SoundWith does g (claim run i) × AtRestWith does g (claim run i)

abbrev pub PutBackKeepsRest : Type 0
PutBackKeepsRest = (does : Effects) (g : GraphValue) (run : Run) (i : ℕ) (x : End) (xs : ℕ → List ℕ) → SoundWith does g run → AtRestWith does g run → MayPutBackWith does g run i x xs →
    SoundWith does g (put_back_whole g run i x xs) × AtRestWith does g (put_back_whole g run i x xs)

-- a line that can be taken, and is not cancelled, can be taken whole
abbrev pub CanTakeWhole : Type 0
CanTakeWhole = (does : Effects) (g : GraphValue) (run : Run) (i : ℕ) → CanTakeWith does g run i → end_with does zero_cells g i ≢ Cancelled → MayTakeWholeWith does g run i

-- whether a line whose sources are ended is cancelled, by the ends that the run keeps of them
abbrev pub CancelledByKeptEnds : Type 0
CancelledByKeptEnds = (does : Effects) (g : GraphValue) (run : Run) (i : ℕ) → SoundWith does g run → i < length g.lines → never_comes g i ≡ false → ((e : Edge) → Contains (edges g) e → e.to ≡ i → IsTrue (ended run.stages e.from)) →
    IsTrue (kept_cancels g run.stages i) ↔ (end_with does zero_cells g i ≡ Cancelled)

-- a line taken whole holds its columns with the cells that they had at home
abbrev pub TakenHolds : Type 0
TakenHolds = (does : Effects) (g : GraphValue) (run : Run) (i : ℕ) (lists : ℕ → List ℕ) → SoundWith does g run → AtRestWith does g run → MayTakeWholeWith does g run i → ((c : ℕ) → AccessesColumn g i c → place_at run.places c ≡ Home (lists c)) →
    HoldsAllWith does g (take_whole g run i) i (cells_from g lists)

-- so does a line that took its columns one by one
abbrev pub ListsHold : Type 0
ListsHold = (does : Effects) (g : GraphValue) (run : Run) (i : ℕ) (lists : ℕ → List ℕ) → SoundWith does g run → IsTrue (out run.stages i) → end_with does zero_cells g i ≢ Cancelled → ((c : ℕ) → AccessesColumn g i c → place_at run.places c ≡ Had i) →
    ((c : ℕ) → AccessesColumn g i c → lists c ≡ home_cells_with does g (list_at run.back c) c) → HoldsAllWith does g run i (cells_from g lists)

-- what a line does to the cells that it holds is what it does in the evaluation
abbrev pub WorkIsAsEvaluated : Type 0
WorkIsAsEvaluated = (does : Effects) (g : GraphValue) (run : Run) (i : ℕ) (cells : Cells) → SoundWith does g run → HoldsAllWith does g run i cells → PerformsAsEvaluatedWith does g i cells

-- and the cells of each of its columns after it are those with which the line is put back there
abbrev pub WorkGivesCells : Type 0
WorkGivesCells = (does : Effects) (g : GraphValue) (run : Run) (i c : ℕ) (cells : Cells) → SoundWith does g run → HoldsAllWith does g run i cells → AccessesColumn g i c →
    (column_of g (performed_with does i cells) c).cells ≡ put_cells_with does g i (list_at run.back c) c

-- a line that performed on the cells that it holds may be put back with what it left, and a cancelled line with anything
abbrev pub PerformedMayBePutBack : Type 0
PerformedMayBePutBack = (does : Effects) (g : GraphValue) (run : Run) (i : ℕ) (cells : Cells) (xs : ℕ → List ℕ) → SoundWith does g run → HoldsAllWith does g run i cells →
    ((c : ℕ) → AccessesColumn g i c → xs c ≡ (column_of g (performed_with does i cells) c).cells) → MayPutBackWith does g run i (end_by (does i cells).verdict) xs

abbrev pub CancelledMayBePutBack : Type 0
CancelledMayBePutBack = (does : Effects) (g : GraphValue) (run : Run) (i : ℕ) (xs : ℕ → List ℕ) → stage_at run.stages i ≡ Out → end_with does zero_cells g i ≡ Cancelled → MayPutBackWith does g run i Cancelled xs

-- steps that leave a line undisturbed leave it what it holds, and what it may be put back with
abbrev pub HoldsAllStays : Type 0
HoldsAllStays = (does : Effects) (g : GraphValue) (run after : Run) (i : ℕ) (cells : Cells) → Undisturbed i run after → HoldsAllWith does g run i cells → HoldsAllWith does g after i cells

abbrev pub MayPutBackStays : Type 0
MayPutBackStays = (does : Effects) (g : GraphValue) (run after : Run) (i : ℕ) (x : End) (xs : ℕ → List ℕ) → AtRestWith does g run → Undisturbed i run after → MayPutBackWith does g run i x xs → MayPutBackWith does g after i x xs

-- a step of another line, and of a column that the line has not, leaves it undisturbed
abbrev pub StageLeaves : Type 0
StageLeaves = (run : Run) (i k : ℕ) (s : LineStage) → i ≢ k → Undisturbed i run (staged run k s)

abbrev pub ColumnOutLeaves : Type 0
ColumnOutLeaves = (run : Run) (i c k : ℕ) → place_at run.places c ≢ Had i → Undisturbed i run (column_out run c k)

abbrev pub ColumnUnusedLeaves : Type 0
ColumnUnusedLeaves = (run : Run) (i c : ℕ) (xs : List ℕ) → place_at run.places c ≢ Had i → Undisturbed i run (column_unused run c xs)

abbrev pub ColumnBackLeaves : Type 0
ColumnBackLeaves = (run : Run) (i c k : ℕ) (xs : List ℕ) → place_at run.places c ≢ Had i → Undisturbed i run (column_back run c k xs)

abbrev pub TakeLeaves : Type 0
TakeLeaves = (does : Effects) (g : GraphValue) (run : Run) (i k : ℕ) → IsTrue (out run.stages i) → MayTakeWholeWith does g run k → Undisturbed i run (take_whole g run k)

abbrev pub PutBackLeaves : Type 0
PutBackLeaves = (does : Effects) (g : GraphValue) (run : Run) (i k : ℕ) (x : End) (xs : ℕ → List ℕ) → i ≢ k → AtRestWith does g run → MayPutBackWith does g run k x xs → Undisturbed i run (put_back_whole g run k x xs)

-- at rest the lines put back on a column, the arrivals put in and the releases that have freed are known by the ended lines
abbrev pub BackAtRest : Type 0
BackAtRest = (does : Effects) (g : GraphValue) (run : Run) (c i : ℕ) → SoundWith does g run → AtRestWith does g run → IsTrue (is_listed (list_at run.back c) i) ↔ (IsTrue (ended run.stages i) × AccessesColumn g i c × (end_with does zero_cells g i ≢ Cancelled))

abbrev pub ArrivedAtRest : Type 0
ArrivedAtRest = (does : Effects) (g : GraphValue) (run : Run) (i : ℕ) → SoundWith does g run → AtRestWith does g run → IsTrue (is_listed run.arrived i) ↔ (IsTrue (ended run.stages i) × IsTrue (line_passes is_arrive g i) × (end_with does zero_cells g i ≢ Cancelled))

abbrev pub FreedAtRest : Type 0
FreedAtRest = (does : Effects) (g : GraphValue) (run : Run) (r q : ℕ) → SoundWith does g run → AtRestWith does g run → Releases g r q → IsTrue (is_listed run.freed r) ↔ (IsTrue (ended run.stages r) × (end_with does zero_cells g q ≡ Done))

-- a sound and quiet run gives the outcome of the evaluation; its ended lines by their times are a lawful trace
abbrev pub QuietGivesOutcome : Type 0
QuietGivesOutcome = (does : Effects) (g : GraphValue) (run : Run) (trace : List ℕ) → SoundWith does g run → QuietWith does g run → ByTimes run trace → GivesOutcomeWith does g run trace

-- a list as long as the clock with each line at its time is the ended lines by their times
abbrev pub SlotsAreByTimes : Type 0
SlotsAreByTimes = (does : Effects) (g : GraphValue) (run : Run) (trace : List ℕ) → SoundWith does g run → QuietWith does g run → length trace ≡ run.clock → ((i t : ℕ) → time_at run.times i ≡ Some t → slice_get trace t ≡ Some i) → ByTimes run trace

-- the clock is at most the number of lines
abbrev pub ClockIsSmall : Type 0
ClockIsSmall = (does : Effects) (g : GraphValue) (run : Run) → SoundWith does g run → run.clock ≤ length g.lines

-- where none of the first k lines can be taken, and a line is left to issue, fewer of them are left than the need
abbrev pub LeftBelowNeed : Type 0
LeftBelowNeed = (does : Effects) (g : GraphValue) (run : Run) (k need : ℕ) → SoundWith does g run → StuckWith does g run k → k < length g.lines → IsNeed g need → left_among run k < need

-- two lines of an accepted graph with no path between them conflict only where both reduce and are exempt
abbrev pub UnorderedConflictOnlyExempt : Type 0
UnorderedConflictOnlyExempt = (g : GraphValue) (i j : ℕ) → Accepted g → (HasPath g i j → ⊥) → (HasPath g j i → ⊥) → ConflictOnlyExempt g i j

-- nor do, in a sound state, two different lines that are out
abbrev pub OutConflictOnlyExempt : Type 0
OutConflictOnlyExempt = (does : Effects) (g : GraphValue) (stages : List LineStage) (i j : ℕ) → Accepted g → SoundLinesWith does g stages →
    IsTrue (out stages i) → IsTrue (out stages j) → ConflictOnlyExempt g i j

-- a line put back on a column that it only reads, while the column is at home, keeps a state sound
abbrev pub ColumnReadKeepsSound : Type 0
ColumnReadKeepsSound = (does : Effects) (g : GraphValue) (run : Run) (c i : ℕ) → SoundWith does g run → MayReadColumnWith does g run c i →
    SoundWith does g (column_read run c i)

-- and leaves the cells of all columns as they are
abbrev pub ColumnReadLeavesCells : Type 0
ColumnReadLeavesCells = (does : Effects) (g : GraphValue) (run : Run) (c i : ℕ) → SoundWith does g run → MayReadColumnWith does g run c i →
    (d p : ℕ) → cells_now_with does g (column_read run c i) d p ≡ cells_now_with does g run d p

-- a line that holds its columns sees their cells
abbrev pub HoldersSee : Type 0
HoldersSee = (does : Effects) (g : GraphValue) (run : Run) (i : ℕ) (cells : Cells) → SoundWith does g run → HoldsAllWith does g run i cells →
    SeesAllWith does g run i cells

-- what a line does to the cells that it sees is what it does in the evaluation
abbrev pub SightIsAsEvaluated : Type 0
SightIsAsEvaluated = (does : Effects) (g : GraphValue) (run : Run) (i : ℕ) (cells : Cells) → SoundWith does g run →
    SeesAllWith does g run i cells → PerformsAsEvaluatedWith does g i cells

-- and the cells of each of its columns after it are those with which the line is put back there. Of one that it only reads they are those at home
abbrev pub SightGivesCells : Type 0
SightGivesCells = (does : Effects) (g : GraphValue) (run : Run) (i c : ℕ) (cells : Cells) → SoundWith does g run →
    SeesAllWith does g run i cells → AccessesColumn g i c →
    ((column_of g (performed_with does i cells) c).cells ≡ put_cells_with does g i (list_at run.back c) c)
    × (OnlyReads g i c → put_cells_with does g i (list_at run.back c) c ≡ home_cells_with does g (list_at run.back c) c)

-- a line goes on to see the same cells where another is put back on a column that it only reads
abbrev pub ReadersStayApart : Type 0
ReadersStayApart = (does : Effects) (g : GraphValue) (run : Run) (i k c : ℕ) (cells : Cells) → SoundWith does g run →
    MayReadColumnWith does g run c k → i ≢ k → SeesAllWith does g run i cells → SeesAllWith does g (column_read run c k) i cells

-- a line put back on all its columns, of which it has some and only reads the others, keeps a state sound
abbrev pub BackOrReadKeepsSound : Type 0
BackOrReadKeepsSound = (does : Effects) (g : GraphValue) (run : Run) (i : ℕ) (xs : ℕ → List ℕ) → SoundWith does g run →
    ((c : ℕ) → IsTrue (is_listed (column_list g i) c) → MayBackOrReadWith does g run c i (xs c)) →
    SoundWith does g (columns_back run i xs (column_list g i))

-- a column that a line accesses is one that it may change, or one that it only reads
abbrev pub ChangedOrRead : Type 0
ChangedOrRead = (g : GraphValue) (i c : ℕ) → IsGraph g → AccessesColumn g i c → ChangesColumn g i c ⊎ OnlyReads g i c

-- where lines share the columns that they only read, a run begins at rest
abbrev pub SharingStartsAtRest : Type 0
SharingStartsAtRest = (does : Effects) (g : GraphValue) → IsGraph g → Accepted g → AtRestSharingWith does g (start g)

-- a line issued, a whole line taken, a cancelled line claimed and a whole line put back leave a state sound and at rest
abbrev pub IssueKeepsSharing : Type 0
IssueKeepsSharing = (does : Effects) (g : GraphValue) (run : Run) (i : ℕ) → SoundWith does g run → AtRestSharingWith does g run →
    MayIssue g run i → SoundWith does g (issue run i) × AtRestSharingWith does g (issue run i)

abbrev pub TakeKeepsSharing : Type 0
TakeKeepsSharing = (does : Effects) (g : GraphValue) (run : Run) (i : ℕ) → SoundWith does g run → AtRestSharingWith does g run →
    MayTakeSharingWith does g run i → SoundWith does g (take_sharing g run i) × AtRestSharingWith does g (take_sharing g run i)

abbrev pub ClaimOfCancelledKeepsSharing : Type 0
ClaimOfCancelledKeepsSharing = (does : Effects) (g : GraphValue) (run : Run) (i : ℕ) → SoundWith does g run → AtRestSharingWith does g run →
    MayClaim g run i → end_with does zero_cells g i ≡ Cancelled → SoundWith does g (claim run i) × AtRestSharingWith does g (claim run i)

abbrev pub PutBackKeepsSharing : Type 0
PutBackKeepsSharing = (does : Effects) (g : GraphValue) (run : Run) (i : ℕ) (x : End) (xs : ℕ → List ℕ) → SoundWith does g run →
    AtRestSharingWith does g run → MayPutBackWith does g run i x xs →
    SoundWith does g (put_back_whole g run i x xs) × AtRestSharingWith does g (put_back_whole g run i x xs)

-- a line taken so sees the cells that its columns have at home
abbrev pub TakenSees : Type 0
TakenSees = (does : Effects) (g : GraphValue) (run : Run) (i : ℕ) (lists : ℕ → List ℕ) → SoundWith does g run →
    MayTakeSharingWith does g run i → ((c : ℕ) → AccessesColumn g i c → place_at run.places c ≡ Home (lists c)) →
    SeesAllWith does g (take_sharing g run i) i (cells_from g lists)

-- a line that performed on the cells that it sees may be put back with what it left
abbrev pub SeenMayBePutBack : Type 0
SeenMayBePutBack = (does : Effects) (g : GraphValue) (run : Run) (i : ℕ) (cells : Cells) (xs : ℕ → List ℕ) → SoundWith does g run →
    SeesAllWith does g run i cells → ((c : ℕ) → AccessesColumn g i c → xs c ≡ (column_of g (performed_with does i cells) c).cells) →
    MayPutBackWith does g run i (end_by (does i cells).verdict) xs

-- as other lines are taken and put back, a line goes on to see the same cells, and may be put back with the same
abbrev pub TakeLeavesSight : Type 0
TakeLeavesSight = (does : Effects) (g : GraphValue) (run : Run) (i k : ℕ) (cells : Cells) → MayTakeSharingWith does g run k →
    SeesAllWith does g run i cells → SeesAllWith does g (take_sharing g run k) i cells

abbrev pub TakeLeavesEnd : Type 0
TakeLeavesEnd = (does : Effects) (g : GraphValue) (run : Run) (i k : ℕ) (x : End) (xs : ℕ → List ℕ) → MayTakeSharingWith does g run k →
    MayPutBackWith does g run i x xs → MayPutBackWith does g (take_sharing g run k) i x xs

abbrev pub PutBackLeavesSight : Type 0
PutBackLeavesSight = (does : Effects) (g : GraphValue) (run : Run) (i k : ℕ) (x : End) (xs : ℕ → List ℕ) (cells : Cells) → SoundWith does g run →
    AtRestSharingWith does g run → i ≢ k → MayPutBackWith does g run k x xs → SeesAllWith does g run i cells →
    SeesAllWith does g (put_back_whole g run k x xs) i cells

abbrev pub PutBackLeavesEnd : Type 0
PutBackLeavesEnd = (does : Effects) (g : GraphValue) (run : Run) (i k : ℕ) (x y : End) (xs ys : ℕ → List ℕ) → SoundWith does g run →
    AtRestSharingWith does g run → i ≢ k → MayPutBackWith does g run k x xs → MayPutBackWith does g run i y ys →
    MayPutBackWith does g (put_back_whole g run k x xs) i y ys

-- a number that is listed is in the list
abbrev pub ListedIsContained : Type 0
ListedIsContained = (ks : List ℕ) (i : ℕ) → is_listed ks i ≡ true → Contains ks i

-- a number in the list is listed
abbrev pub ContainedIsListed : Type 0
ContainedIsListed = (ks : List ℕ) (i : ℕ) → Contains ks i → is_listed ks i ≡ true

-- the first number is listed
abbrev pub FirstIsListed : Type 0
FirstIsListed = (i : ℕ) (ks : List ℕ) → is_listed (i ∷ ks) i ≡ true

-- what the rest lists is listed
abbrev pub RestIsListed : Type 0
RestIsListed = (i k : ℕ) (ks : List ℕ) → is_listed ks k ≡ true → is_listed (i ∷ ks) k ≡ true

-- what is listed is the first number, or the rest lists it
abbrev pub ListedByCases : Type 0
ListedByCases = (i k : ℕ) (ks : List ℕ) → is_listed (i ∷ ks) k ≡ true → (k ≡ i) ⊎ (is_listed ks k ≡ true)

-- no list lists nothing
abbrev pub NothingListed : Type 0
NothingListed = (k : ℕ) → is_listed [] k ≡ true → ⊥

-- without a number the others are listed
abbrev pub ListedWithoutOne : Type 0
ListedWithoutOne = (q k : ℕ) (ks : List ℕ) → is_listed (without q ks) k ≡ true → (is_listed ks k ≡ true) × (k ≡ q → ⊥)

-- each other number stays listed
abbrev pub OthersStayListed : Type 0
OthersStayListed = (q k : ℕ) (ks : List ℕ) → is_listed ks k ≡ true → (k ≡ q → ⊥) → is_listed (without q ks) k ≡ true

-- a number that is inserted is listed
abbrev pub InsertedIsListed : Type 0
InsertedIsListed = (q : ℕ) (ks : List ℕ) → is_listed (inserted q ks) q ≡ true

-- what was listed is so after another is inserted
abbrev pub ListedStaysInserted : Type 0
ListedStaysInserted = (q j : ℕ) (ks : List ℕ) → is_listed ks j ≡ true → is_listed (inserted q ks) j ≡ true

-- what is listed then is that number or was listed
abbrev pub InsertedByCases : Type 0
InsertedByCases = (q j : ℕ) (ks : List ℕ) → is_listed (inserted q ks) j ≡ true → (j ≡ q) ⊎ (is_listed ks j ≡ true)

-- a line that is out has been taken
abbrev pub OutHasStarted : Type 0
OutHasStarted = (s : LineStage) → stage_out s ≡ true → stage_started s ≡ true

-- a line that is over has been taken
abbrev pub OverHasStarted : Type 0
OverHasStarted = (s : LineStage) → stage_over s ≡ true → stage_started s ≡ true

-- a line that has ended is over
abbrev pub EndedIsOver : Type 0
EndedIsOver = (s : LineStage) → stage_ended s ≡ true → stage_over s ≡ true

-- a line that is out has not ended
abbrev pub OutHasNotEnded : Type 0
OutHasNotEnded = (s : LineStage) → stage_out s ≡ true → stage_ended s ≡ false

-- a line that was issued has a stage
abbrev pub IssuedLinesHaveStage : Type 0
IssuedLinesHaveStage = (stages : List LineStage) (i : ℕ) → stage_issued (stage_at stages i) ≡ true → i < length stages

-- a line that was taken is one of the graph
abbrev pub StartedLinesAreBelowEndWith : Effects → GraphValue → List LineStage → Type 0
StartedLinesAreBelowEndWith does g stages = SoundLinesWith does g stages → (i : ℕ) → started stages i ≡ true → i < length g.lines

-- the same with the effects of the graph's verbs
abbrev pub StartedLinesAreBelowEnd : GraphValue → List LineStage → Type 0
StartedLinesAreBelowEnd g stages = StartedLinesAreBelowEndWith (effect g) g stages

-- a line that was taken ends in the evaluation
abbrev pub StartedLinesEndWith : Effects → GraphValue → List LineStage → Type 0
StartedLinesEndWith does g stages = IsGraph g → Accepted g → SoundLinesWith does g stages → (i : ℕ) → started stages i ≡ true → has_ended (evaluation_with does zero_cells g) i ≡ true

-- the same with the effects of the graph's verbs
abbrev pub StartedLinesEnd : GraphValue → List LineStage → Type 0
StartedLinesEnd g stages = StartedLinesEndWith (effect g) g stages

-- the end that is kept of a line that is over is that of the evaluation
abbrev pub KeptEndIsEvaluatedWith : Effects → GraphValue → List LineStage → Type 0
KeptEndIsEvaluatedWith does g stages = SoundLinesWith does g stages → (i : ℕ) → over stages i ≡ true → end_so_far (stage_at stages i) ≡ end_with does zero_cells g i

-- the same with the effects of the graph's verbs
abbrev pub KeptEndIsEvaluated : GraphValue → List LineStage → Type 0
KeptEndIsEvaluated g stages = KeptEndIsEvaluatedWith (effect g) g stages

-- a line that has ended has been taken
abbrev pub EndedHasStarted : Type 0
EndedHasStarted = (stages : List LineStage) (i : ℕ) → ended stages i ≡ true → started stages i ≡ true

-- a line with a path to one that was taken has ended
abbrev pub PathsFromEndedWith : Effects → GraphValue → List LineStage → Type 0
PathsFromEndedWith does g stages = SoundLinesWith does g stages → (i j : ℕ) → HasPath g i j → started stages j ≡ true → ended stages i ≡ true

-- the same with the effects of the graph's verbs
abbrev pub PathsFromEnded : GraphValue → List LineStage → Type 0
PathsFromEnded g stages = PathsFromEndedWith (effect g) g stages

-- a line that ends is cancelled exactly where its sources cancel it
abbrev pub CancelledBySourcesWith : Type 0
CancelledBySourcesWith = (does : Effects) (g : GraphValue) (i : ℕ) → has_ended (evaluation_with does zero_cells g) i ≡ true →
    (is_cancelled g (evaluation_with does zero_cells g) i ≡ true → end_with does zero_cells g i ≡ Cancelled) × (end_with does zero_cells g i ≡ Cancelled → is_cancelled g (evaluation_with does zero_cells g) i ≡ true)

-- the same with the effects of the graph's verbs
abbrev pub CancelledBySources : Type 0
CancelledBySources = (g : GraphValue) (i : ℕ) → has_ended (evaluation g) i ≡ true →
    (is_cancelled g (evaluation g) i ≡ true → eval_end g i ≡ Cancelled) × (eval_end g i ≡ Cancelled → is_cancelled g (evaluation g) i ≡ true)

-- a column that a line accesses is one of the graph
abbrev pub AccessedColumnsAreDeclared : GraphValue → Type 0
AccessedColumnsAreDeclared g = IsGraph g → (i c : ℕ) → AccessesColumn g i c → c < length (columns g)

-- a line accesses each of its columns once
abbrev pub ColumnsAccessedOnce : Type 0
ColumnsAccessedOnce = (g : GraphValue) → IsGraph g → (i : ℕ) → Once (map (λ (a : Access). a.column) (accesses g i))

-- what a list with one more number lists was listed, or is that number
abbrev pub ListedAtEndByCases : Type 0
ListedAtEndByCases = (xs : List ℕ) (x k : ℕ) → is_listed (xs ++ x ∷ []) k ≡ true → (is_listed xs k ≡ true) ⊎ (k ≡ x)

-- what was listed is so with one more number
abbrev pub ListedStaysWithMore : Type 0
ListedStaysWithMore = (xs : List ℕ) (x k : ℕ) → is_listed xs k ≡ true → is_listed (xs ++ x ∷ []) k ≡ true

-- numbers that stand once stand once with another
abbrev pub OnceWithAnother : Type 0
OnceWithAnother = (xs : List ℕ) (x : ℕ) → Once xs → is_listed xs x ≡ false → Once (xs ++ x ∷ [])

-- the number at a place is listed
abbrev pub PlacedIsListed : Type 0
PlacedIsListed = (xs : List ℕ) (a i : ℕ) → slice_get xs a ≡ Some i → is_listed xs i ≡ true

-- an arrival brings its value to its phase
abbrev pub ValueOfArrival : Type 0
ValueOfArrival = (g : GraphValue) (i p v w : ℕ) → verb_at g i ≡ Some (Arrive p v w) → value_for g p i ≡ Some v

-- the reservation of an acquire is the one that it acquires
abbrev pub ReservationOfAcquire : Type 0
ReservationOfAcquire = (g : GraphValue) (q l : ℕ) → Acquires g q l → lock_of g q ≡ Some l

-- a column that a line accesses is among its columns
abbrev pub AccessedColumnsAreListed : Type 0
AccessedColumnsAreListed = (g : GraphValue) (i c : ℕ) → AccessesColumn g i c → is_listed (column_list g i) c ≡ true

-- a trace that is lawful with the effects of the graph's verbs is lawful
abbrev pub LawfulWithVerbs : Type 0
LawfulWithVerbs = (g : GraphValue) (trace : List ℕ) → IsLawfulWith (effect g) g trace → IsLawful g trace

-- a line that was taken has an end in the evaluation
abbrev pub StartedLinesHaveEnd : Effects → GraphValue → Run → Type 0
StartedLinesHaveEnd does g run = SoundWith does g run → (i : ℕ) → started run.stages i ≡ true → is_ended (end_with does zero_cells g i) ≡ true
