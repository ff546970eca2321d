-- The laws that the proofs of other crates cite, as specs/ states them.
use Rattle.run_state.specs.Laws.{ListedIsContained, ContainedIsListed, FirstIsListed, RestIsListed, ListedByCases, NothingListed, ListedWithoutOne, OthersStayListed, InsertedIsListed, ListedStaysInserted, InsertedByCases, OutHasStarted, OverHasStarted, EndedIsOver, OutHasNotEnded, IssuedLinesHaveStage, StartedLinesAreBelowEndWith, StartedLinesAreBelowEnd, StartedLinesEndWith, StartedLinesEnd, KeptEndIsEvaluatedWith, KeptEndIsEvaluated, EndedHasStarted, PathsFromEndedWith, PathsFromEnded, CancelledBySourcesWith, CancelledBySources, AccessedColumnsAreDeclared, ColumnsAccessedOnce, ListedAtEndByCases, ListedStaysWithMore, OnceWithAnother, PlacedIsListed, ValueOfArrival, ReservationOfAcquire, AccessedColumnsAreListed, CancelledByKeptEnds, StartedLinesHaveEnd, LawfulWithVerbs, VerbsKeepToColumns, FaultsKeepToColumns}
use Rattle.run_state.proofs.Lists as lists
use Rattle.std.specs.Prelude.{List}
use Rattle.graph_meaning.specs.Effect.{Effects}
use Rattle.graph_terms.specs.Graph.{GraphValue}
use Rattle.run_state.specs.Run.{LineStage, Run}
use Rattle.run_state.proofs.Started as started
use Rattle.run_state.proofs.Known as known
use Rattle.run_state.proofs.Phases as phases
use Rattle.run_state.proofs.WholeLine as whole_line
use Rattle.run_state.proofs.QuietTrace as trace
use Rattle.run_state.proofs.Verdicts as verdicts

pub listed_contains : ListedIsContained
listed_contains = lists.listed_contains

pub contains_listed : ContainedIsListed
contains_listed = lists.contains_listed

pub listed_here : FirstIsListed
listed_here = lists.listed_here

pub listed_there : RestIsListed
listed_there = lists.listed_there

pub listed_cases : ListedByCases
listed_cases = lists.listed_cases

pub none_listed : NothingListed
none_listed = lists.none_listed

pub listed_without : ListedWithoutOne
listed_without = lists.listed_without

pub without_listed : OthersStayListed
without_listed = lists.without_listed

pub inserted_here : InsertedIsListed
inserted_here = lists.inserted_here

pub inserted_there : ListedStaysInserted
inserted_there = lists.inserted_there

pub inserted_cases : InsertedByCases
inserted_cases = lists.inserted_cases

pub out_started : OutHasStarted
out_started = lists.out_started

pub over_started : OverHasStarted
over_started = lists.over_started

pub ended_over : EndedIsOver
ended_over = lists.ended_over

pub out_not_ended : OutHasNotEnded
out_not_ended = lists.out_not_ended

pub stage_there : IssuedLinesHaveStage
stage_there = lists.stage_there

pub started_below_with : {does : Effects} {g : GraphValue} {stages : List LineStage} → StartedLinesAreBelowEndWith does g stages
started_below_with = started.started_below

pub started_below : {g : GraphValue} {stages : List LineStage} → StartedLinesAreBelowEnd g stages
started_below = started.started_below

pub started_ends_with : {does : Effects} {g : GraphValue} {stages : List LineStage} → StartedLinesEndWith does g stages
started_ends_with = started.started_ends

pub started_ends : {g : GraphValue} {stages : List LineStage} → StartedLinesEnd g stages
started_ends = started.started_ends

pub kept_is_with : {does : Effects} {g : GraphValue} {stages : List LineStage} → KeptEndIsEvaluatedWith does g stages
kept_is_with = started.kept_is

pub kept_is : {g : GraphValue} {stages : List LineStage} → KeptEndIsEvaluated g stages
kept_is = started.kept_is

pub ended_started : EndedHasStarted
ended_started = started.ended_started

pub path_ended_with : {does : Effects} {g : GraphValue} {stages : List LineStage} → PathsFromEndedWith does g stages
path_ended_with = started.path_ended

pub path_ended : {g : GraphValue} {stages : List LineStage} → PathsFromEnded g stages
path_ended = started.path_ended

pub cancelled_iff_with : CancelledBySourcesWith
cancelled_iff_with = started.cancelled_iff_with

pub cancelled_iff : CancelledBySources
cancelled_iff = started.cancelled_iff

pub column_there : {g : GraphValue} → AccessedColumnsAreDeclared g
column_there = known.column_there

pub columns_once : ColumnsAccessedOnce
columns_once = known.columns_once

pub listed_push : ListedAtEndByCases
listed_push = phases.listed_push

pub push_listed : ListedStaysWithMore
push_listed = phases.push_listed

pub once_push : OnceWithAnother
once_push = phases.once_push

pub got_listed : PlacedIsListed
got_listed = phases.got_listed

pub value_here : ValueOfArrival
value_here = phases.value_here

pub acquires_lock : ReservationOfAcquire
acquires_lock = whole_line.acquires_lock

pub accessed_listed : AccessedColumnsAreListed
accessed_listed = whole_line.accessed_listed

pub lawful_with_verbs : LawfulWithVerbs
lawful_with_verbs = trace.lawful_with_verbs

pub verbs_keep_to_columns : VerbsKeepToColumns
verbs_keep_to_columns = verdicts.verbs_keep_to_columns

pub faults_keep_to_columns : FaultsKeepToColumns
faults_keep_to_columns = verdicts.faults_keep_to_columns

pub cancelled_by_kept : CancelledByKeptEnds
cancelled_by_kept does g run i s below comes sources = started.cancelled_by_kept s i below comes sources

pub ended_in_evaluation : {does : Effects} {g : GraphValue} {run : Run} → StartedLinesHaveEnd does g run
ended_in_evaluation = started.ended_in_evaluation
