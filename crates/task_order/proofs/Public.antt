-- The laws that the proofs of other crates cite, as specs/ states them.
use Rattle.task_order.specs.Laws.{ChangedIsUsed, DependsByPieces, SourcesAreDependences, CancelledByLost, PathsAreChains, SourcesSuffice, LostBySources, RunsAreSequential, RunsGoOn, SomeRunEnds, RunsStay, HistoriesAreRuns, HistoriesAreSequential}
use Rattle.task_order.proofs.Pieces as pieces
use Rattle.task_order.proofs.Paths as paths
use Rattle.task_order.proofs.Agreement as agreement
use Rattle.task_order.proofs.GoingOn as going_on
use Rattle.task_order.proofs.Insertion as insertion

pub changed_is_used : ChangedIsUsed
changed_is_used = pieces.changed_is_used

pub depends_by_pieces : DependsByPieces
depends_by_pieces = pieces.depends_by_pieces

pub sources_are_dependences : SourcesAreDependences
sources_are_dependences = paths.sources_are_dependences

pub cancelled_by_lost : CancelledByLost
cancelled_by_lost = paths.cancelled_by_lost

pub paths_are_chains : PathsAreChains
paths_are_chains = paths.paths_are_chains

pub sources_suffice : SourcesSuffice
sources_suffice = paths.sources_suffice

pub lost_by_sources : LostBySources
lost_by_sources = paths.lost_by_sources

pub runs_are_sequential : (X : Type 0) → RunsAreSequential X
runs_are_sequential = agreement.runs_are_sequential

pub runs_go_on : RunsGoOn
runs_go_on = going_on.runs_go_on

pub some_run_ends : (X : Type 0) → SomeRunEnds X
some_run_ends = going_on.some_run_ends

pub runs_stay : (X : Type 0) → RunsStay X
runs_stay = insertion.runs_stay

pub histories_are_runs : (X : Type 0) → HistoriesAreRuns X
histories_are_runs = insertion.histories_are_runs

pub histories_are_sequential : (X : Type 0) → HistoriesAreSequential X
histories_are_sequential = insertion.histories_are_sequential
