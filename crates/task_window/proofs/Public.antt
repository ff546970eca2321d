-- The laws that the proofs of other crates cite, as specs/ states them.
use Rattle.task_window.specs.Laws.{RunsBegin, InsertsKeepRuns, TakesStart, TakesCancel, BodiesWrite, EndsEnd}
use Rattle.task_window.proofs.RunsOfWindows as runs

pub runs_begin : (X : Type 0) → RunsBegin X
runs_begin X = runs.runs_begin {X = X}

pub inserts_keep_runs : (X : Type 0) → InsertsKeepRuns X
inserts_keep_runs X = runs.inserts_keep_runs {X = X}

pub takes_start : (X : Type 0) → TakesStart X
takes_start X = runs.takes_start {X = X}

pub takes_cancel : (X : Type 0) → TakesCancel X
takes_cancel X = runs.takes_cancel {X = X}

pub bodies_write : (X : Type 0) → BodiesWrite X
bodies_write X = runs.bodies_write {X = X}

pub ends_end : (X : Type 0) → EndsEnd X
ends_end X = runs.ends_end {X = X}
