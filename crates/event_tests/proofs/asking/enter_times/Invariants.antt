use Rattle.std.proofs.Common.{ℕ, ◌+◌, ◌≤◌, length}
use Rattle.realm_session.specs.Recorded.{graph_at}
use Rattle.realm_session.specs.Sessions.{recorded_by, IsRecorderOf}
use Rattle.event_tests.proofs.asking.enter_times.Given as goal

abbrev pub invariant-loop-turn : goal.invariant-loop-turn
invariant-loop-turn l = record {
  recorder : IsRecorderOf l.session l.recorder;
  kept : (g : ℕ) → length (graph_at (recorded_by l.fn.recorder) g) ≤ length (graph_at (recorded_by l.recorder) g);
  graphs : length (recorded_by l.recorder).graphs ≤ length (recorded_by l.fn.recorder).graphs + l._turn;
}
