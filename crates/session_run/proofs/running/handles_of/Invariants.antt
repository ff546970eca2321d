use Rattle.std.proofs.Common.{◌≡◌, map, take}
use Rattle.realm_session.specs.Recorded.{graph_at, handle_in}
use Rattle.realm_session.specs.Sessions.{recorded_by}
use Rattle.session_run.proofs.running.handles_of.Given as goal

abbrev pub invariant-loop-line : goal.invariant-loop-line
invariant-loop-line l = l.handles ≡ map handle_in (take l.line (graph_at (recorded_by l.recorder) l.graph))
