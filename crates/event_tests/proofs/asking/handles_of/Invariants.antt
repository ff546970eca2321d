use Rattle.std.proofs.Common.{◌≡◌}
use Rattle.std.specs.Prelude.{Contains}
use Rattle.event_table.specs.declared.handle.Handle.{Handle}
use Rattle.realm_session.specs.declared.line.Line.{Line}
use Rattle.realm_session.specs.Recorded.{IsRecorded}
use Rattle.realm_session.specs.Sessions.{recorded_by}
use Rattle.event_tests.proofs.asking.handles_of.Given as goal

abbrev pub invariant-loop-line : goal.invariant-loop-line
invariant-loop-line l = (h : Handle) → Contains l.handles.items h → (x : Line) × IsRecorded (recorded_by l.recorder) x × (x.handle ≡ h)
