use Rattle.std.proofs.Common.{take}
use Rattle.realm_session.specs.Sessions.{recorded_by, IsSeatOf}
use Rattle.session_run.specs.Running.{ran_by, TellsAll}
use Rattle.session_run.proofs.LinkSteps.{Linking}
use Rattle.session_run.proofs.running.Running.add_links.Given as goal

abbrev pub invariant-loop-place : goal.invariant-loop-place
invariant-loop-place l = record {
  at : IsSeatOf l.self.session l.seat;
  tells : TellsAll (recorded_by l.self.recorder) l.seat;
  linking : Linking (ran_by l.self) l.fn.graph (take l.place l.links) l.graph;
}
