use Rattle.std.proofs.Common.{ap, ◌∙◌, sym}
use Rattle.std.specs.Prelude.{◌++◌, ◌∷◌, []}
use Rattle.realm_session.specs.Recorded.{graph_at}
use Rattle.realm_session.specs.Sessions.{recorded_by}
use Rattle.session_run.proofs.Recording.{handles_more}
use Rattle.session_run.proofs.running.handles_of.Goals as goal

pub loop-line-preserved : goal.loop-line-preserved
loop-line-preserved c =
    let x = c.handle_of.ensures.line in
    c.in_ok-push.ensures.ok ∙ (ap (λ h. c.loop-line.handles ++ h ∷ []) (sym x.3) ∙ handles_more (graph_at (recorded_by c.args.recorder.now) c.args.graph) c.loop-line.line x.0 c.loop-line.handles x.1 c.loop-line.invariant)
