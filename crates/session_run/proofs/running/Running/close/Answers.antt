use Rattle.std.proofs.Common.{◌∙◌, ap}
use Rattle.std.specs.Prelude.{Some}
use Rattle.realm_session.specs.Recorded.{answer_for}
use Rattle.session_run.proofs.Asking.{recorded_line, handle_there}
use Rattle.session_run.proofs.running.Running.close.Goals as goal

pub returns-clause-ended : goal.returns-clause-ended
returns-clause-ended c = record {
  few = c.requires.running.few;
  outcomes = c.requires.running.outcomes;
  events = λ k i x at near.
      let d = recorded_line c.args.self k i x c.requires.running at near in
      record {
        handle = d.line.handle;
        is_handle = handle_there c.args.self k i x c.requires.running at d;
        created = c.close.ensures.created d.line d.among;
        real = (c.requires.running.recorder.tells d.line d.among).real;
        answered = c.close.ensures.answers d.line d.among ∙ ap (λ e. Some (answer_for e)) d.ended;
      };
}
