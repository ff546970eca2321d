use Rattle.std.proofs.Common.{ap}
use Rattle.shared_events.specs.declared.view.View.{View}
use Rattle.realm_session.proofs.Telling.{tells_same}
use Rattle.realm_session.proofs.session.Session.asker.Goals as goal

pub returns-clause-recorder : goal.returns-clause-recorder
returns-clause-recorder c = let m = c.requires.recorder in record {
  maker = m.maker;
  seat = c.split.ensures.at.0;
  slots = m.slots;
  made = m.made;
  tells = λ x d. tells_same c.args.recorder.now.seat c.split.new.seat c.split.ensures.kept.0 (ap (λ (v : View). v.left) c.split.ensures.same) x (m.tells x d);
}

pub returns-clause-tells : goal.returns-clause-tells
returns-clause-tells c = λ x d. tells_same c.args.recorder.now.seat c.split.result c.split.ensures.kept.1 c.split.ensures.copied.2 x (c.requires.recorder.tells x d)
