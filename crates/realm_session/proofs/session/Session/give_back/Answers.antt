use Rattle.shared_events.specs.Views.{lists}
use Rattle.realm_session.proofs.Telling.{tells_more}
use Rattle.realm_session.proofs.session.Session.give_back.Goals as goal

pub returns-clause-recorder : goal.returns-clause-recorder
returns-clause-recorder c = let m = c.requires.recorder in record {
  maker = m.maker;
  seat = c.join.ensures.at;
  slots = m.slots;
  made = m.made;
  tells = λ x d. tells_more c.args.recorder.now.seat c.join.new.seat (lists c.args.seat).left c.join.ensures.kept.0 c.join.ensures.left x (m.tells x d);
}
