use Rattle.shared_events.proofs.Scout.{full_shown}
use Rattle.shared_events.proofs.events.Events.create_informed.Goals as goal

pub returns-in_default-clause-full : goal.returns-in_default-clause-full
returns-in_default-clause-full c = full_shown c.args.self.now.shape c.args.maker.now.inner.me.0.made c.args.maker.now.inner.me.0 c.scan_round.new.maker.inner.me.0 c.args.seat.now.inner.me.0 c.report.new.seat.inner.me.0
    c.in_default.ensures.full c.requires.maker.1 c.report.ensures.more_saw
