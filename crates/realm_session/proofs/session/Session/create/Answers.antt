use Rattle.std.proofs.Common.{◌++◌, ap, arith, length}
use Rattle.std.proofs.lemmas.List.{length-map}
use Rattle.realm_session.specs.Recorded.{handle_in, lines_in}
use Rattle.realm_session.proofs.Slots.{slot_free}
use Rattle.realm_session.proofs.Telling.{tells_same}
use Rattle.realm_session.proofs.session.Session.create.Goals as goal

pub unreachable-requires : goal.unreachable-requires
unreachable-requires c =
    let m = c.requires.made in
    let r = c.args.recorder.now in
    let xs = lines_in r.graphs.items ++ c.args.lines.now in
    slot_free c.args.self.now.events.shape r.maker.next r.maker.inner.me.0.made xs r.seat.inner.me.0 m.made m.maker.2 c.args.self.now.shaped.1
    (omega (arith, ap length m.made, length-map xs handle_in, c.requires.few)) (λ x d. (m.tells x d).known) c.in-None.ensures.taken (omega (arith, c.requires.need, m.slots))

pub returns-clause-tells : goal.returns-clause-tells
returns-clause-tells c = tells_same c.args.recorder.now.seat c.create.new.seat c.create.ensures.kept c.create.ensures.same_left
