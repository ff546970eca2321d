use Rattle.std.proofs.Common.{[], ◌∷◌}
use Rattle.realm_session.proofs.Telling.{tells_more, tells_same}
use Rattle.realm_session.proofs.session.Session.settle.Goals as goal

pub returns-in-Some-clause-tells : goal.returns-in-Some-clause-tells
returns-in-Some-clause-tells c = tells_same c.args.seat.now c.end-receipt.new.seat c.end-receipt.ensures.kept c.end-receipt.ensures.same_left

pub returns-in-None-clause-tells : goal.returns-in-None-clause-tells
returns-in-None-clause-tells c = tells_more c.args.seat.now c.leave.new.seat (c.leave.result ∷ []) c.leave.ensures.kept c.leave.ensures.more_left
