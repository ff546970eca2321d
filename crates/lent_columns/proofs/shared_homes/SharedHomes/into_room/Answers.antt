use Rattle.std.proofs.Common.{arith}
use Rattle.lent_columns.proofs.ShownFacts.{room_for}
use Rattle.lent_columns.proofs.shared_homes.SharedHomes.into_room.Goals as goal

pub returns : goal.returns
returns c = let s = c.self.inside in let room = room_for s.homes s.lent.items c.args.self c.self.view_is c.self.invariant in omega (arith, room, s.lent.ok.0, s.lent.ok.1)
