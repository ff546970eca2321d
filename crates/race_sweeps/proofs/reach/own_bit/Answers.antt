use Rattle.std.proofs.Common.{◌-◌, arith}
use Rattle.race_sweeps.proofs.SliceBits.{own_is}
use Rattle.race_sweeps.proofs.reach.own_bit.Goals as goal

pub returns : goal.returns
returns c b h set = let s = own_is c.args.targets (c.args.place - c.args.first) b (omega (arith, c.requires)) set in omega (arith, s)
