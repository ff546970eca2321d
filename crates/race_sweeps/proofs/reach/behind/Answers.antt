use Rattle.std.proofs.Common.{◌-◌, arith}
use Rattle.race_sweeps.proofs.SliceBits.{later_bit, all_bits}
use Rattle.race_sweeps.proofs.reach.behind.Goals as goal

pub returns-then-place-first : goal.returns-then-place-first
returns-then-place-first c b h up = all_bits b h

pub returns : goal.returns
returns c b h up = later_bit (c.args.place - c.args.first) b (omega (arith, c.requires)) h (omega arith)
