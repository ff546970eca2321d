use Rattle.flow_order.proofs.ShownSteps.{bits_shown}
use Rattle.flow_order.proofs.bits.shown_bits.Goals as goal

pub returns : goal.returns
returns c = bits_shown c.args.word c.args.hidden c.args.place c.requires c.ranges.hidden.fits
