use Rattle.std.proofs.Common.{arith}
use Rattle.index_spaces.proofs.HeldFacts.{none_numbered}
use Rattle.index_spaces.proofs.held.place_of.Goals as goal

pub returns : goal.returns
returns c = none_numbered c.args.places.now c.args.c (λ j h. c.loop-k.invariant j (omega arith))
