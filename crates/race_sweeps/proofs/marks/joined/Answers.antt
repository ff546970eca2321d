use Rattle.sweep_base.proofs.Public.{or_old, or_new}
use Rattle.race_sweeps.proofs.marks.joined.Goals as goal

pub returns-clause-old : goal.returns-clause-old
returns-clause-old c b h = or_old c.args.mark.word c.args.word b h

pub returns-clause-new : goal.returns-clause-new
returns-clause-new c b h = or_new c.args.mark.word c.args.word b h
