use Rattle.run_handles.proofs.Endings.{evaluated_fits}
use Rattle.std.specs.Arc.{arc_value}
use Rattle.run_handles.proofs.token.Over.fits.Goals as goal

pub returns-clause-fits : goal.returns-clause-fits
returns-clause-fits c = evaluated_fits (arc_value c.args.self.now.graph).graph c.args.self.now.found c.args.self.now.evaluated
