use Rattle.std.proofs.Common.{subst}
use Rattle.run_core.specs.Core.{IsCore}
use Rattle.run_core.proofs.SlotFacts.{none_retired}
use Rattle.run_core.proofs.run.Core.is_sound.Goals as goal

pub returns-clause-none_retired : goal.returns-clause-none_retired
returns-clause-none_retired c left i = none_retired c.args.self.now (subst IsCore c.self.view_is c.self.invariant.core) left i
