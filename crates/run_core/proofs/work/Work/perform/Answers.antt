use Rattle.std.proofs.Common.{refl}
use Rattle.run_core.proofs.work.Work.perform.Goals as goal

pub returns-clause-finished : goal.returns-clause-finished
returns-clause-finished c = λ core is_core graph is. c.perform_by.ensures.finished core is_core (λ _. refl) graph is
