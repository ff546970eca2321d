use Rattle.std.proofs.Common.{sym, ◌∙◌}
use Rattle.std.proofs.lemmas.Bool.{true≢false}
use Rattle.run_core.proofs.work.Work.perform_with.Goals as goal

pub returns-clause-finished : goal.returns-clause-finished
returns-clause-finished c = λ core is_core hosted graph is. c.perform_by.ensures.finished core is_core (λ e. absurd (true≢false (sym hosted ∙ e))) graph is
