use Rattle.std.proofs.Common.{sym}
use Rattle.std.proofs.lemmas.Bool.{true≢false}
use Rattle.realm_audit.proofs.sections.Sections.is_beside.Goals as goal

pub returns-in-None : goal.returns-in-None
returns-in-None c = ((λ e. absurd (true≢false (sym e))), (λ b. absurd (c.in-None.ensures c.args.lock b.acquires)))
