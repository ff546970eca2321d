use Rattle.std.proofs.Common.{sym, ◌∙◌, refl}
use Rattle.std.proofs.lemmas.Bool.{true≢false}
use Rattle.std.proofs.lemmas.Option.{same_Some}
use Rattle.graph_terms.specs.declared.outcome.End.TheVariants.{Waiting}
use Rattle.realm_audit.proofs.ends.waits.Goals as goal

pub returns-in-Waiting : goal.returns-in-Waiting
returns-in-Waiting c = ((λ h. c.in-Waiting.ensures), (λ h. refl))

pub returns-in_default : goal.returns-in_default
returns-in_default c = ((λ h. absurd (true≢false (sym h))), (λ h. absurd (c.in_default.not-Waiting (same_Some c.at.result Waiting (sym c.at.ensures ∙ h)))))
