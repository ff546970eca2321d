use Rattle.std.proofs.Common.{sym}
use Rattle.std.proofs.lemmas.Bool.{true≢false}
use Rattle.tried_advice.proofs.RuleFacts.{other_breaks}
use Rattle.tried_advice.proofs.orders.holds_but_races.Goals as goal

pub returns : goal.returns
returns c = ((λ f. absurd (true≢false (sym f))), (λ holds. absurd (other_breaks c.args.graph c.in-Err.unfit.why c.in-Err.ensures.refused c.in_default.not-Race c.in_default.not-NoMemory holds)))
