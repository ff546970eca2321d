use Rattle.std.proofs.Common.{◌∙◌, ap, refl}
use Rattle.std.specs.Prelude.{◌++◌}
use Rattle.explain_top.specs.Answer.{asked}
use Rattle.explain_top.proofs.FlowFacts.{refused_whole}
use Rattle.explain_top.proofs.flows.answer_refused.Goals as goal

pub returns : goal.returns
returns c = refused_whole c.args.all c.args.bytes.now c.in_ok-text.text c.put.new.self (asked c.args.all c.args.bytes.now) c.args.unread.now refl c.requires c.in_ok-text.ensures (c.in_ok-put.ensures ∙ ap (λ z. c.in_ok-text.text ++ z) c.flow_rule.ensures)
