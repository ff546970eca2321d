use Rattle.std.proofs.Common.{rules, ◌∙◌, ap}
use Rattle.std.specs.Prelude.{filter, not}
use Rattle.std.proofs.lemmas.Fn.{filter_same}
use Rattle.flow_order.specs.Bits.{word_bit}
use Rattle.flow_order.proofs.UseSteps.{rest_filtered}
use Rattle.flow_order.proofs.uses.leave_out.Goals as goal

pub returns-in-Some : goal.returns-in-Some
returns-in-Some c = rest_filtered c.args.reaching.now c.args.lines.now c.retain.new.self.items (filter_same _ (λ i. not (word_bit c.args.reaching.now i)) _ (λ x b f' k. search rules) _ _ c.retain.ensures.filtered ∙ ap (filter (λ i. not (word_bit c.args.reaching.now i))) c.lines.view_is)
