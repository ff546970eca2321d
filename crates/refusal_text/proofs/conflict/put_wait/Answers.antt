use Rattle.std.proofs.Common.{ap}
use Rattle.std.specs.Prelude.{codes}
use Rattle.explain_text.specs.Lines.{by_number}
use Rattle.refusal_text.specs.Refused.{advice_by, on_of}
use Rattle.explain_text.proofs.Public.{puts_as, then_puts}
use Rattle.refusal_text.proofs.conflict.put_wait.Goals as goal

pub returns : goal.returns
returns c =
    let g = c.args.graph.now in
    let ls = c.args.lines.now in
    let r = c.put_advice_by.result in
    then_puts r _ _ _ (by_number g ls c.args.line) _ c.in_ok-put_by_number.ensures
    (then_puts r _ _ _ (codes " ") _ c.in_ok-put.ensures
    (puts_as r c.put.new.self c.put_advice_by.new.text (advice_by g c.on_of.result.now c.args.event) (advice_by g (on_of g c.args.line) c.args.event) (ap (λ o. advice_by g o c.args.event) c.on_of.ensures) c.put_advice_by.ensures))
