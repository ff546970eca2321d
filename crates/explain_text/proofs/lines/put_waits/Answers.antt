use Rattle.std.proofs.Common.{◌++◌, ◌∙◌, ap}
use Rattle.std.specs.Prelude.{codes}
use Rattle.explain_text.specs.Lines.{by_number, cause_word}
use Rattle.explain_graph.specs.Causes.{cause_in}
use Rattle.explain_text.proofs.TextFacts.{then_puts}
use Rattle.explain_text.proofs.lines.put_waits.Goals as goal

pub returns : goal.returns
returns c =
    let g = c.args.graph.now in
    let ls = c.args.lines.now in
    let e = c.args.edge in
    let r = c.put-4.result in
    let word = c.in_ok-put-3.ensures ∙ ap (λ z. c.put-2.new.self ++ z) (c.cause_word.ensures ∙ ap cause_word c.cause_of-cause.ensures.value) in
    then_puts r _ _ _ (by_number g ls e.to) _ c.in_ok-put_by_number.ensures (then_puts r _ _ _ (codes " waits for ") _ c.in_ok-put.ensures (then_puts r _ _ _ (by_number g ls e.from) _ c.in_ok-put_by_number-2.ensures
    (then_puts r _ _ _ (codes " (") _ c.in_ok-put-2.ensures (then_puts r _ _ _ (cause_word (cause_in g e)) (codes ")") word c.put-4.ensures))))
