use Rattle.std.proofs.Common.{ap, ◌∙◌}
use Rattle.std.specs.Prelude.{codes}
use Rattle.explanations.specs.Reaches.{end_at}
use Rattle.explain_graph.specs.Causes.{cause_in}
use Rattle.explain_text.specs.Lines.{by_number, cause_word}
use Rattle.explain_text.specs.Accepted.{and_line, fault_word}
use Rattle.explain_text.proofs.TextFacts.{then_puts, put_as}
use Rattle.explain_text.proofs.accepted.put_cancelled_by.Goals as goal

pub returns-in_ok-put-in-Some-5 : goal.returns-in_ok-put-in-Some-5
returns-in_ok-put-in-Some-5 c =
    let g = c.args.graph.now in
    let ls = c.args.lines.now in
    let r = c.put_line-in-Some.result in
    let word = put_as _ _ _ _ (c.cause_word.ensures ∙ ap cause_word c.cause_of-cause.ensures.value) c.in_ok-put-in-Some-3.ensures in
    let fault = put_as _ _ _ _ (c.fault_word-in-Some.ensures ∙ ap fault_word c.end_at-in-Some.ensures) c.in_ok-put-in-Some-5.ensures in
    rw c.in-Some.is
    (then_puts r _ _ _ (by_number g ls c.args.i) _ c.in_ok-put_by_number-in-Some.ensures (then_puts r _ _ _ (codes " is cancelled by ") _ c.in_ok-put-in-Some.ensures
    (then_puts r _ _ _ (by_number g ls c.in-Some.edge.from) _ c.in_ok-put_by_number-in-Some-2.ensures (then_puts r _ _ _ (codes " (") _ c.in_ok-put-in-Some-2.ensures
    (then_puts r _ _ _ (cause_word (cause_in g c.in-Some.edge)) _ word (then_puts r _ _ _ (codes "), and ") _ c.in_ok-put-in-Some-4.ensures
    (then_puts r _ _ _ (by_number g ls c.args.start) _ c.in_ok-put_by_number-in-Some-3.ensures (then_puts r _ _ _ (fault_word (end_at c.args.ends.now c.args.start)) (and_line g ls c.args.i) fault c.put_line-in-Some.ensures))))))))
