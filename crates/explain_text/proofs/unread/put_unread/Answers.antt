use Rattle.std.proofs.Common.{ap, ◌∙◌}
use Rattle.std.specs.Prelude.{codes, decimal}
use Rattle.graph_terms.specs.Spelling.{why_word}
use Rattle.explain_text.specs.Shown.{shown}
use Rattle.explain_text.proofs.TextFacts.{then_puts, put_as}
use Rattle.explain_text.proofs.unread.put_unread.Goals as goal

pub returns : goal.returns
returns c =
    let r = c.put-6.result in
    (then_puts r _ _ _ (codes "refused line ") _ c.in_ok-put.ensures
    (then_puts r _ _ _ (decimal c.args.number) _ (put_as _ _ _ _ (ap decimal c.from.ensures) c.in_ok-put_number.ensures)
    (then_puts r _ _ _ (codes " ") _ c.in_ok-put-2.ensures
    (then_puts r _ _ _ (why_word c.args.why) _ (put_as _ _ _ _ (c.as_bytes.ensures.value ∙ c.word.ensures) c.in_ok-put-3.ensures)
    (then_puts r _ _ _ (codes "\nline ") _ c.in_ok-put-4.ensures
    (then_puts r _ _ _ (decimal c.args.number) _ (put_as _ _ _ _ (ap decimal c.from-2.ensures) c.in_ok-put_number-2.ensures)
    (then_puts r _ _ _ (codes ": ") _ c.in_ok-put-5.ensures
    (then_puts r _ _ _ _ _ (put_as _ _ _ _ (ap shown c.line_at.ensures) c.in_ok-put_shown.ensures)
    c.put-6.ensures))))))))
