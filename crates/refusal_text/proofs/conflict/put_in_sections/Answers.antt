use Rattle.std.proofs.Common.{◌∙◌, sym}
use Rattle.std.specs.Prelude.{codes}
use Rattle.explain_text.specs.Lines.{by_number}
use Rattle.refusal_text.specs.Refused.{few_lines_text}
use Rattle.explain_text.proofs.Public.{puts_as, then_puts}
use Rattle.refusal_text.proofs.RefusalFacts.{in_none, in_some}
use Rattle.refusal_text.proofs.conflict.put_in_sections.Goals as goal

pub returns-then-is_empty : goal.returns-then-is_empty
returns-then-is_empty c =
    let g = c.args.graph.now in
    let ls = c.args.lines.now in
    puts_as c.put.result _ _ _ _ (in_none g ls c.args.line c.args.acquires.now (sym c.is_empty.ensures ∙ c.if-is_empty.true))
    (then_puts c.put.result _ _ _ (by_number g ls c.args.line) (codes " lies in no section\n") c.in_ok-put_by_number.ensures c.put.ensures)

pub returns : goal.returns
returns c =
    let g = c.args.graph.now in
    let ls = c.args.lines.now in
    let r = c.put_few_lines.result in
    puts_as r _ _ _ _ (in_some g ls c.args.line c.args.acquires.now (sym c.is_empty.ensures ∙ c.if-is_empty.false))
    (then_puts r _ _ _ (by_number g ls c.args.line) _ c.in_ok-put_by_number.ensures (then_puts r _ _ _ (codes " lies in the section of\n") (few_lines_text g ls c.args.acquires.now) c.in_ok-put.ensures c.put_few_lines.ensures))
