use Rattle.std.specs.Prelude.{codes}
use Rattle.explain_text.specs.Lines.{by_number}
use Rattle.explain_text.proofs.Public.{then_puts}
use Rattle.refusal_text.proofs.conflict.put_turn.Goals as goal

pub returns : goal.returns
returns c =
    let g = c.args.graph.now in
    let ls = c.args.lines.now in
    let r = c.put-2.result in
    then_puts r _ _ _ (by_number g ls c.args.one) _ c.in_ok-put_by_number.ensures
    (then_puts r _ _ _ (codes " and ") _ c.in_ok-put.ensures
    (then_puts r _ _ _ (by_number g ls c.args.other) (codes " acquire one reservation: it keeps their sections apart, and does not order them\n") c.in_ok-put_by_number-2.ensures c.put-2.ensures))
