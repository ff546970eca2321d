use Rattle.std.proofs.Common.{ap}
use Rattle.std.specs.Prelude.{codes, decimal}
use Rattle.explain_text.specs.Lines.{by_number}
use Rattle.refusal_text.specs.Refused.{any_column_name, mode_word}
use Rattle.explain_text.proofs.Public.{put_as, then_puts}
use Rattle.refusal_text.proofs.conflict.put_shared.Goals as goal

pub returns : goal.returns
returns c =
    let g = c.args.graph.now in
    let ls = c.args.lines.now in
    let r = c.put-9.result in
    (then_puts r _ _ _ (codes "both use column ") _ c.in_ok-put.ensures
    (then_puts r _ _ _ (any_column_name g c.args.shared.now.one.column) _ c.in_ok-put_column.ensures
    (then_puts r _ _ _ (codes " at point ") _ c.in_ok-put-2.ensures
    (then_puts r _ _ _ (decimal c.args.shared.now.point) _ (put_as _ _ _ _ (ap decimal c.from.ensures) c.in_ok-put_number.ensures)
    (then_puts r _ _ _ (codes ": ") _ c.in_ok-put-3.ensures
    (then_puts r _ _ _ (by_number g ls c.args.first) _ c.in_ok-put_by_number.ensures
    (then_puts r _ _ _ (codes " ") _ c.in_ok-put-4.ensures
    (then_puts r _ _ _ (mode_word c.args.shared.now.one.mode) _ (put_as _ _ _ _ c.mode_word.ensures c.in_ok-put-5.ensures)
    (then_puts r _ _ _ (codes " it, ") _ c.in_ok-put-6.ensures
    (then_puts r _ _ _ (by_number g ls c.args.second) _ c.in_ok-put_by_number-2.ensures
    (then_puts r _ _ _ (codes " ") _ c.in_ok-put-7.ensures
    (then_puts r _ _ _ (mode_word c.args.shared.now.other.mode) _ (put_as _ _ _ _ c.mode_word-2.ensures c.in_ok-put-8.ensures)
    c.put-9.ensures))))))))))))
