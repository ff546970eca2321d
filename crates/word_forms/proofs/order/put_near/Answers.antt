use Rattle.std.specs.Prelude.{codes}
use Rattle.word_forms.specs.Order.{interval_text, gap_text}
use Rattle.word_forms.proofs.Parts.{then_puts}
use Rattle.word_forms.proofs.order.put_near.Goals as goal

pub returns : goal.returns
returns c =
    let r = c.put_gap.result in
    let i = c.args.one in
    let j = c.args.other in
    then_puts r _ _ _ (interval_text i.0 i.1) _ c.in_ok-put_interval.ensures
    (then_puts r _ _ _ (codes " and ") _ c.in_ok-put.ensures
    (then_puts r _ _ _ (interval_text j.0 j.1) (gap_text i j) c.in_ok-put_interval-2.ensures c.put_gap.ensures))
