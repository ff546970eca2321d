use Rattle.std.specs.Prelude.{codes, decimal}
use Rattle.explain_text.proofs.TextFacts.{then_puts}
use Rattle.explain_text.proofs.unread.put_passed.Goals as goal

pub returns : goal.returns
returns c =
    let r = c.put-4.result in
    let p = c.args.quantity in
    then_puts r _ _ _ p.name.now _ c.in_ok-put.ensures (then_puts r _ _ _ (codes ": ") _ c.in_ok-put-2.ensures (then_puts r _ _ _ (decimal p.value) _ c.in_ok-put_number.ensures
    (then_puts r _ _ _ (codes ", and at most ") _ c.in_ok-put-3.ensures (then_puts r _ _ _ (decimal p.bound) (codes "\n") c.in_ok-put_number-2.ensures c.put-4.ensures))))
