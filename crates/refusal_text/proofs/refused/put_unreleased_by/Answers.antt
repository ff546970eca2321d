use Rattle.std.proofs.Common.{ap}
use Rattle.std.specs.Prelude.{codes}
use Rattle.explain_text.specs.Lines.{numbered}
use Rattle.explain_text.proofs.Public.{puts_as, then_puts}
use Rattle.refusal_text.specs.Refused.{bare_text}
use Rattle.refusal_text.proofs.refused.put_unreleased_by.Goals as goal

pub returns : goal.returns
returns c =
    let r = c.put_bare.result in
    let g = c.args.graph.now in
    let k = c.in-Some.release in
    rw c.in-Some.is
    (then_puts r _ _ _ (codes "its release does not wait for it:\n") _ c.in_ok-put.ensures
    (then_puts r _ _ _ (numbered g c.args.lines.now k) _ c.in_ok-put_numbered.ensures (puts_as r _ _ _ _ (ap (bare_text g k c.args.acquire) c.on_of.ensures) c.put_bare.ensures)))
