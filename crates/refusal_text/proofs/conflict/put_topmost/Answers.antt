use Rattle.std.specs.Prelude.{codes}
use Rattle.explain_text.specs.Lines.{numbered}
use Rattle.explain_text.proofs.Public.{then_puts}
use Rattle.refusal_text.proofs.conflict.put_topmost.Goals as goal

pub returns : goal.returns
returns c =
    let g = c.args.graph.now in
    let ls = c.args.lines.now in
    let r = c.put_shared.result in
    rw c.in-Some.is (then_puts r _ _ _ (codes "going down the file, these race first:\n") _ c.in_ok-put.ensures
    (then_puts r _ _ _ (numbered g ls _) _ c.in_ok-put_numbered.ensures
    (then_puts r _ _ _ (numbered g ls _) _ c.in_ok-put_numbered-2.ensures
    c.put_shared.ensures)))
