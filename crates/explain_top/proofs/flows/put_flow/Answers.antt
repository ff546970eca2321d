use Rattle.std.proofs.Common.{◌≡◌, ap}
use Rattle.std.specs.Prelude.{length, codes, decimal}
use Rattle.explain_text.proofs.Public.{put_as, then_puts}
use Rattle.explain_top.proofs.flows.put_flow.Goals as goal

pub returns : goal.returns
returns c =
    let decls : c.from.result ≡ length c.args.flow.now.decls = cc in
    let lines : c.from-2.result ≡ length c.args.flow.now.lines = cc in
    then_puts c.put-3.result _ _ _ (codes "accepted flow\ndeclarations: ") _ c.in_ok-put.ensures
    (then_puts c.put-3.result _ _ _ (decimal (length c.args.flow.now.decls)) _ (put_as _ _ _ _ (ap decimal decls) c.in_ok-put_number.ensures)
    (then_puts c.put-3.result _ _ _ (codes ", operations: ") _ c.in_ok-put-2.ensures
    (then_puts c.put-3.result _ _ _ (decimal (length c.args.flow.now.lines)) _ (put_as _ _ _ _ (ap decimal lines) c.in_ok-put_number-2.ensures) c.put-3.ensures)))
