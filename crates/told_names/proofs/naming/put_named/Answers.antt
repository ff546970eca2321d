use Rattle.std.specs.Prelude.{codes}
use Rattle.basics.specs.Words.{contents}
use Rattle.explain_text.specs.Shown.{shown}
use Rattle.told_names.specs.Named.{place_text}
use Rattle.explain_text.proofs.Public.{then_puts}
use Rattle.told_names.proofs.naming.put_named.Goals as goal

pub returns : goal.returns
returns c =
    let r = c.put_place.result in
    rw c.in-Some.is
    (then_puts r _ _ _ (shown c.args.word.now.word.now) _ c.in_ok-put_shown.ensures (then_puts r _ _ _ (codes " is given by line ") (place_text (contents c.args.lines.now) c.args.word.now.word.now c.in-Some.place) c.in_ok-put.ensures c.put_place.ensures))
