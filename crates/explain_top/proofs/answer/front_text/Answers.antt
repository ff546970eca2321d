use Rattle.basics.specs.Words.{contents}
use Rattle.explain_text.specs.Front.{behind}
use Rattle.explain_top.proofs.Carried.{all_lines, by_all}
use Rattle.explain_top.proofs.answer.front_text.Goals as goal

pub returns : goal.returns
returns c =
    let front = c.in_ok-front.front in
    by_all c.put_unread_text.result front.rest _ _ _ _ _ (all_lines c.in_ok-lines.lines (contents front.lines.items) (behind front.rest) c.args.all c.args.bytes.now c.in_ok-lines.ensures c.in_ok-front.ensures) c.put_unread_text.ensures
