use Rattle.std.proofs.Common.{◌++◌, ◌∙◌, ap, sym, subst}
use Rattle.std.specs.Prelude.{Option}
use Rattle.basics.specs.Words.{contents}
use Rattle.graph_terms.specs.Graph.{GraphValue}
use Rattle.explain_text.specs.Front.{behind}
use Rattle.explain_text.specs.Unread.{unread_text}
use Rattle.explain_top.specs.Answer.{IsUnreadText}
use Rattle.explain_top.specs.Missing.{with_lines}
use Rattle.explain_top.proofs.Carried.{unread_none, unread_some}
use Rattle.explain_top.proofs.answer.put_unread_text.Goals as goal

pub returns-in_ok-missing-in-Some : goal.returns-in_ok-missing-in-Some
returns-in_ok-missing-in-Some c told =
    let u = c.args.unread.now in
    let ps = contents c.pieces.result.now in
    subst (λ (a : Option GraphValue). IsUnreadText (with_lines c.args.lines.now (behind c.args.rest)) u.number u.why a c.put_behind.new.text) (sym c.in-Some.is)
    (unread_some c.args.lines.now (behind c.args.rest) u.number u.why c.requires ps ps c.put_unread.new.text c.put_behind.new.text c.pieces.ensures
    (c.in_ok-put_unread.ensures ∙ ap (λ z. z ++ unread_text ps u.number u.why) c.new-text.ensures) c.in-Some.graph (c.in_ok-missing-in-Some.ensures told))

pub returns-in_ok-put_first-in-None : goal.returns-in_ok-put_first-in-None
returns-in_ok-put_first-in-None c told =
    let u = c.args.unread.now in
    let ps = contents c.pieces.result.now in
    let qs = contents c.pieces-in-None.result.now in
    subst (λ (a : Option GraphValue). IsUnreadText (with_lines c.args.lines.now (behind c.args.rest)) u.number u.why a c.put_first.new.text) (sym c.in-None.is)
    (unread_none c.args.lines.now (behind c.args.rest) u.number u.why c.requires ps qs c.put_unread.new.text c.put_first.new.text c.pieces.ensures
    (c.in_ok-put_unread.ensures ∙ ap (λ z. z ++ unread_text ps u.number u.why) c.new-text.ensures) c.pieces-in-None.ensures c.in_ok-put_first-in-None.ensures)
