use Rattle.std.proofs.Common.{[], refl, inl, subst}
use Rattle.std.proofs.lemmas.List.{append-nil}
use Rattle.graph_words.specs.Words.{pieces}
use Rattle.explain_text.specs.TextLines.{TextLines}
use Rattle.explain_top.specs.Answer.{IsUnreadText}
use Rattle.explain_top.proofs.Carried.{all_lines}
use Rattle.explain_top.proofs.answer.whole_text.Goals as goal

pub returns : goal.returns
returns c =
    let u = c.args.unread.now in
    let ps = pieces 10 c.args.bytes.now in
    subst (λ (l : TextLines). IsUnreadText l u.number u.why u.above c.in_ok-told.told.text) (all_lines c.in_ok-lines.lines ps [] c.args.all c.args.bytes.now c.in_ok-lines.ensures (append-nil ps)) (c.in_ok-told.ensures (inl refl))
