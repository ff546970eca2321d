use Rattle.std.proofs.Common.{◌∙◌, ap}
use Rattle.std.specs.Prelude.{Some}
use Rattle.basics.specs.Words.{contents}
use Rattle.flow_top.specs.FlowText.{other_word}
use Rattle.explain_text.specs.Unread.{mark_text}
use Rattle.explain_text.proofs.Public.{put_as, puts_as, then_puts}
use Rattle.explain_top.specs.Flows.{other_rule}
use Rattle.explain_top.proofs.flows.put_marked.Goals as goal

pub returns : goal.returns
returns c =
    let ws = contents c.args.words.now in
    let mark = mark_text c.args.number c.args.line.now ws in
    then_puts c.put.result _ _ _ (mark (Some (other_word ws))) _ (put_as _ _ _ _ (ap (λ k. mark (Some k)) c.other_word-place.ensures) c.in_ok-put_mark.ensures)
    (puts_as c.put.result _ _ _ _ (c.other_rule.ensures ∙ ap other_rule c.has_event_verb-event.ensures) c.put.ensures)
