use Rattle.std.specs.Prelude.{codes}
use Rattle.explain_text.specs.Lines.{numbered}
use Rattle.refusal_text.specs.Refused.{refused_two, shared_text, meeting_text, advice_text, sections_text}
use Rattle.explain_text.proofs.Public.{then_puts}
use Rattle.refusal_text.proofs.conflict.put_conflict.Goals as goal

pub returns : goal.returns
returns c =
    let g = c.args.graph.now in
    let ls = c.args.lines.now in
    let r = c.put_topmost.result in
    (then_puts r _ _ _ (refused_two g (codes "race") c.args.reason.now.first c.args.reason.now.second) _ c.in_ok-put_refused_two.ensures
    (then_puts r _ _ _ (numbered g ls c.args.reason.now.first) _ c.in_ok-put_numbered.ensures
    (then_puts r _ _ _ (numbered g ls c.args.reason.now.second) _ c.in_ok-put_numbered-2.ensures
    (then_puts r _ _ _ (shared_text g ls c.args.reason.now.race.shared c.args.reason.now.first c.args.reason.now.second) _ c.in_ok-put_shared.ensures
    (then_puts r _ _ _ (codes "neither waits for the other\n") _ c.in_ok-put.ensures
    (then_puts r _ _ _ (meeting_text g ls c.args.reason.now.race.meeting) _ c.in_ok-put_meeting.ensures
    (then_puts r _ _ _ (advice_text g ls c.args.reason.now.advice) _ c.in_ok-put_advice.ensures
    (then_puts r _ _ _ (sections_text g ls c.args.reason.now) _ c.in_ok-put_sections.ensures
    c.put_topmost.ensures))))))))
