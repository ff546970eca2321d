use Rattle.std.proofs.Common.{refl, subst, inl}
use Rattle.std.specs.Prelude.{Some}
use Rattle.flow_top.specs.FlowText.{IsFirstUnlikeFlow}
use Rattle.flow_top.proofs.Public.{unread_fault}
use Rattle.flow_top.proofs.reading.refused_reading.Goals as goal

pub returns-in-Some : goal.returns-in-Some
returns-in-Some c =
    let text = c.args.text.now in
    let u = c.args.unread in
    inl (record {
      last = u.number;
      graph_reason = u.why;
      refused = unread_fault text u.number u.why u.above c.requires;
      line = c.in-Some.line;
      other = subst (λ n. IsFirstUnlikeFlow text n (Some c.in-Some.line)) c.judged_lines.ensures (subst (IsFirstUnlikeFlow text c.judged_lines.result) c.in-Some.is c.in_ok-line.ensures);
      number_is = refl;
      reason_is = refl;
    })
