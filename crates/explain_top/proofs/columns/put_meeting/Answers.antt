use Rattle.std.proofs.Common.{◌++◌, sym, subst}
use Rattle.std.specs.Prelude.{OnOk, codes, ◌≡◌}
use Rattle.basics.specs.Words.{contents}
use Rattle.explain_text.proofs.Public.{then_puts}
use Rattle.explain_top.specs.Columns.{told_access, meeting_text}
use Rattle.explain_top.proofs.columns.put_meeting.Goals as goal

pub returns : goal.returns
returns c =
    let r = c.put-2.result in
    let ws = contents c.args.words.now in
    subst (λ m. OnOk r (c.put-2.new.self ≡ c.args.text.now ++ meeting_text ws c.args.k m)) (sym c.in-Some.is)
    (then_puts r _ _ _ (told_access ws c.in-Some.j) _ c.in_ok-put_told_access.ensures
    (then_puts r _ _ _ (codes " and ") _ c.in_ok-put.ensures
    (then_puts r _ _ _ (told_access ws c.args.k) _ c.in_ok-put_told_access-2.ensures c.put-2.ensures)))
