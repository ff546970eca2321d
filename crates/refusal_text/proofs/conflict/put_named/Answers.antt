use Rattle.std.proofs.Common.{ap, sym, ◌∙◌}
use Rattle.refusal_text.specs.Refused.{in_sections}
use Rattle.refusal_text.proofs.RefusalFacts.{named_none}
use Rattle.explain_text.proofs.Public.{put_as, puts_as, then_puts}
use Rattle.refusal_text.proofs.conflict.put_named.Goals as goal

pub returns : goal.returns
returns c =
    let g = c.args.graph.now in
    let ls = c.args.lines.now in
    let x = c.args.reason.now in
    let r = c.put_in_sections-2.result in
    puts_as r _ _ _ _ (named_none g ls x.sections x.first x.second x.advice (sym c.is_some.ensures ∙ c.if-is_some.false))
    (then_puts r _ _ _ (in_sections g ls x.first x.sections.first.items) _ (put_as _ _ _ _ (ap (in_sections g ls x.first) c.as_slice.ensures.value) c.in_ok-put_in_sections.ensures)
    (puts_as r _ _ _ (in_sections g ls x.second x.sections.second.items) (ap (in_sections g ls x.second) c.as_slice-2.ensures.value) c.put_in_sections-2.ensures))
