use Rattle.std.proofs.Common.{◌∙◌, ap, take}
use Rattle.refusal_text.specs.declared.bounds.TheConstants.{MAX_SECTIONS}
use Rattle.refusal_text.specs.Refused.{pairs_text}
use Rattle.explain_text.proofs.Public.{puts_as}
use Rattle.refusal_text.proofs.conflict.put_turns.Goals as goal

pub returns : goal.returns
returns c =
    let g = c.args.graph.now in
    let ls = c.args.lines.now in
    let qs = c.args.sections.now.first.items in
    puts_as c.put_pairs.result _ _ _ _ (ap (λ xs. pairs_text g ls xs c.first_few-2.result.now) (c.first_few.ensures ∙ ap (take MAX_SECTIONS) c.as_slice.ensures.value) ∙ ap (pairs_text g ls (take MAX_SECTIONS qs)) (c.first_few-2.ensures ∙ ap (take MAX_SECTIONS) c.as_slice-2.ensures.value)) c.put_pairs.ensures
