use Rattle.std.proofs.Common.{◌∙◌, ap, take}
use Rattle.std.specs.Prelude.{codes}
use Rattle.refusal_text.specs.declared.bounds.TheConstants.{MAX_SECTIONS}
use Rattle.refusal_text.specs.Refused.{in_sections, pairs_text, have_pair, none_text}
use Rattle.explain_text.proofs.Public.{put_as, puts_as, then_puts}
use Rattle.refusal_text.proofs.conflict.put_apart.Goals as goal

pub returns : goal.returns
returns c =
    let g = c.args.graph.now in
    let ls = c.args.lines.now in
    let qs = c.args.sections.now.first.items in
    let ks = c.args.sections.now.second.items in
    let r = c.put_unless.result in
    (then_puts r _ _ _ (codes "sections of one reservation would set them apart, by an acquire for each, not both shared\n") _ c.in_ok-put.ensures
    (then_puts r _ _ _ (in_sections g ls c.args.first qs) _ (put_as _ _ _ _ (ap (in_sections g ls c.args.first) c.as_slice.ensures.value) c.in_ok-put_in_sections.ensures)
    (then_puts r _ _ _ (in_sections g ls c.args.second ks) _ (put_as _ _ _ _ (ap (in_sections g ls c.args.second) c.as_slice-2.ensures.value) c.in_ok-put_in_sections-2.ensures)
    (then_puts r _ _ _ (pairs_text g ls (take MAX_SECTIONS qs) (take MAX_SECTIONS ks)) (none_text (have_pair g qs ks))
    (put_as _ _ _ _ (ap (λ xs. pairs_text g ls xs c.first_few-2.result.now) (c.first_few.ensures ∙ ap (take MAX_SECTIONS) c.as_slice-3.ensures.value) ∙ ap (pairs_text g ls (take MAX_SECTIONS qs)) (c.first_few-2.ensures ∙ ap (take MAX_SECTIONS) c.as_slice-4.ensures.value)) c.in_ok-put_pairs.ensures)
    (puts_as r _ _ (none_text c.have_pair.result) (none_text (have_pair g qs ks)) (ap none_text (c.have_pair.ensures ∙ (ap (λ xs. have_pair g xs c.as_slice-6.result.now) c.as_slice-5.ensures.value ∙ ap (have_pair g qs) c.as_slice-6.ensures.value))) c.put_unless.ensures)))))
