use Rattle.std.proofs.Common.{[], ◌∙◌, ap, sym, refl}
use Rattle.std.specs.Prelude.{find, slice_index_or, codes}
use Rattle.std.specs.List.{list_any}
use Rattle.std.specs.Str.{bytes_eq}
use Rattle.std.proofs.lemmas.Bool.{or_parts}
use Rattle.basics.specs.Words.{contents}
use Rattle.graph_terms.specs.declared.table.TheConstants.{KINDS}
use Rattle.graph_words.specs.Draft.{form_of, is_of_form}
use Rattle.graph_reader.proofs.Public.{line_kind}
use Rattle.basics.proofs.TestedLists.{found_passes}
use Rattle.refused_words.specs.Refused.{draft_accesses, leaves_column}
use Rattle.refused_words.proofs.UseFacts.{merged_none}
use Rattle.refused_words.proofs.outside.in_line.Goals as goal

pub in_form-requires : goal.in_form-requires
in_form-requires c = let ws = contents c.args.words.now in found_passes (λ k. is_of_form (c.args.graph.now).format ws (form_of k)) KINDS c.in-Some.kind (ap (λ fm. find (λ k. is_of_form fm ws (form_of k)) KINDS) (sym c.format.ensures) ∙ sym c.in-Some.ensures)

pub returns-then-is_merge : goal.returns-then-is_merge
returns-then-is_merge c = λ name. sym (ap (list_any (leaves_column c.args.graph.now c.args.column)) (merged_none c.args.graph.now name (contents c.args.words.now) (sym c.is_merge.ensures ∙ c.if-is_merge.true)))

pub returns-in-Some : goal.returns-in-Some
returns-in-Some c =
    let g = c.args.graph.now in
    let ws = contents c.args.words.now in
    let other = or_parts (bytes_eq (slice_index_or ws 0 []) (codes "merge")) (bytes_eq (slice_index_or ws 0 []) (codes "mergei")) (sym c.is_merge.ensures ∙ c.if-is_merge.false) in
    λ name. c.in_form.ensures name
    ∙ ap (λ o. list_any (leaves_column g c.args.column) (draft_accesses o))
    (sym (line_kind g name ws (slice_index_or ws 0 []) _ refl other.0 other.1 (sym c.is_call.ensures ∙ c.if-is_call.false) (ap (λ fm. find (λ k. is_of_form fm ws (form_of k)) KINDS) (sym c.format.ensures) ∙ sym c.in-Some.ensures)))

pub returns-in-None : goal.returns-in-None
returns-in-None c =
    let g = c.args.graph.now in
    let ws = contents c.args.words.now in
    let other = or_parts (bytes_eq (slice_index_or ws 0 []) (codes "merge")) (bytes_eq (slice_index_or ws 0 []) (codes "mergei")) (sym c.is_merge.ensures ∙ c.if-is_merge.false) in
    λ name. ap (λ o. list_any (leaves_column g c.args.column) (draft_accesses o))
    (sym (line_kind g name ws (slice_index_or ws 0 []) _ refl other.0 other.1 (sym c.is_call.ensures ∙ c.if-is_call.false) (ap (λ fm. find (λ k. is_of_form fm ws (form_of k)) KINDS) (sym c.format.ensures) ∙ sym c.in-None.ensures)))
