use Rattle.std.proofs.Common.{◌≡◌, ◌≤◌, true, false, length, refl, sym, ◌∙◌, ap, arith}
use Rattle.std.specs.Prelude.{find, codes}
use Rattle.std.specs.Str.{bytes_eq}
use Rattle.std.proofs.lemmas.List.{length-map}
use Rattle.basics.specs.Words.{contents}
use Rattle.graph_terms.specs.declared.table.TheConstants.{KINDS}
use Rattle.graph_words.specs.Draft.{form_of, is_of_form}
use Rattle.graph_reader.proofs.LineShapes.{word_there}
use Rattle.graph_reader.proofs.Public.{line_kind, line_call}
use Rattle.basics.proofs.TestedLists.{found_passes}
use Rattle.refused_words.specs.Limits.{limit_in}
use Rattle.refused_words.proofs.FormFacts.{as_merge, as_mergei}
use Rattle.refused_words.proofs.limits.of_line.Goals as goal

pub of_form-requires : goal.of_form-requires
of_form-requires c = let ws = contents c.args.words.now in found_passes (λ k. is_of_form (c.args.graph.now).format ws (form_of k)) KINDS c.in-Some.kind (ap (λ fm. find (λ k. is_of_form fm ws (form_of k)) KINDS) (sym c.format.ensures) ∙ sym c.in-Some.ensures)

pub of_call-requires : goal.of_call-requires
of_call-requires c =
    let ws = contents c.args.words.now in
    let size : length ws ≡ length c.args.words.now = simp length-map in
    let some : 1 ≤ length ws = word_there ws c.word-verb.result.now (codes "call") c.word-verb.ensures (sym (c.if-eq-3.ensures ∙ ap (bytes_eq c.word-verb.result.now) c.as_slice-3.ensures)) refl in
    omega arith

pub returns-then-eq : goal.returns-then-eq
returns-then-eq c =
    λ name. c.of_merge.ensures name false ∙ ap (limit_in c.args.graph.now) (sym (as_merge c.args.graph.now name (contents c.args.words.now) c.word-verb.result.now c.word-verb.ensures (sym (c.if-eq.ensures ∙ ap (bytes_eq c.word-verb.result.now) c.as_slice.ensures))))

pub returns-then-eq-2 : goal.returns-then-eq-2
returns-then-eq-2 c =
    λ name. c.of_merge-then-eq-2.ensures name true
    ∙ ap (limit_in c.args.graph.now)
    (sym (as_mergei c.args.graph.now name (contents c.args.words.now) c.word-verb.result.now c.word-verb.ensures (sym (c.if-eq.ensures ∙ ap (bytes_eq c.word-verb.result.now) c.as_slice.ensures)) (sym (c.if-eq-2.ensures ∙ ap (bytes_eq c.word-verb.result.now) c.as_slice-2.ensures))))

pub returns-then-eq-3 : goal.returns-then-eq-3
returns-then-eq-3 c =
    λ name. c.of_call.ensures name
    ∙ ap (limit_in c.args.graph.now)
    (sym (line_call c.args.graph.now name (contents c.args.words.now) c.word-verb.result.now c.word-verb.ensures (sym (c.if-eq.ensures ∙ ap (bytes_eq c.word-verb.result.now) c.as_slice.ensures)) (sym (c.if-eq-2.ensures ∙ ap (bytes_eq c.word-verb.result.now) c.as_slice-2.ensures)) (sym (c.if-eq-3.ensures ∙ ap (bytes_eq c.word-verb.result.now) c.as_slice-3.ensures))))

pub returns-in-Some : goal.returns-in-Some
returns-in-Some c =
    let ws = contents c.args.words.now in
    λ name. c.of_form.ensures name
    ∙ ap (limit_in c.args.graph.now)
    (sym (line_kind c.args.graph.now name ws c.word-verb.result.now _ c.word-verb.ensures (sym (c.if-eq.ensures ∙ ap (bytes_eq c.word-verb.result.now) c.as_slice.ensures)) (sym (c.if-eq-2.ensures ∙ ap (bytes_eq c.word-verb.result.now) c.as_slice-2.ensures)) (sym (c.if-eq-3.ensures ∙ ap (bytes_eq c.word-verb.result.now) c.as_slice-3.ensures))
    (ap (λ fm. find (λ k. is_of_form fm ws (form_of k)) KINDS) (sym c.format.ensures) ∙ sym c.in-Some.ensures)))

pub returns-in-None : goal.returns-in-None
returns-in-None c =
    let ws = contents c.args.words.now in
    λ name. ap (limit_in c.args.graph.now)
    (sym (line_kind c.args.graph.now name ws c.word-verb.result.now _ c.word-verb.ensures (sym (c.if-eq.ensures ∙ ap (bytes_eq c.word-verb.result.now) c.as_slice.ensures)) (sym (c.if-eq-2.ensures ∙ ap (bytes_eq c.word-verb.result.now) c.as_slice-2.ensures)) (sym (c.if-eq-3.ensures ∙ ap (bytes_eq c.word-verb.result.now) c.as_slice-3.ensures))
    (ap (λ fm. find (λ k. is_of_form fm ws (form_of k)) KINDS) (sym c.format.ensures) ∙ sym c.in-None.ensures)))
