use Rattle.std.proofs.Common.{◌≡◌, [], length, ◌∙◌, ap, arith}
use Rattle.std.specs.Prelude.{slice_index_or}
use Rattle.std.proofs.lemmas.List.{length-map}
use Rattle.basics.specs.Words.{contents}
use Rattle.graph_words.specs.Draft.{space_number}
use Rattle.graph_words.specs.Words.{pieces}
use Rattle.refused_words.proofs.LimitFacts.{inst_is_limit}
use Rattle.refused_words.proofs.declared.of_inst.Goals as goal

pub returns : goal.returns
returns c =
    let g = c.args.graph.now in
    let ws = contents c.args.words.now in
    let size : length ws ≡ length c.args.words.now = simp length-map in
    let four : length ws ≡ 4 = omega arith in
    let fields : length (contents c.in_ok-fields.fields.items) ≡ length c.in_ok-fields.fields.items = simp length-map in
    let spelled : length (contents c.in_ok-fields.fields.items) ≡ length (pieces 44 (slice_index_or ws 3 [])) = ap length (c.in_ok-fields.ensures ∙ ap (pieces 44) c.word.ensures) in
    c.of_fields.ensures ∙ inst_is_limit g c.lines.ensures.is_graph ws c.see-space.result.number c.len.result four (c.see-space.ensures.number ∙ ap (space_number g) c.word-2.ensures) (let n : c.len.result ≡ length (pieces 44 (slice_index_or ws 3 [])) = omega (arith, c.len.ensures) in n)
