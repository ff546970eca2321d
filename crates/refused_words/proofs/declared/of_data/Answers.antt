use Rattle.std.proofs.Common.{◌≡◌, true, [], length, sym, ◌∙◌, ap, arith}
use Rattle.std.specs.Prelude.{slice_index_or}
use Rattle.std.proofs.lemmas.List.{length-map}
use Rattle.basics.specs.Words.{contents}
use Rattle.graph_terms.specs.declared.format.Format.TheVariants.{Three}
use Rattle.graph_terms.specs.Format.{has_since}
use Rattle.graph_words.specs.Words.{pieces}
use Rattle.refused_words.proofs.LimitFacts.{data_is_limit}
use Rattle.refused_words.proofs.declared.of_data.Goals as goal

pub returns : goal.returns
returns c =
    let g = c.args.graph.now in
    let ws = contents c.args.words.now in
    let size : length ws ≡ length c.args.words.now = simp length-map in
    let four : length ws ≡ 4 = omega arith in
    let fields : length (contents c.in_ok-fields.fields.items) ≡ length c.in_ok-fields.fields.items = simp length-map in
    let spelled : length (contents c.in_ok-fields.fields.items) ≡ length (pieces 44 (slice_index_or ws 3 [])) = ap length (c.in_ok-fields.ensures ∙ ap (pieces 44) c.word.ensures) in
    let three : has_since Three g.format ≡ true = ap (has_since Three) (sym c.format.ensures) ∙ (sym c.has_since.ensures ∙ c.if-not-has_since.false) in
    c.of_data_fields.ensures ∙ data_is_limit g c.lines.ensures.is_graph ws c.len.result four three (let n : c.len.result ≡ length (pieces 44 (slice_index_or ws 3 [])) = omega (arith, c.len.ensures) in n)
