use Rattle.std.proofs.Common.{◌≡◌, ◌-◌, ◌≤◌, [], ◌∷◌, length, ◌∙◌, ap, arith}
use Rattle.std.specs.Prelude.{option_map}
use Rattle.std.proofs.lemmas.List.{length-map}
use Rattle.basics.specs.Words.{contents}
use Rattle.refused_words.specs.Limits.{quantity_value}
use Rattle.refused_words.proofs.LimitFacts.{merge_limit, first_of}
use Rattle.refused_words.proofs.operations.of_merge.Goals as goal

pub returns : goal.returns
returns c =
    let ws = contents c.args.words.now in
    let size : length ws ≡ length c.args.words.now = simp length-map in
    let some : 2 ≤ length ws = omega arith in
    let count : length c.args.words.now - 1 ≡ length ws - 1 = omega arith in
    λ name ignores. ap (option_map quantity_value) c.first_above.ensures
    ∙ (first_of (c.operations.result ∷ c.events-merged.result ∷ c.edges.result ∷ c.spaces.result ∷ []) ∙ merge_limit c.args.graph.now name ignores ws (length c.args.words.now - 1) _ _ _ _ some count c.operations.ensures c.events-merged.ensures c.edges.ensures c.spaces.ensures)
