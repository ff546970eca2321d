use Rattle.graph_terms.specs.declared.limits.Limits.{Limits}
use Rattle.graph_terms.specs.Limits.{limits}
use Rattle.graph_words.specs.Draft.{op_of}
use Rattle.std.proofs.Common.{◌≡◌, ◌+◌, true, [], ◌∷◌, length, sym, ◌∙◌, ap, arith}
use Rattle.std.specs.Prelude.{option_map, codes, is_some, slice_index_or}
use Rattle.std.proofs.lemmas.List.{length-map}
use Rattle.basics.specs.Words.{contents}
use Rattle.refused_words.specs.Limits.{quantity_value, quantity}
use Rattle.refused_words.proofs.LimitFacts.{barrier_limit, first_of}
use Rattle.refused_words.proofs.declared.of_barrier.Goals as goal

pub returns : goal.returns
returns c =
    let ws = contents c.args.words.now in
    let size : length ws ≡ length c.args.words.now = simp length-map in
    let five : length ws ≡ 5 = omega arith in
    let there : is_some (op_of (slice_index_or ws 3 [])) ≡ true = ap (λ w. is_some (op_of w)) (sym c.word.ensures) ∙ (sym c.is_reduction.ensures ∙ c.if-not-is_reduction.false) in
    ap (option_map quantity_value) c.first_above.ensures ∙ (first_of (c.with_bound-barriers.result ∷ c.spaces.result ∷ []) ∙ barrier_limit c.args.graph.now ws _ _ five there (c.with_bound-barriers.ensures ∙ (ap (quantity (codes "barriers") (c.from.result + 1)) (ap (λ (x : Limits). x.barriers) (c.of-most.ensures ∙ ap limits c.format.ensures)) ∙ ap (λ n. quantity (codes "barriers") (n + 1) (limits (c.args.graph.now).format).barriers) (c.from.ensures ∙ c.barriers.ensures.number))) c.spaces.ensures)
