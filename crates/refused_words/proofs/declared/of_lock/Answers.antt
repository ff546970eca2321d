use Rattle.graph_terms.specs.declared.limits.Limits.{Limits}
use Rattle.graph_terms.specs.Limits.{limits}
use Rattle.std.proofs.Common.{◌≡◌, ◌+◌, [], ◌∷◌, length, ◌∙◌, ap, arith}
use Rattle.std.specs.Prelude.{option_map, codes}
use Rattle.std.proofs.lemmas.List.{length-map}
use Rattle.basics.specs.Words.{contents}
use Rattle.refused_words.specs.Limits.{quantity_value, quantity}
use Rattle.refused_words.proofs.LimitFacts.{lock_limit, first_of}
use Rattle.refused_words.proofs.declared.of_lock.Goals as goal

pub returns : goal.returns
returns c =
    let ws = contents c.args.words.now in
    let size : length ws ≡ length c.args.words.now = simp length-map in
    let two : length ws ≡ 2 = omega arith in
    ap (option_map quantity_value) c.first_above.ensures ∙ (first_of (c.with_bound-locks.result ∷ c.spaces.result ∷ []) ∙ lock_limit c.args.graph.now ws _ _ two (c.with_bound-locks.ensures ∙ (ap (quantity (codes "reservations") (c.from.result + 1)) (ap (λ (x : Limits). x.locks) (c.of-most.ensures ∙ ap limits c.format.ensures)) ∙ ap (λ n. quantity (codes "reservations") (n + 1) (limits (c.args.graph.now).format).locks) (c.from.ensures ∙ c.locks.ensures.number))) c.spaces.ensures)
