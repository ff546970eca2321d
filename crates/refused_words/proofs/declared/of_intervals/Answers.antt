use Rattle.std.proofs.Common.{◌≡◌, ◌≤◌, ◌∙◌, ap, arith}
use Rattle.graph_terms.specs.declared.limits.Limits.{Limits}
use Rattle.graph_terms.specs.Limits.{limits}
use Rattle.graph_terms.proofs.Public.{most_limits}
use Rattle.refused_words.proofs.declared.of_intervals.Goals as goal

pub point_count-requires : goal.point_count-requires
point_count-requires c =
    let most : (limits c.format.result).space.intervals ≤ 4096 = (most_limits c.format.result).intervals in
    let same : c.from-bound.result ≡ (limits c.format.result).space.intervals = c.from-bound.ensures ∙ ap (λ (x : Limits). x.space.intervals) c.of.ensures in
    omega (arith, most, same, c.if-count-bound.false)
