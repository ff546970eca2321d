use Rattle.std.proofs.Common.{◌≡◌, ℕ, [], List, length, subst, ap, ◌∙◌, get_or, arith}
use Rattle.share_words.specs.Counting.{AreCounted}
use Rattle.share_words.specs.Shares.{most_below}
use Rattle.share_words.proofs.Counts.{all_counted}
use Rattle.share_words.proofs.share_counts.ShareCounts.of_graph.Goals as goal

pub returns : goal.returns
returns c =
    let g = c.args.graph.now in
    let counts = c.loop-line.counts.items in
    let all : c.loop-line.line ≡ length g.lines = omega (arith, c.loop-line-test.false, c.loop-line.auto.line-end, c.lines-line-end.ensures.number) in
    all_counted g counts c.most_of-planes.result
    (subst (λ n. AreCounted g n [] counts) all c.loop-line.invariant)
    (c.most_of-planes.ensures ∙ ap (λ (l : List ℕ). most_below (λ k. get_or l k 0) (length l)) c.as_slice.ensures.value)
