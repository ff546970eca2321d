use Rattle.std.proofs.Common.{ℕ, leb, rules}
use Rattle.std.proofs.lemmas.Bool.{leb-true, leb-false}
use Rattle.std.proofs.lemmas.Fn.{always_returns_same}
use Rattle.std.proofs.lemmas.List.Sorted.{IsPartitionedBy-leb}
use Rattle.index_spaces.proofs.space.count_up_to.Goals as goal

pub returns-clause-place : goal.returns-clause-place
returns-clause-place c =
    let ranks = c.args.ranks.now in
    let r = c.args.r in
    let point = c.partition_point.ensures.partitioned (λ (x : ℕ). leb x r) (always_returns_same _ _ _ (λ a q f h. search rules)) (IsPartitionedBy-leb (λ (x : ℕ). x) ranks r c.requires) in
    (λ j d l h. leb-true _ r (point.0 j d l h), λ j d l h. leb-false _ r (point.1 j d l h))
