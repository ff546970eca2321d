use Rattle.std.proofs.Common.{ℕ, ltb, rules}
use Rattle.std.proofs.lemmas.Bool.{ltb-true, ltb-false}
use Rattle.std.proofs.lemmas.Fn.{always_returns_same}
use Rattle.std.proofs.lemmas.List.Sorted.{IsPartitionedBy-ltb}
use Rattle.index_spaces.proofs.PointFacts.{ends_rise}
use Rattle.index_spaces.proofs.space.count_below.Goals as goal

pub returns-clause-place : goal.returns-clause-place
returns-clause-place c =
    let s = c.args.intervals.now in
    let p = c.args.p in
    let point = c.partition_point.ensures.partitioned (λ (i : ℕ × ℕ). ltb i.1 p) (always_returns_same _ _ _ (λ a r f h. search rules)) (IsPartitionedBy-ltb (λ (i : ℕ × ℕ). i.1) s p (ends_rise s c.requires.1)) in
    (λ j d l h. ltb-true _ p (point.0 j d l h), λ j d l h. ltb-false _ p (point.1 j d l h))
