use Rattle.std.proofs.Common.{◌≡◌, ◌<◌, ◌^◌, ◌+◌, ◌-◌, ℕ, true, List, length, get_or, sym, subst, arith}
use Rattle.std.specs.List.{HoldsAt}
use Rattle.index_spaces.specs.Space.{interval_has, space_size, rank}
use Rattle.index_spaces.specs.Counted.{IsCounted}
use Rattle.index_spaces.proofs.PointFacts.{rank_in}
use Rattle.index_spaces.proofs.space.Space.rank.Goals as goal

-- what is read at an interval's place gives the rank
record IsRank (s : List (ℕ × ℕ)) (p sum : ℕ) : Type 0 where
  is_rank : sum ≡ rank s p
  below : sum < space_size s
  fits : sum < 2 ^ 32

rank_at : (s : List (ℕ × ℕ)) (ranks : List ℕ) (size p k : ℕ) → IsCounted s ranks size → k < length s → HoldsAt (λ i. interval_has i p ≡ true) s k →
    IsRank s p (get_or ranks k 0 + (p - (get_or s k (0, 0)).0))
rank_at s ranks size p k counted within has =
    let at = rank_in s p k counted.is_space within has in
    let first = counted.below k within in
    let sum : get_or ranks k 0 + (p - (get_or s k (0, 0)).0) ≡ rank s p = omega (arith, at.is_rank, first) in
    record { is_rank = sum; below = omega (arith, sum, at.below); fits = omega (arith, sum, at.below, counted.few, counted.all) }

-- the same of the lists that are read
rank_read : (v s xs : List (ℕ × ℕ)) (ranks rs : List ℕ) (size p k : ℕ) → s ≡ v → xs ≡ s → rs ≡ ranks → IsCounted s ranks size → k < length v → HoldsAt (λ i. interval_has i p ≡ true) v k →
    IsRank v p (get_or rs k 0 + (p - (get_or xs k (0, 0)).0))
rank_read v s xs ranks rs size p k e f g counted within has =
    let at = rank_at s ranks size p k counted (subst (λ (t : List (ℕ × ℕ)). k < length t) (sym e) within) (subst (λ (t : List (ℕ × ℕ)). HoldsAt (λ i. interval_has i p ≡ true) t k) (sym e) has) in
    subst (λ (t : List (ℕ × ℕ)). IsRank t p (get_or rs k 0 + (p - (get_or xs k (0, 0)).0))) e
    (subst (λ (t : List (ℕ × ℕ)). IsRank s p (get_or rs k 0 + (p - (get_or t k (0, 0)).0))) (sym f)
    (subst (λ (t : List ℕ). IsRank s p (get_or t k 0 + (p - (get_or s k (0, 0)).0))) (sym g) at))

pub overflow_add-result : goal.overflow_add-result
overflow_add-result c =
    let r = rank_read c.args.self.now c.self.inside.intervals.items c.as_slice-intervals.result.now c.self.inside.ranks.items c.as_slice-ranks.result.now c.self.inside.size c.args.p c.in_ok-k.k
    c.self.view_is c.as_slice-intervals.ensures c.as_slice-ranks.ensures c.self.invariant c.in_ok-k.ensures.within c.in_ok-k.ensures.has in
    omega (arith, r.fits)

pub returns-clause-rank : goal.returns-clause-rank
returns-clause-rank c =
    (rank_read c.args.self.now c.self.inside.intervals.items c.as_slice-intervals.result.now c.self.inside.ranks.items c.as_slice-ranks.result.now c.self.inside.size c.args.p c.in_ok-k.k
    c.self.view_is c.as_slice-intervals.ensures c.as_slice-ranks.ensures c.self.invariant c.in_ok-k.ensures.within c.in_ok-k.ensures.has).is_rank

pub returns-clause-below : goal.returns-clause-below
returns-clause-below c =
    (rank_read c.args.self.now c.self.inside.intervals.items c.as_slice-intervals.result.now c.self.inside.ranks.items c.as_slice-ranks.result.now c.self.inside.size c.args.p c.in_ok-k.k
    c.self.view_is c.as_slice-intervals.ensures c.as_slice-ranks.ensures c.self.invariant c.in_ok-k.ensures.within c.in_ok-k.ensures.has).below
