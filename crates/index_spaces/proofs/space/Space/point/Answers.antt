use Rattle.std.proofs.Common.{◌≡◌, ◌<◌, ◌≤◌, ◌^◌, ◌+◌, ◌-◌, ℕ, List, length, get_or, sym, subst, arith}
use Rattle.std.specs.List.Sorted.{IsPartitionPoint}
use Rattle.index_spaces.specs.Space.{space_size, point_at}
use Rattle.index_spaces.specs.Counted.{IsCounted}
use Rattle.index_spaces.proofs.PointFacts.{point_in, ranks_rise, some_rank, runs_up}
use Rattle.index_spaces.proofs.space.Space.point.Goals as goal
use Rattle.index_spaces.proofs.space.Space.point.Goals.{After-count_up_to-k}

-- what is read at the place before n gives the point of rank r
record IsPoint (s : List (ℕ × ℕ)) (r n sum start : ℕ) : Type 0 where
  some : 1 ≤ n
  within : n ≤ length s
  from : start ≤ r
  fits : sum < 2 ^ 32
  is_point : sum ≡ point_at s r

point_before : (s : List (ℕ × ℕ)) (ranks : List ℕ) (size r n : ℕ) → IsCounted s ranks size → n ≤ length ranks →
    IsPartitionPoint (λ x. x ≤ r) (λ x. r < x) ranks n → r < space_size s → IsPoint s r n ((get_or s (n - 1) (0, 0)).0 + (r - get_or ranks (n - 1) 0)) (get_or ranks (n - 1) 0)
point_before s ranks size r n counted bound place small =
    let some = some_rank s ranks r n counted.is_space counted.one_each counted.below place in
    let within : n - 1 < length s = omega (arith, some, counted.one_each) in
    let at = point_in s ranks r n (n - 1) counted.one_each counted.below bound (omega (arith, some)) place small in
    let up = runs_up 0 s (n - 1) (0, 0) counted.is_space.1 within in
    record { some = some; within = omega (arith, bound, counted.one_each); from = at.from; fits = omega (arith, at.to, up); is_point = at.is_point }

-- the same of the lists that are read
point_read : (v s xs : List (ℕ × ℕ)) (ranks rs : List ℕ) (size r n : ℕ) → s ≡ v → xs ≡ s → rs ≡ ranks → IsCounted s ranks size → n ≤ length rs →
    IsPartitionPoint (λ x. x ≤ r) (λ x. r < x) rs n → r < space_size v → IsPoint v r n ((get_or xs (n - 1) (0, 0)).0 + (r - get_or rs (n - 1) 0)) (get_or rs (n - 1) 0)
point_read v s xs ranks rs size r n e f g counted bound place small =
    let at = point_before s ranks size r n counted (subst (λ (t : List ℕ). n ≤ length t) g bound) (subst (λ (t : List ℕ). IsPartitionPoint (λ x. x ≤ r) (λ x. r < x) t n) g place) (subst (λ (t : List (ℕ × ℕ)). r < space_size t) (sym e) small) in
    subst (λ (t : List (ℕ × ℕ)). IsPoint t r n ((get_or xs (n - 1) (0, 0)).0 + (r - get_or rs (n - 1) 0)) (get_or rs (n - 1) 0)) e
    (subst (λ (t : List (ℕ × ℕ)). IsPoint s r n ((get_or t (n - 1) (0, 0)).0 + (r - get_or rs (n - 1) 0)) (get_or rs (n - 1) 0)) (sym f)
    (subst (λ (t : List ℕ). IsPoint s r n ((get_or s (n - 1) (0, 0)).0 + (r - get_or t (n - 1) 0)) (get_or t (n - 1) 0)) (sym g) at))

known : (c : After-count_up_to-k) →
    IsPoint c.args.self.now c.args.r c.count_up_to-k.result ((get_or c.as_slice-intervals.result.now (c.count_up_to-k.result - 1) (0, 0)).0 + (c.args.r - get_or c.as_slice-ranks.result.now (c.count_up_to-k.result - 1) 0)) (get_or c.as_slice-ranks.result.now (c.count_up_to-k.result - 1) 0)
known c =
    point_read c.args.self.now c.self.inside.intervals.items c.as_slice-intervals.result.now c.self.inside.ranks.items c.as_slice-ranks.result.now c.self.inside.size c.args.r c.count_up_to-k.result
    c.self.view_is c.as_slice-intervals.ensures c.as_slice-ranks.ensures c.self.invariant c.count_up_to-k.ensures.bound c.count_up_to-k.ensures.place c.requires

pub count_up_to-k-requires : goal.count_up_to-k-requires
count_up_to-k-requires c =
    let inv = c.self.invariant in
    rw c.as_slice-ranks.ensures (ranks_rise c.self.inside.intervals.items c.self.inside.ranks.items inv.one_each inv.below)

pub overflow_sub-k : goal.overflow_sub-k
overflow_sub-k c = let r = known (goal.at.overflow_sub-k c).After-count_up_to-k in omega (arith, r.some)

pub overflow_add-result : goal.overflow_add-result
overflow_add-result c = let r = known (goal.at.overflow_add-result c).After-count_up_to-k in omega (arith, r.fits)

pub returns : goal.returns
returns c = (known (goal.at.returns c).After-count_up_to-k).is_point
