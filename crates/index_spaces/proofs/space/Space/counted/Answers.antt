use Rattle.std.proofs.Common.{◌≡◌, ◌<◌, ◌≤◌, ◌+◌, List, ℕ, length, sym, subst, arith, ◌∙◌, ap}
use Rattle.index_spaces.specs.Counted.{IsCounted}
use Rattle.std.proofs.lemmas.List.{take_all, length_push}
use Rattle.index_spaces.specs.Space.{space_size}
use Rattle.index_spaces.proofs.PointFacts.{runs_up, space_size-more, size_so_far, ranks_more}
use Rattle.index_spaces.proofs.space.Space.counted.Goals as goal

pub overflow_sub-interval : goal.overflow_sub-interval
overflow_sub-interval c = (runs_up 0 c.args.intervals.now c.loop-interval.interval-index (0, 0) c.requires.is_space.1 (omega arith)).0

pub overflow_cast-size : goal.overflow_cast-size
overflow_cast-size c =
    let k = c.loop-interval.interval-index in
    let s = c.args.intervals.now in
    let within : k < length s = omega arith in
    let fits = size_so_far s k within in
    let up = runs_up 0 s k (0, 0) c.requires.is_space.1 within in
    let so_far = c.loop-interval.invariant.size in
    omega (arith, fits, up, so_far, c.requires.few)

pub overflow_add-size-in-loop-interval : goal.overflow_add-size-in-loop-interval
overflow_add-size-in-loop-interval c =
    let k = c.loop-interval.interval-index in
    let s = c.args.intervals.now in
    let fits = size_so_far s k (omega arith) in
    let so_far = c.loop-interval.invariant.size in
    omega (arith, fits, so_far, c.requires.few)

pub loop-interval-preserved : goal.loop-interval-preserved
loop-interval-preserved c =
    let l = c.loop-interval in
    let s = c.args.intervals.now in
    let within : l.interval-index < length s = omega arith in
    let up = runs_up 0 s l.interval-index (0, 0) c.requires.is_space.1 within in
    let more = space_size-more s l.interval-index (0, 0) within in
    let pushed = c.in_ok-push.ensures.ok in
    record {
      size = omega (arith, up, more, l.invariant.size);
      one_each = ap length pushed ∙ length_push l.ranks.items l.size ∙ ap (λ n. n + 1) l.invariant.one_each;
      below = rw pushed (ranks_more l.ranks.items s l.interval-index l.size l.invariant.one_each l.invariant.below l.invariant.size);
    }

-- the ranks of all intervals are those that a space keeps
counted_all : (s xs : List (ℕ × ℕ)) (ranks : List ℕ) (size : ℕ) → xs ≡ s → IsCounted s ranks size → IsCounted xs ranks size
counted_all s xs ranks size e h = subst (λ t. IsCounted t ranks size) (sym e) h

pub invariant_of-result : goal.invariant_of-result
invariant_of-result c =
    let l = c.loop-interval in
    let s = c.args.intervals.now in
    let end : length s ≤ l.interval-index = omega arith in
    let all : l.size ≡ space_size s = l.invariant.size ∙ ap space_size (take_all l.interval-index s end) in
    counted_all s c.in_ok-copy.copy.items l.ranks.items l.size c.in_ok-copy.ensures.ok
    (record {
      is_space = c.requires.is_space;
      few = omega (arith, all, c.requires.few);
      all = all;
      one_each = omega (arith, l.invariant.one_each);
      below = λ k h. l.invariant.below k (omega arith);
    })
