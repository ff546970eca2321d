use Rattle.std.proofs.Common.{◌≡◌, ℕ, ◌+◌, ◌<◌, [], ◌∷◌, length, ap, ◌∙◌, inr, arith, length-set, length-append}
use Rattle.crossbeam_deque.specs.Handles.{worker_view}
use Rattle.basics.specs.Sums.{total, only}
use Rattle.home_queues.specs.DequeRule.{with_taken}
use Rattle.home_queues.specs.Closing.{taken_by}
use Rattle.home_queues.specs.declared.deque_view.DequeView.{DequeView}
use Rattle.basics.proofs.Sums.{total-append}
use Rattle.home_queues.proofs.PartSteps.{one_more-get, same_owner}
use Rattle.home_queues.proofs.closing.drain.Goals as goal

pub loop-line-preserved : goal.loop-line-preserved
loop-line-preserved c =
    let inv = c.loop-line.invariant in let x : ℕ = c.in-Some.line in
    let v : DequeView = worker_view c.loop-line.owner in
    let is : worker_view c.take_last.new.owner ≡ with_taken v (x ∷ []) = c.in-Some.ensures.taken.0 in
    let small : x < c.args.lines = let a = c.in-Some.ensures.taken.1 in let b = inv.owner.lines in omega arith in
    let one = c.one_more.ensures in
    rw one (record {
      owner = same_owner c.args.lines 9 c.loop-line.owner c.take_last.new.owner inv.owner c.take_last.ensures.same.0 (ap (λ (u : DequeView). u.lines) is) (ap (λ (u : DequeView). u.shares) is);
      put = ap (λ (u : DequeView). u.put) is ∙ inv.put;
      len = omega (arith, length-set {A = ℕ}, inv.len);
      all = let a : length (worker_view c.take_last.new.owner).taken ≡ length v.taken + 1 = ap (λ (u : DequeView). length u.taken) is ∙ length-append v.taken (x ∷ []) in let b = inv.all in omega arith;
      within = inr c.in-Some.ensures.bound;
      counted = λ y below.
          let a = one_more-get c.loop-line.left.each x y (omega (arith, inv.len)) in
          let b : taken_by (only y) c.take_last.new.owner ≡ total (only y) (with_taken v (x ∷ [])).taken = ap (λ (u : DequeView). total (only y) u.taken) is in
          let d = total-append (only y) v.taken (x ∷ []) in
          let e = inv.counted y below in omega arith;
    })
