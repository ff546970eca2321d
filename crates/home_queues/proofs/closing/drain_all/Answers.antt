use Rattle.std.proofs.Common.{◌≡◌, ℕ, length, ap, ◌∙◌, arith}
use Rattle.std.specs.Prelude.{slice_index}
use Rattle.std.proofs.lemmas.List.{length-replicate}
use Rattle.home_queues.specs.Counts.{CountsValue}
use Rattle.basics.specs.Sums.{only}
use Rattle.home_queues.specs.Parts.{Owner}
use Rattle.home_queues.specs.Closing.{IsOwner, put_by, taken_by}
use Rattle.crossbeam_deque.specs.Handles.{worker_view}
use Rattle.home_queues.proofs.Closed.{all_front, all_last, length_last, total_last, full_owner}
use Rattle.home_queues.proofs.Opened.{zero_at}
use Rattle.home_queues.proofs.closing.drain_all.Goals as goal

pub loop-owner-init : goal.loop-owner-init
loop-owner-init c =
    let n : ℕ = c.args.lines in let none = c.requires.left in
    record {
      owners = c.requires.owners;
      shares = c.requires.shares.0;
      within = c.requires.shares.1;
      len = ap (λ (k : CountsValue). length k.each) none ∙ length-replicate n 0;
      all = omega (arith, ap (λ (k : CountsValue). k.all) none, c.requires.shares.1);
      counted = λ x lt. let a = ap (λ (k : CountsValue). slice_index k.each x) none in let b = zero_at n x in omega arith;
    }

pub drain-requires-clause-owner : goal.drain-requires-clause-owner
drain-requires-clause-owner c =
    let i = c.loop-owner.invariant in let xs = c.loop-owner.owners.items in let ys = c.pop.new.self.items in let e = c.in-Some.ensures.items in
    full_owner c.args.lines c.in-Some.owner (all_last (IsOwner c.args.lines) xs ys c.in-Some.owner e i.owners) (all_last (λ (w : Owner). (worker_view w).shares ≡ 9) xs ys c.in-Some.owner e i.shares)

pub loop-owner-preserved : goal.loop-owner-preserved
loop-owner-preserved c =
    let i = c.loop-owner.invariant in let xs = c.loop-owner.owners.items in let ys = c.pop.new.self.items in let w : Owner = c.in-Some.owner in let e = c.in-Some.ensures.items in
    let len = length_last xs ys w e in
    record {
      owners = all_front (IsOwner c.args.lines) xs ys w e i.owners;
      shares = all_front (λ (u : Owner). (worker_view u).shares ≡ 9) xs ys w e i.shares;
      within = omega (arith, i.within);
      len = c.drain.ensures.len;
      all = omega (arith, i.all, c.drain.ensures.all);
      counted = λ x lt.
          let a = total_last (put_by (only x)) xs ys w e in
          let b = total_last (taken_by (only x)) xs ys w e in
          let d = c.drain.ensures.counted x lt in
          let f = i.counted x lt in omega arith;
    }
