use Rattle.std.proofs.Common.{◌≡◌, ◌+◌, ◌-◌, length, ◌∙◌, Vec, arith}
use Rattle.std.specs.declared.alloc.Global.{Global}
use Rattle.home_queues.specs.Closing.{IsRowFor, row_taken}
use Rattle.home_queues.specs.declared.deque.StealRight.{StealRight}
use Rattle.home_queues.proofs.Closed.{all_front, length_last, total_last, meets_still, have_more}
use Rattle.home_queues.proofs.closing.gather_all.Goals as goal

pub loop-row-preserved : goal.loop-row-preserved
loop-row-preserved c =
    let i = c.loop-row.invariant in let xs = c.loop-row.rows.items in let ys = c.pop.new.self.items in let row : Vec StealRight Global = c.in-Some.row in let e = c.in-Some.ensures.items in
    let olds = c.loop-row.owners.items in let news = c.gather.new.owners.items in let g = c.gather.ensures in
    let len : length xs ≡ length ys + 1 = length_last xs ys row e in
    let more : 9 - length ys ≡ 9 - length xs + 1 = omega (arith, i.within) in
    record {
      owners = g.owners;
      shares = have_more (9 - length xs) (9 - length ys) olds news g.gained i.shares more;
      meet = meets_still c.args.lines olds news ys g.gained (all_front (IsRowFor c.args.lines olds) xs ys row e i.meet);
      within = omega (arith, i.within);
      len = g.gained.0 ∙ i.len;
      put = λ h. g.put h ∙ i.put h;
      taken = λ h. let a = g.taken h in let b = total_last (row_taken h) xs ys row e in let f = i.taken h in omega arith;
    }
