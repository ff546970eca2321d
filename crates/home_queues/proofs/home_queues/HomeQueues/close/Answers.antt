use Rattle.std.proofs.Common.{sum_by, ap, arith}
use Rattle.std.specs.Prelude.{slice_index}
use Rattle.basics.specs.Sums.{only}
use Rattle.home_queues.specs.Hints.{HintsValue}
use Rattle.home_queues.specs.declared.tally.PartCounts.{PartCounts}
use Rattle.home_queues.proofs.Closed.{all_one, total-sum_by}
use Rattle.home_queues.proofs.home_queues.HomeQueues.close.Goals as goal

pub gather_all-requires-clause-shares : goal.gather_all-requires-clause-shares
gather_all-requires-clause-shares c = (all_one c.args.self.lines c.together.result.items c.spread.new.owners.items c.spread.new.rows.items c.spread.new.counts.items c.spread.ensures.spread).1

pub gather_all-requires-clause-rows : goal.gather_all-requires-clause-rows
gather_all-requires-clause-rows c = (all_one c.args.self.lines c.together.result.items c.spread.new.owners.items c.spread.new.rows.items c.spread.new.counts.items c.spread.ensures.spread).2

pub returns-clause-pushed : goal.returns-clause-pushed
returns-clause-pushed c = λ x.
    let a = total-sum_by (λ (q : PartCounts). slice_index q.pushed.each x) c.spread.new.counts.items in
    let b = total-sum_by (λ (p : HintsValue). slice_index p.pushed x) c.together.result.items in
    let t = ap (sum_by (λ (p : HintsValue). slice_index p.pushed x)) c.together.ensures in
    let d = c.spread.ensures.spread.pushed x in omega arith

pub returns-clause-taken : goal.returns-clause-taken
returns-clause-taken c = λ x.
    let a = total-sum_by (λ (q : PartCounts). slice_index q.taken.each x) c.spread.new.counts.items in
    let b = total-sum_by (λ (p : HintsValue). slice_index p.taken x) c.together.result.items in
    let t = ap (sum_by (λ (p : HintsValue). slice_index p.taken x)) c.together.ensures in
    let d = c.spread.ensures.spread.taken x in omega arith

pub returns-clause-balance : goal.returns-clause-balance
returns-clause-balance c = λ x lt.
    let a = total-sum_by (λ (q : PartCounts). slice_index q.pushed.each x) c.spread.new.counts.items in
    let b = total-sum_by (λ (q : PartCounts). slice_index q.taken.each x) c.spread.new.counts.items in
    let s = c.spread.ensures.spread in
    let d = s.pushed x in
    let e = s.taken x in
    let f = s.put x lt in
    let g = s.took x lt in
    let h = c.gather_all.ensures.put (only x) in
    let i = c.gather_all.ensures.taken (only x) in
    let j = c.drain_all.ensures.counted x lt in omega arith
