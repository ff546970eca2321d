use Rattle.std.proofs.Common.{◌≡◌, ℕ, ◌&&◌, length, refl, subst, arith}
use Rattle.std.specs.Prelude.{nat_lt}
use Rattle.std.specs.BTreeSet.{contains}
use Rattle.std.specs.Ordering.{nat_cmp}
use Rattle.plain_eval.specs.Waiting.{starts_ready}
use Rattle.plain_eval.proofs.WaitingFacts.{first_counts, counts_more, ready_more, started}
use Rattle.plain_eval.proofs.waiting.Waiting.new.Goals as goal

pub loop-line-preserved : goal.loop-line-preserved
loop-line-preserved c =
    let g = c.args.graph.now in
    record {
      left = counts_more g c.loop-line.waiting.left.items c.add.new.self.left.items c.loop-line.line _ c.loop-line.invariant.left c.in_ok-add.ensures.left refl;
      ready = ready_more (starts_ready g) (contains nat_cmp c.loop-line.waiting.ready) (contains nat_cmp c.add.new.self.ready) c.loop-line.line c.loop-line.invariant.ready c.in_ok-add.ensures.ready;
    }

pub returns : goal.returns
returns c =
    let g = c.args.graph.now in
    let all : c.loop-line.line ≡ length g.lines = omega arith in
    started g c.loop-line.waiting.left.items (contains nat_cmp c.loop-line.waiting.ready)
    (subst (λ n. c.loop-line.waiting.left.items ≡ first_counts g n) all c.loop-line.invariant.left)
    (subst (λ n. (i : ℕ) → contains nat_cmp c.loop-line.waiting.ready i ≡ (nat_lt i n && starts_ready g i)) all c.loop-line.invariant.ready)
