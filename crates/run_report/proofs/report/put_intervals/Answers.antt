use Rattle.std.proofs.Common.{◌∷◌, ◌++◌, sym, subst, ap, arith, ◌≡◌, ◌+◌, ◌-◌, ℕ, get_or, drop}
use Rattle.realm_io.proofs.Public.{stops, goes_on, breaks_off}
use Rattle.realm_io.specs.Written.{Progress}
use Rattle.run_report.specs.Report.{cells_texts}
use Rattle.run_report.proofs.ReportRest.{interval_here, cells_left}
use Rattle.run_report.proofs.report.put_intervals.Goals as goal

pub overflow_sub-interval : goal.overflow_sub-interval
overflow_sub-interval g c = (interval_here c.args.intervals.now c.loop-interval.interval-index c.loop-interval.first _ c.requires.is_space c.loop-interval-test.true c.loop-interval.invariant.ranked).ordered

pub overflow_add-end : goal.overflow_add-end
overflow_add-end g c =
    let h = interval_here c.args.intervals.now c.loop-interval.interval-index c.loop-interval.first _ c.requires.is_space c.loop-interval-test.true c.loop-interval.invariant.ranked in
    omega (arith, h.ordered, h.next, c.requires.small, c.from.ensures)

pub overflow_add-end-in-loop-interval : goal.overflow_add-end-in-loop-interval
overflow_add-end-in-loop-interval g c =
    let h = interval_here c.args.intervals.now c.loop-interval.interval-index c.loop-interval.first _ c.requires.is_space c.loop-interval-test.true c.loop-interval.invariant.ranked in
    omega (arith, h.ordered, h.next, c.requires.small, c.from.ensures)

pub put_interval_line-requires-clause-long : goal.put_interval_line-requires-clause-long
put_interval_line-requires-clause-long g c =
    let h = interval_here c.args.intervals.now c.loop-interval.interval-index c.loop-interval.first _ c.requires.is_space c.loop-interval-test.true c.loop-interval.invariant.ranked in
    omega (arith, h.ordered, c.from.ensures)

pub put_interval_line-requires-clause-within : goal.put_interval_line-requires-clause-within
put_interval_line-requires-clause-within g c =
    let h = interval_here c.args.intervals.now c.loop-interval.interval-index c.loop-interval.first _ c.requires.is_space c.loop-interval-test.true c.loop-interval.invariant.ranked in
    omega (arith, h.ordered, h.next, c.requires.full, c.from.ensures)

pub returns-in_err-put_interval_line : goal.returns-in_err-put_interval_line
returns-in_err-put_interval_line g c =
    let h = interval_here c.args.intervals.now c.loop-interval.interval-index c.loop-interval.first _ c.requires.is_space c.loop-interval-test.true c.loop-interval.invariant.ranked in
    stops _ _ _ c.from_residual.result c.from_residual.ensures.0 (breaks_off _ _ _ _ _ _ _ c.loop-interval.invariant.progress (cells_left _ _ _ c.loop-interval.interval-index c.loop-interval.first _ h.get) c.in_err-put_interval_line.ensures)

pub loop-interval-preserved : goal.loop-interval-preserved
loop-interval-preserved g c =
    let k : ℕ = c.loop-interval.interval-index in
    let is = c.args.intervals.now in
    let i = get_or is k (0, 0) in
    let h = interval_here is k c.loop-interval.first _ c.requires.is_space c.loop-interval-test.true c.loop-interval.invariant.ranked in
    let n : (c.loop-interval.first + c.from.result) + 1 ≡ c.loop-interval.first + (i.1 + 1 - i.0) = omega (arith, h.ordered, c.from.ensures) in
    record {
      progress = subst (Progress _ _ _) (ap (λ m. cells_texts (c.args.inst.now ++ 46 ∷ c.args.field.now) (drop (k + 1) is) (drop m c.args.column.now.cells)) (sym n))
          (goes_on _ _ _ _ _ _ _ c.loop-interval.invariant.progress (cells_left _ _ _ k c.loop-interval.first _ h.get) c.in_ok-put_interval_line.ensures);
      ranked = omega (arith, h.ordered, h.next, c.from.ensures);
    }
