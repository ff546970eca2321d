use Rattle.std.proofs.Common.{◌∷◌, ◌++◌, sym, subst, ◌≡◌, ◌+◌, ◌-◌, take, drop, ap, arith}
use Rattle.realm_io.specs.Written.{Writes}
use Rattle.realm_io.proofs.Public.{stopped_early, stopped_later, then_writes, stops}
use Rattle.run_report.specs.Report.{interval_text}
use Rattle.run_report.proofs.ReportRest.{interval_parts}
use Rattle.run_report.proofs.report.put_interval_line.Goals as goal

pub returns-in_err-put_interval_front : goal.returns-in_err-put_interval_front
returns-in_err-put_interval_front g c =
    subst (Writes _ _ c.from_residual.result) (sym (interval_parts _ _ _)) (stops _ _ _ c.from_residual.result c.from_residual.ensures.0 (stopped_early _ _ _ _ c.in_err-put_interval_front.ensures))

pub returns-in_err-put_cells : goal.returns-in_err-put_cells
returns-in_err-put_cells g c =
    let r = c.from_residual-in_err-put_cells in
    let n : c.args.end - c.args.first ≡ c.args.interval.1 + 1 - c.args.interval.0 = (let h : c.args.end ≡ c.args.first + (c.args.interval.1 + 1 - c.args.interval.0) = c.requires.long in omega arith) in
    subst (Writes _ _ r.result) (ap (λ k. interval_text (c.args.inst.now ++ 46 ∷ c.args.field.now) c.args.interval (take k (drop c.args.first c.args.column.now.cells))) n)
    (subst (Writes _ _ r.result) (sym (interval_parts _ _ _)) (stops _ _ _ r.result r.ensures.0 (stopped_later _ _ _ _ _ c.in_ok-put_interval_front.ensures (stopped_early _ _ _ _ c.in_err-put_cells.ensures))))

pub returns : goal.returns
returns g c =
    let r = c.put_bytes.result in
    let n : c.args.end - c.args.first ≡ c.args.interval.1 + 1 - c.args.interval.0 = (let h : c.args.end ≡ c.args.first + (c.args.interval.1 + 1 - c.args.interval.0) = c.requires.long in omega arith) in
    subst (Writes _ _ r) (ap (λ k. interval_text (c.args.inst.now ++ 46 ∷ c.args.field.now) c.args.interval (take k (drop c.args.first c.args.column.now.cells))) n)
    (subst (Writes _ _ r) (sym (interval_parts _ _ _)) (then_writes _ _ _ _ _ r c.in_ok-put_interval_front.ensures (then_writes _ _ _ _ _ r c.in_ok-put_cells.ensures c.put_bytes.ensures)))
