use Rattle.std.proofs.Common.{◌≡◌, ◌≤◌, ◌+◌, length, sym, ap, subst, arith}
use Rattle.graph_terms.specs.Graph.{GraphValue}
use Rattle.run_core.specs.Core.{CoreValue}
use Rattle.run_core.proofs.FinishFacts.{Scanned, scan_begins, scan_moved, scan_stays, scan_ends}
use Rattle.run_core.proofs.run.Core.scan.Goals as goal
use Rattle.run_core.proofs.run.Core.scan.Goals.{then-run_line, else-run_line}

pub loop-line-init : goal.loop-line-init
loop-line-init c = scan_begins c.args.self.now c.requires.nothing_out

pub loop-line-preserved : goal.loop-line-preserved
loop-line-preserved c =
    let old = c.args.self.now in
    let now = c.loop-line.self in
    let ran = c.run_line.new.self in
    let so_far = c.loop-line.invariant in
    elim c.if-run_line.branch [
      | then-run_line w ↦ subst (λ (v : CoreValue). Scanned old v c.if-run_line.moved (c.loop-line.line + 1)) (sym w.self-is) (subst (λ m. Scanned old w.follow_woken.new.self m (c.loop-line.line + 1)) (sym w.moved-is)
          (scan_moved old now ran w.follow_woken.new.self c.loop-line.moved c.loop-line.line (c.loop-line.line + 1) so_far c.run_line.ensures.goes_on (c.run_line.ensures.moved w.if-run_line.true) w.follow_woken.ensures.goes_on))
      | else-run_line w ↦ (
          let unmoved = c.run_line.ensures.unmoved w.if-run_line.false in
          subst (λ (v : CoreValue). Scanned old v c.if-run_line.moved (c.loop-line.line + 1)) (sym w.self-is) (subst (λ m. Scanned old ran m (c.loop-line.line + 1)) (sym w.moved-is)
          (scan_stays old now ran c.loop-line.moved c.loop-line.line so_far c.run_line.ensures.goes_on unmoved.0 unmoved.1)))
    ]

pub returns-clause-unmoved : goal.returns-clause-unmoved
returns-clause-unmoved c =
    let all : length c.args.self.now.graph.lines ≤ c.loop-line.line =
    let lines : length c.graph.result.now.lines ≡ length c.args.self.now.graph.lines = ap (λ (g : GraphValue). length g.lines) c.graph.ensures in
    omega (arith, lines, c.lines-line-end.ensures.number) in
    scan_ends c.args.self.now c.loop-line.self c.loop-line.moved c.loop-line.line c.is_sound.ensures.sound c.loop-line.invariant all
