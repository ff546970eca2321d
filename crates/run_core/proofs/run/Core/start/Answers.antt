use Rattle.std.proofs.Common.{sym, subst}
use Rattle.run_core.specs.Finishing.{GoesOn}
use Rattle.run_core.proofs.FinishFacts.{goes_further}
use Rattle.run_core.proofs.run.Core.start.Goals as goal
use Rattle.run_core.proofs.run.Core.start.Goals.{then-edge-line, else-edge-line}

pub loop-edge-preserved : goal.loop-edge-preserved
loop-edge-preserved c =
    let first = c.run_line.new.self in
    let now = c.loop-edge.self in
    elim c.if-edge-line.branch [
      | then-edge-line w ↦ subst (GoesOn first) (sym w.self-is) (goes_further first now w.run_line-then-edge-line.new.self c.loop-edge.invariant w.run_line-then-edge-line.ensures.goes_on)
      | else-edge-line w ↦ subst (GoesOn first) (sym w.self-is) c.loop-edge.invariant
    ]
