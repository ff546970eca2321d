use Rattle.std.proofs.Common.{arith}
use Rattle.race_check.proofs.KeepSteps.{held_by, kept_all, kept_more}
use Rattle.race_check.proofs.line_sections.sections_of_lines.Goals as goal

pub loop-first-preserved : goal.loop-first-preserved
loop-first-preserved c =
    let e = c.in_ok-keep_block.ensures in
    record { held = e.held; kept = kept_more c.args.graph.now c.loop-first.held c.keep_block.new.held c.loop-first.first e.grown e.kept c.loop-first.invariant.kept }

pub returns : goal.returns
returns c = held_by c.args.graph.now c.loop-first.held c.loop-first.invariant.held (kept_all c.args.graph.now c.loop-first.held c.loop-first.first (omega (arith, c.loop-first-test.false, c.lines-lines.ensures.number)) c.loop-first.invariant.kept)
