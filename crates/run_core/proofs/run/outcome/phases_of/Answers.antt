use Rattle.std.proofs.Common.{◌<◌, ◌∙◌, length, map, arith}
use Rattle.run_lists.specs.Stages.{shown_stage}
use Rattle.run_core.specs.Answers.{phase_of_line}
use Rattle.run_parts.specs.declared.progress.Progress.TheVariants.{Unissued}
use Rattle.run_lists.proofs.Public.{line_pushed, count_pushed}
use Rattle.run_core.proofs.ListsOfLines.{phase_next}
use Rattle.run_core.proofs.run.outcome.phases_of.Goals as goal

pub loop-line-preserved : goal.loop-line-preserved
loop-line-preserved c =
    let old = c.loop-line.phases in
    let new = c.push_within.new.items in
    let g = c.args.graph.now in
    let value = c.phase_value-value.result in
    let known : c.loop-line.line < length c.args.stages.now = omega (arith, c.loop-line-test.true, c.lines-line-end.ensures.number, c.requires.each.0, c.loop-line.auto.line-end) in
    record {
      so_far = line_pushed (phase_of_line g (map shown_stage c.args.stages.now) c.args.values.now) c.loop-line.line value old.items new.items c.loop-line.invariant.so_far (c.phase_value-value.ensures ∙ phase_next g c.args.stages.now c.args.values.now c.loop-line.line Unissued known) c.push_within.ensures.items;
      number = count_pushed value old.items new.items _ _ c.loop-line.line old.ok.0 new.ok.0 c.push_within.ensures.items c.loop-line.invariant.number;
      room = omega (arith, c.loop-line.invariant.room, c.push_within.ensures.capacity);
    }
