use Rattle.std.proofs.lemmas.Result.{on_ok_weaker}
use Rattle.slot_need.proofs.FloodSteps.{next_of_release, next_of_other}
use Rattle.slot_need.proofs.high_numbers.Flood.follow.Goals as goal

pub returns-in-Some-clause-marking : goal.returns-in-Some-clause-marking
returns-in-Some-clause-marking c = on_ok_weaker c.note.result (λ marked.
    next_of_release c.args.graph.now c.args.line c.in-Some.lock c.args.mark c.args.self.now.marks.by_line.items c.args.self.now.marks.pending.items c.mark_targets.new.marks.by_line.items c.mark_targets.new.marks.pending.items
    c.note.new.self.marks.by_line.items c.note.new.self.marks.pending.items c.in-Some.ensures.0 c.in-Some.ensures.1 c.in-Some.ensures.2 c.in_ok-mark_targets.ensures marked) c.note.ensures.marking

pub returns-in-None-clause-marking : goal.returns-in-None-clause-marking
returns-in-None-clause-marking c = next_of_other c.args.graph.now c.args.line c.args.mark c.args.self.now.marks.by_line.items c.args.self.now.marks.pending.items c.mark_targets.new.marks.by_line.items c.mark_targets.new.marks.pending.items
    c.in-None.ensures c.in_ok-mark_targets.ensures
