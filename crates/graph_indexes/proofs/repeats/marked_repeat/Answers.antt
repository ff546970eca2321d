use Rattle.graph_indexes.proofs.MarkLaws.{clashes_none}
use Rattle.graph_indexes.proofs.repeats.marked_repeat.Goals as goal

pub loop-rest-init : goal.loop-rest-init
loop-rest-init c = clashes_none c.args.marks.now c.args.numbers.now c.requires
