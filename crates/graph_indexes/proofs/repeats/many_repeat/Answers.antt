use Rattle.graph_indexes.proofs.MarkLaws.{unmarked}
use Rattle.graph_indexes.proofs.repeats.many_repeat.Goals as goal

pub marked_repeat-requires : goal.marked_repeat-requires
marked_repeat-requires c i = unmarked 8192 i
