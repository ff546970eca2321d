use Rattle.std.proofs.Common.{arith}
use Rattle.word_steps.proofs.table.WordTable.issue_turn_word.Goals as goal

pub overflow_add-result : goal.overflow_add-result
overflow_add-result c = omega (arith, c.clock_word.ensures.few)
