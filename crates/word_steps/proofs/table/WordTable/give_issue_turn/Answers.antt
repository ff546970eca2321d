use Rattle.std.proofs.Common.{arith}
use Rattle.word_steps.proofs.table.WordTable.give_issue_turn.Goals as goal
use Rattle.word_steps.proofs.AtKey.{give_issue_turn_step}

pub store-requires : goal.store-requires
store-requires c = (c.requires.at.0, omega (arith, c.args.self.now.sized.0, c.issue_turn_word-word.ensures), let m = c.requires.may in give_issue_turn_step c.args.self.now _ c.issue_turn_word-word.ensures _ _ _ m.2.1.0 m.0 m.2.0 m.1 c.requires.quiet m.2.1.1 m.2.2)
