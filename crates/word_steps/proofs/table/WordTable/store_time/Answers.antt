use Rattle.std.proofs.Common.{arith, ◌≡◌, sym, subst}
use Rattle.word_steps.proofs.table.WordTable.store_time.Goals as goal
use Rattle.word_steps.proofs.AtKey.{store_step}

pub store-requires : goal.store-requires
store-requires c = (c.requires.at.0, omega (arith, c.args.self.now.sized.0, c.time_word-word.ensures.there), let m = c.requires.may in store_step c.args.self.now _ _ _ _ m.0 m.1 m.2.1 m.2.2 _ (subst (λ k. c.time_word-word.result ≡ Rattle.word_steps.specs.Layout.time_word (Rattle.word_steps.specs.Layout.size_of (Rattle.word_steps.specs.Table.graph_of c.args.self.now)) k) (sym m.2.0) c.time_word-word.ensures.word))
