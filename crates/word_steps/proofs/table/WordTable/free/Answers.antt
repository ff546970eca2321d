use Rattle.std.proofs.Common.{arith, sym, ◌∙◌}
use Rattle.word_steps.proofs.table.WordTable.free.Goals as goal
use Rattle.word_steps.proofs.AtKey.{free_alone_step, free_shared_step}

pub fetch_sub-requires : goal.fetch_sub-requires
fetch_sub-requires c = (
  c.requires.at.0,
  omega (arith, c.args.self.now.sized.0, c.lock_word-word.ensures.there),
  (let m = c.requires.may in
      free_shared_step c.args.self.now _ _ c.args.l c.args.q _ m.0 m.2.0 m.1 c.requires.known c.lock_word-word.ensures.lines m.2.1 m.2.2 c.requires.acquire c.requires.done m.2.3 (sym c.requires.shared ∙ c.if-shared.true) _ c.lock_word-word.ensures.word),
)

pub store-requires : goal.store-requires
store-requires c = (
  c.requires.at.0,
  omega (arith, c.args.self.now.sized.0, c.lock_word-word.ensures.there),
  (let m = c.requires.may in
      free_alone_step c.args.self.now _ _ c.args.l c.args.q _ m.0 m.2.0 m.1 c.requires.known m.2.1 m.2.2 c.requires.acquire c.requires.done m.2.3 (sym c.requires.shared ∙ c.if-shared.false) _ c.lock_word-word.ensures.word),
)
