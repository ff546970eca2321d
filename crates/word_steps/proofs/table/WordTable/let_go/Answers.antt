use Rattle.std.proofs.Common.{arith, ap, sym, ◌∙◌, subst}
use Rattle.graph_terms.specs.Graph.{line_passes, is_shared}
use Rattle.graph_terms.specs.Reservations.{Acquires}
use Rattle.word_steps.specs.Table.{graph_of}
use Rattle.word_steps.proofs.table.WordTable.let_go.Goals as goal
use Rattle.word_steps.proofs.AtKey.{let_go_alone_step, let_go_shared_step}

pub fetch_sub-requires : goal.fetch_sub-requires
fetch_sub-requires c = (
  c.requires.at.0,
  omega (arith, c.args.self.now.sized.0, c.lock_word-word.ensures.there),
  (let m = c.requires.may in let g = graph_of c.args.self.now in
      let_go_shared_step c.args.self.now _ _ c.args.l _ m.0 m.1 c.requires.known c.lock_word-word.ensures.lines (subst (λ j. Acquires g j c.args.l) (sym m.2.0) m.2.1) m.2.2 m.2.3
      (ap (line_passes is_shared g) m.2.0 ∙ (sym c.requires.shared ∙ c.if-shared.true)) _ c.lock_word-word.ensures.word),
)

pub store-requires : goal.store-requires
store-requires c = (
  c.requires.at.0,
  omega (arith, c.args.self.now.sized.0, c.lock_word-word.ensures.there),
  (let m = c.requires.may in let g = graph_of c.args.self.now in
      let_go_alone_step c.args.self.now _ _ c.args.l _ m.0 m.1 c.requires.known (subst (λ j. Acquires g j c.args.l) (sym m.2.0) m.2.1) m.2.2 m.2.3
      (ap (line_passes is_shared g) m.2.0 ∙ (sym c.requires.shared ∙ c.if-shared.false)) _ c.lock_word-word.ensures.word),
)
