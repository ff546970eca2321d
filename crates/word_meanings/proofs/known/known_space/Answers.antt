use Rattle.std.proofs.Common.{sym, subst}
use Rattle.graph_words.specs.Draft.{SpaceName}
use Rattle.word_meanings.specs.Telling.{Tells, no_faults}
use Rattle.word_meanings.specs.declared.known.Known.{Known}
use Rattle.word_meanings.proofs.KnownWords.{space_tells, space_refused}
use Rattle.word_meanings.proofs.known.known_space.Goals as goal

pub returns-in-Some : goal.returns-in-Some
returns-in-Some c =
    subst (λ (k : Known). Tells c.args.graph.now SpaceName c.args.word.now (record { faults = no_faults; number = k.number; value = k.value })) (sym c.named.ensures)
    (space_tells c.args.graph.now c.args.word.now c.in-Some.space c.decls.ensures.is_graph c.in-Some.ensures)

pub returns-in-None : goal.returns-in-None
returns-in-None c = space_refused c.args.graph.now c.args.word.now c.in-None.ensures
