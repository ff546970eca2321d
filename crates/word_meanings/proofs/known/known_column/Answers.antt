use Rattle.std.proofs.Common.{false, sym, subst}
use Rattle.graph_words.specs.Draft.{Column}
use Rattle.word_meanings.specs.Telling.{Tells, no_faults}
use Rattle.word_meanings.specs.declared.known.Known.{Known}
use Rattle.word_meanings.proofs.ColumnWords.{known_tells}
use Rattle.word_meanings.proofs.KnownWords.{absent_refused}
use Rattle.word_meanings.proofs.known.known_column.Goals as goal

pub returns-in-Some-clause-known : goal.returns-in-Some-clause-known
returns-in-Some-clause-known c =
    subst (λ (k : Known). Tells c.args.graph.now Column c.args.word.now (record { faults = no_faults; number = k.number; value = k.value })) (sym c.named.ensures)
    (known_tells c.args.graph.now false c.args.word.now c.in-Some.column c.decls.ensures.is_graph c.in-Some.ensures.column)

pub returns-in-None-clause-known : goal.returns-in-None-clause-known
returns-in-None-clause-known c = absent_refused c.args.graph.now c.args.word.now (sym c.in-None.ensures.column)
