use Rattle.std.proofs.Common.{sym, subst}
use Rattle.word_meanings.specs.Telling.{Tells, place_of_column}
use Rattle.word_meanings.proofs.ColumnWords.{known_tells}
use Rattle.word_meanings.proofs.seen.see_column.Goals as goal

pub returns-in-Some : goal.returns-in-Some
returns-in-Some c = subst (Tells c.args.graph.now (place_of_column c.args.hosted) c.args.word.now) (sym c.known_column.ensures)
    (known_tells c.args.graph.now c.args.hosted c.args.word.now c.in-Some.column c.decls.ensures.is_graph c.in-Some.ensures)
