use Rattle.std.proofs.Common.{sym, subst}
use Rattle.graph_words.specs.Draft.{as_place}
use Rattle.word_meanings.specs.Telling.{Tells}
use Rattle.word_meanings.proofs.seen.see.Goals as goal

pub returns-in-Column : goal.returns-in-Column
returns-in-Column c = subst (λ p. Tells c.args.graph.now (as_place p) c.args.word.now c.see_column.result) (sym c.in-Column.is) c.see_column.ensures

pub returns-in-Value : goal.returns-in-Value
returns-in-Value c = subst (λ p. Tells c.args.graph.now (as_place p) c.args.word.now c.see_value.result) (sym c.in-Value.is) (c.see_value.ensures c.args.graph.now)

pub returns-in-Times : goal.returns-in-Times
returns-in-Times c = subst (λ p. Tells c.args.graph.now (as_place p) c.args.word.now c.see_fixed.result) (sym c.in-Times.is) (c.see_fixed.ensures.times c.args.graph.now c.args.word.now)

pub returns-in-Shared : goal.returns-in-Shared
returns-in-Shared c = subst (λ p. Tells c.args.graph.now (as_place p) c.args.word.now c.see_fixed-in-Shared.result) (sym c.in-Shared.is) (c.see_fixed-in-Shared.ensures.shared c.args.graph.now c.args.word.now)

pub returns-in-Weight : goal.returns-in-Weight
returns-in-Weight c = subst (λ p. Tells c.args.graph.now (as_place p) c.args.word.now c.see_weight.result) (sym c.in-Weight.is) c.see_weight.ensures
