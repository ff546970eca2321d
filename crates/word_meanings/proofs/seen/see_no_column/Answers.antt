use Rattle.std.proofs.Common.{false, sym, ◌∙◌, ap, subst}
use Rattle.word_meanings.specs.Lookups.{IsFound}
use Rattle.word_meanings.specs.Telling.{Tells, place_of_column, no_column_seen}
use Rattle.word_meanings.proofs.ColumnWords.{absent_named, absent_misspelled}
use Rattle.word_meanings.proofs.seen.see_no_column.Goals as goal

pub returns-in-Some : goal.returns-in-Some
returns-in-Some c =
    subst (Tells c.args.graph.now (place_of_column c.args.hosted) c.args.word.now) (sym (c.no_column_seen.ensures ∙ ap (no_column_seen c.args.hosted false c.stands_for-found.result) c.is_some-other.ensures))
    (absent_named c.args.graph.now c.args.hosted c.args.word.now _ c.stands_for-found.result c.find_column.result (sym c.in-Some.ensures) c.stands_for-found.ensures c.requires c.find_column.ensures)

pub returns-in-None : goal.returns-in-None
returns-in-None c = subst (Tells c.args.graph.now (place_of_column c.args.hosted) c.args.word.now) (sym c.no_column_seen-in-None.ensures)
    (absent_misspelled c.args.graph.now c.args.hosted c.args.word.now c.look_up.result.found c.decls.ensures.is_graph (sym c.in-None.ensures) (subst (λ w. IsFound c.args.graph.now w c.look_up.result.found) c.before_dot.ensures c.look_up.ensures.found))
