use Rattle.std.proofs.Common.{ap, sym, ◌∙◌}
use Rattle.graph_words.specs.Cuts.{dotted, behind_two}
use Rattle.graph_words.proofs.CutBytes.{one_piece}
use Rattle.graph_words.proofs.IntervalWords.{dots_behind, behind_empty, behind_some}
use Rattle.graph_words.proofs.intervals.around_dots.Goals as goal

pub returns-in_default : goal.returns-in_default
returns-in_default c = ap dotted (one_piece 46 c.args.word.now c.in_default.ensures)

pub returns-in_default-around_dot : goal.returns-in_default-around_dot
returns-in_default-around_dot c = dots_behind c.args.word.now c.in-Some.low.now c.in-Some.rest.now c.in-Some.ensures ∙ ap (behind_two c.in-Some.low.now) c.in_default-around_dot.ensures

pub returns-then-is_empty : goal.returns-then-is_empty
returns-then-is_empty c = dots_behind c.args.word.now c.in-Some.low.now c.in-Some.rest.now c.in-Some.ensures
    ∙ (ap (behind_two c.in-Some.low.now) c.in-Some-around_dot.ensures ∙ behind_empty c.in-Some.low.now c.in-Some-around_dot.between.now c.in-Some-around_dot.high.now (sym c.is_empty.ensures ∙ c.if-is_empty.true))

pub returns-else-is_empty : goal.returns-else-is_empty
returns-else-is_empty c = dots_behind c.args.word.now c.in-Some.low.now c.in-Some.rest.now c.in-Some.ensures
    ∙ (ap (behind_two c.in-Some.low.now) c.in-Some-around_dot.ensures ∙ behind_some c.in-Some.low.now c.in-Some-around_dot.between.now c.in-Some-around_dot.high.now (sym c.is_empty.ensures ∙ c.if-is_empty.false))
