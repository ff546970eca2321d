-- The laws that the proofs of other crates cite, as specs/ states them.
use Rattle.graph_comments.specs.Laws.{LinesStay, NumbersStay}
use Rattle.graph_comments.proofs.Numbered as numbered

pub lines_stay : LinesStay
lines_stay = numbered.lines_stay

pub numbers_stay : NumbersStay
numbers_stay = numbered.numbers_stay
