-- What others may cite.
use Rattle.line_marks.specs.Laws.{MarksMore, MarksAs, UnmarkedMost}
use Rattle.line_marks.proofs.MarkFacts as facts

pub marks_more : MarksMore
marks_more = facts.marks_more

pub marks_as : MarksAs
marks_as = facts.marks_as

pub unmarked_most : UnmarkedMost
unmarked_most = facts.unmarked_most
