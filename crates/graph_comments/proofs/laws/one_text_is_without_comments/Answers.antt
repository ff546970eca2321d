use Rattle.graph_comments.proofs.KeptLines.{none_is_left}
use Rattle.graph_comments.proofs.Numbered.{numbers_stay}
use Rattle.graph_comments.proofs.laws.one_text_is_without_comments.Goals as goal

pub returns : goal.returns
returns c = record { none = none_is_left; numbers = numbers_stay }
