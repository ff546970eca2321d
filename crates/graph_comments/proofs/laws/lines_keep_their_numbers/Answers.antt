use Rattle.graph_comments.proofs.Numbered.{lines_stay, numbers_grow, comments_go}
use Rattle.graph_comments.proofs.laws.lines_keep_their_numbers.Goals as goal

pub returns : goal.returns
returns c = record { stay = lines_stay; grow = numbers_grow; go = comments_go }
