use Rattle.graph_words.proofs.WordLists.{words_behind}
use Rattle.graph_words.proofs.words.behind.Goals as goal

pub returns : goal.returns
returns c = words_behind c.args.words.now c.args.n c.requires
