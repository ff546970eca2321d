use Rattle.std.proofs.Common.{◌≡◌, length, ◌∙◌, arith}
use Rattle.basics.specs.Words.{contents}
use Rattle.graph_words.proofs.CallLists.{few_left, words_long}
use Rattle.graph_words.proofs.calls.behind_accesses.Goals as goal

pub returns : goal.returns
returns c = let e : length (contents c.loop-rest.rest.now) ≡ length c.loop-rest.rest.now = words_long c.loop-rest.rest.now in few_left (contents c.loop-rest.rest.now) (omega arith) ∙ c.loop-rest.invariant
