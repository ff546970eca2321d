use Rattle.std.proofs.Common.{◌≡◌, get_or}
use Rattle.share_words.specs.Shares.{most_below}
use Rattle.share_words.proofs.counting.most_of.Given as goal

abbrev pub invariant-loop-c : goal.invariant-loop-c
invariant-loop-c l = l.most ≡ most_below (λ c. get_or l.counts c 0) l.c
