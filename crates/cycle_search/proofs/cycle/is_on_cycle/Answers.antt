use Rattle.std.proofs.Common.{sym, arith}
use Rattle.std.proofs.lemmas.Bool.{true≢false}
use Rattle.cycle_search.proofs.Ranking.{raised_no_cycle}
use Rattle.cycle_search.proofs.cycle.is_on_cycle.Goals as goal

pub returns-then-highest_source-ranks : goal.returns-then-highest_source-ranks
returns-then-highest_source-ranks c = (
  (λ h. absurd (true≢false (sym h))),
  (λ path. absurd (raised_no_cycle c.args.graph.now c.args.ranks.now c.requires.rising c.args.line (λ e known to. (let l = c.highest_source.ensures e known to in omega (arith, l, c.if-highest_source-ranks.true))) path)),
)
