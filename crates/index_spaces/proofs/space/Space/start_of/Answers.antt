use Rattle.std.proofs.Common.{◌≡◌}
use Rattle.index_spaces.specs.Space.{rank}
use Rattle.index_spaces.proofs.RunFacts.{run_at}
use Rattle.index_spaces.proofs.space.Space.start_of.Goals as goal

pub returns : goal.returns
returns c =
    let e : c.unwrap.result ≡ rank c.args.self.now c.args.interval.0 = rw c.unwrap.ensures at c.rank.ensures.rank in
    run_at c.args.self.now c.args.interval c.unwrap.result c.intervals.ensures.is_space c.requires e
