use Rattle.race_pairs.proofs.Public.{sections_alone}
use Rattle.sweep_base.proofs.Public.{none_of}
use Rattle.race_check.proofs.judge.topmost_of.Goals as goal

pub topmost_race_from-requires-clause-alone : goal.topmost_race_from-requires-clause-alone
topmost_race_from-requires-clause-alone c = sections_alone c.args.graph.now c.requires.race.2 c.requires.race.3

pub topmost_race_from-requires-clause-above : goal.topmost_race_from-requires-clause-above
topmost_race_from-requires-clause-above c k low m = c.requires.race.5.before k m low

pub unreachable-requires : goal.unreachable-requires
unreachable-requires c = c.requires.race.5.here (none_of _ _ c.in_ok-found.found c.in-None.is c.in_ok-found.ensures c.args.first c.args.second)
