use Rattle.race_pairs.proofs.Public.{sections_alone}
use Rattle.race_check.proofs.judge.no_races.Goals as goal

pub first_race-requires-clause-alone : goal.first_race-requires-clause-alone
first_race-requires-clause-alone c = sections_alone c.args.graph.now c.requires.sections.sections c.requires.sections.descends
