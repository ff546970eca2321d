use Rattle.run_handles.proofs.Endings.{calls_end, evaluated}
use Rattle.run_handles.proofs.run.ending.given_by.Goals as goal

pub returns-clause-evaluated : goal.returns-clause-evaluated
returns-clause-evaluated c =
    evaluated c.waits_where_reached_for_all_effects.ensures c.args.core c.finish.new.self c.is_sound.ensures.sound c.is_sound-2.ensures.sound c.finish.ensures.goes_on c.requires.hosted
    c.outcome.result c.outcome.ensures.evaluated

pub returns-clause-ends : goal.returns-clause-ends
returns-clause-ends c =
    calls_end c.waits_where_reached_for_all_effects.ensures c.args.core c.finish.new.self c.is_sound.ensures.sound c.is_sound-2.ensures.sound c.finish.ensures.goes_on c.requires.hosted
    c.outcome.result c.outcome.ensures.evaluated c.requires.none_left
