use Rattle.std.proofs.lemmas.List.Elements.{Contains-get_or}
use Rattle.event_tests.proofs.asking.left_answers.Goals as goal

pub look-requires : goal.look-requires
look-requires c = record { created = c.requires _ (Contains-get_or c.args.handles.now c.loop-place.place _ c.loop-place-test.true) }
