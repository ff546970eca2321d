use Rattle.std.proofs.lemmas.List.Elements.{Contains-get_or}
use Rattle.race_sweeps.proofs.unexempt.harden_all.Goals as goal

pub harden_group-requires-clause-group : goal.harden_group-requires-clause-group
harden_group-requires-clause-group c = c.requires.groups _ (Contains-get_or c.args.groups.now c.loop-group.group-index (record { class = 0; word = 0; floor = 0 }) c.loop-group-test.true)

pub loop-group-preserved : goal.loop-group-preserved
loop-group-preserved c = record { size = c.harden_group.ensures.size; hard = λ end within listed h. c.harden_group.ensures.hard end within listed (c.loop-group.invariant.hard end within listed h) }
