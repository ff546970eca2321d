use Rattle.std.proofs.lemmas.Bool.{eq-eqb}
use Rattle.task_flow.proofs.ContendSteps.{cells_are}
use Rattle.task_flow.proofs.contended.cells_meet.Goals as goal

pub returns : goal.returns
returns c = cells_are c.points_are_listed.ensures c.args.flow.now c.args.one c.args.other c.space.result.now c.space-2.result.now c.meets.result c.space.ensures c.space-2.ensures c.meets.ensures (eq-eqb c.args.one.column c.args.other.column c.if-one-other.false)
