use Rattle.std.proofs.Common.{sym}
use Rattle.realm_top.proofs.Serving.{unrun}
use Rattle.realm_top.proofs.input.serve.Goals as goal

pub answer_unrun-requires-clause-unrun : goal.answer_unrun-requires-clause-unrun
answer_unrun-requires-clause-unrun g c = unrun c.args.request.action c.args.request.text c.requires.checks c.requires.made (sym c.if-is_run.ensures)
