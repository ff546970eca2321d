use Rattle.run_core.proofs.OutFacts.{out_taken, taken_only_exempt}
use Rattle.run_core.proofs.run.Core.attempt.Goals as goal

pub returns-in-Free-clause-out : goal.returns-in-Free-clause-out
returns-in-Free-clause-out c = out_taken c.args.self.now c.take.new.self c.take.result c.take.ensures.taken

pub returns-in-Free-clause-conflicts : goal.returns-in-Free-clause-conflicts
returns-in-Free-clause-conflicts c = taken_only_exempt c.out_conflict_only_exempt.ensures c.claim_keeps_sound.ensures c.args.self.now c.is_sound.ensures.sound c.take.result.line c.take.ensures.taken.due

pub returns-in-Cancelled-clause-conflicts : goal.returns-in-Cancelled-clause-conflicts
returns-in-Cancelled-clause-conflicts c = taken_only_exempt c.out_conflict_only_exempt.ensures c.claim_keeps_sound.ensures c.args.self.now c.is_sound.ensures.sound c.claim.result.line c.claim.ensures.taken.due

pub returns-in-Cancelled-clause-out : goal.returns-in-Cancelled-clause-out
returns-in-Cancelled-clause-out c = out_taken c.args.self.now c.claim.new.self c.claim.result c.claim.ensures.taken
