use Rattle.std.proofs.Common.{rules, ◌≢◌, refl, inr}
use Rattle.race_check.specs.declared.checked.CheckRefusal.TheVariants.{NoMemory}
use Rattle.program_io.proofs.Public.{written_then_flushed, stopped_is_broken}
use Rattle.graph_answers.proofs.Delivering.{broken_text, unfit_rejected}
use Rattle.graph_answers.proofs.refusing.reject.Goals as goal

pub returns-in-Ok-clause-rejected : goal.returns-in-Ok-clause-rejected
returns-in-Ok-clause-rejected g c =
    let a_rule : c.args.unfit.now.why ≢ NoMemory = search rules in
    let text = broken_text c.args.unfit.now.graph c.args.unfit.now.why a_rule in
    unfit_rejected c.args.unfit.now.graph _ _ c.flush.result c.args.unfit.now.why text.0 c.requires.0 text.1 (written_then_flushed _ _ _ _ c.flush.result text.0 (c.in-Ok.ensures text.0 text.1) c.flush.ensures)

pub returns-in-Err-clause-rejected : goal.returns-in-Err-clause-rejected
returns-in-Err-clause-rejected g c =
    let a_rule : c.args.unfit.now.why ≢ NoMemory = search rules in
    let text = broken_text c.args.unfit.now.graph c.args.unfit.now.why a_rule in
    unfit_rejected c.args.unfit.now.graph _ _ _ c.args.unfit.now.why text.0 c.requires.0 text.1 (inr (refl, stopped_is_broken _ _ text.0 (c.in-Err.ensures text.0 text.1)))
