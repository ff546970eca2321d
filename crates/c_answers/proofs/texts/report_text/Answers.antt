use Rattle.std.proofs.Common.{◌≡◌, ℕ, List, subst}
use Rattle.std.specs.Prelude.{IfSome}
use Rattle.run_report.proofs.Fitting.{outcome_fits, report_is}
use Rattle.c_answers.proofs.texts.report_text.Goals as goal

pub outcome_text-requires : goal.outcome_text-requires
outcome_text-requires c = outcome_fits c.args.graph.now c.args.found.now c.args.found.now.trace c.requires

pub returns : goal.returns
returns c = subst (λ (text : List ℕ). IfSome c.outcome_text.result (λ report. report.items ≡ text)) (report_is c.args.graph.now c.args.found.now c.args.found.now.trace c.requires) c.outcome_text.ensures
