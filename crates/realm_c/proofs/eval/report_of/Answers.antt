use Rattle.std.proofs.Common.{ap, ◌∙◌}
use Rattle.std.proofs.lemmas.Option.{IfSome_then}
use Rattle.run_report.specs.Report.{evaluation_report}
use Rattle.realm_c.proofs.eval.report_of.Goals as goal

pub returns : goal.returns
returns c = IfSome_then c.report_text.result c.report_text.ensures (λ r p. p ∙ ap evaluation_report c.graph.ensures.graph)
