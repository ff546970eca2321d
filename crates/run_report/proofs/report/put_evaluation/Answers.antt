use Rattle.realm_io.proofs.Public.{writes_as}
use Rattle.run_report.proofs.Fitting.{outcome_fits, report_is}
use Rattle.run_report.proofs.report.put_evaluation.Goals as goal

pub put_parts-requires : goal.put_parts-requires
put_parts-requires g c = outcome_fits c.args.graph.now c.args.found.now c.args.found.now.trace c.requires

pub returns : goal.returns
returns g c = writes_as _ _ _ _ c.put_parts.result (report_is c.args.graph.now c.args.found.now c.args.found.now.trace c.requires) c.put_parts.ensures
