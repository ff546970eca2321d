use Rattle.race_check.proofs.RuleSteps.{faultless_none, faultless_by, on_known}
use Rattle.race_check.proofs.release_faults.is_faultless.Goals as goal

pub returns-in_default : goal.returns-in_default
returns-in_default c = faultless_none c.args.graph.now c.args.line c.in_default.ensures

pub stands_on_merges-requires : goal.stands_on_merges-requires
stands_on_merges-requires c = on_known c.args.graph.now c.line.ensures.is_graph c.args.line c.line.result.now c.as_slice.result.now c.requires c.line.ensures.line c.as_slice.ensures

pub returns : goal.returns
returns c = faultless_by c.args.graph.now c.args.line c.in-Some._acquire c.line.result.now c.as_slice.result.now c.stands_on_merges.result c.in-Some.ensures.0 c.line.ensures.line c.as_slice.ensures c.stands_on_merges.ensures
