use Rattle.std.proofs.Common.{arith}
use Rattle.graph_meaning.specs.Rules.{ReleasedAt}
use Rattle.race_check.proofs.BeyondLines.{released_beyond}
use Rattle.sweep_base.proofs.Public.{some_of, none_of}
use Rattle.race_check.proofs.RuleSteps.{first_found, lines_more}
use Rattle.race_check.proofs.RuleSteps.{everywhere_by}
use Rattle.race_check.proofs.releases.first_unreleased.Goals as goal

pub first_of_block-requires-clause-whole : goal.first_of_block-requires-clause-whole
first_of_block-requires-clause-whole c b few low = omega (arith, c.min-end.ensures, few, low, c.lines-lines.ensures.number)

pub returns-in-Some : goal.returns-in-Some
returns-in-Some c =
    let e = some_of _ _ c.in_ok-found.found c.in-Some.line c.in-Some.is c.in_ok-found.ensures in
    (omega (arith, e.ends, c.min-end.ensures, c.lines-lines.ensures.number), first_found (ReleasedAt c.args.graph.now) c.loop-first.first c.min-end.result c.in-Some.line c.loop-first.invariant.before e)

pub loop-first-preserved : goal.loop-first-preserved
loop-first-preserved c = record { before = lines_more (ReleasedAt c.args.graph.now) c.loop-first.first c.min-end.result c.loop-first.invariant.before (none_of _ _ c.in_ok-found.found c.in_default.is c.in_ok-found.ensures) }

pub returns : goal.returns
returns c = everywhere_by (ReleasedAt c.args.graph.now) c.loop-first.first (λ i h. released_beyond c.args.graph.now i (omega (arith, h, c.loop-first-test.false, c.lines-lines.ensures.number))) c.loop-first.invariant.before
