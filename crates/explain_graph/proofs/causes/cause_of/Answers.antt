use Rattle.std.proofs.Common.{sym, ◌∙◌}
use Rattle.explain_graph.proofs.CauseFacts.{on_is, source_is, target_is, no_cause}
use Rattle.explain_graph.proofs.causes.cause_of.Goals as goal

pub line-source-requires : goal.line-source-requires
line-source-requires c = (c.edges_between_lines.ensures c.args.graph.now c.args.edge c.lines.ensures.is_graph c.requires).0

pub line-target-requires : goal.line-target-requires
line-target-requires c = (c.edges_between_lines.ensures c.args.graph.now c.args.edge c.lines.ensures.is_graph c.requires).1

pub returns-then-is_on-clause-cause : goal.returns-then-is_on-clause-cause
returns-then-is_on-clause-cause c =
    on_is c.args.graph.now c.args.edge c.line-source.result.now c.line-target.result.now c.line-source.ensures.line c.line-target.ensures.line (sym c.is_on.ensures ∙ c.if-is_on.true)

pub returns-in-Some-clause-cause : goal.returns-in-Some-clause-cause
returns-in-Some-clause-cause c =
    source_is c.args.graph.now c.args.edge c.line-source.result.now c.line-target.result.now c.line-source.ensures.line c.line-target.ensures.line c.in-Some.cause (sym c.source_cause.ensures ∙ c.in-Some.is)

pub unreachable-requires : goal.unreachable-requires
unreachable-requires c =
    no_cause c.args.graph.now c.args.edge c.line-source.result.now c.line-target.result.now c.line-source.ensures.line c.line-target.ensures.line
    (sym c.is_on.ensures ∙ c.if-is_on.false) (sym c.source_cause.ensures ∙ c.in_default.is) (sym c.target_cause.ensures ∙ c.in-None.is) c.requires

pub returns-clause-cause : goal.returns-clause-cause
returns-clause-cause c =
    target_is c.args.graph.now c.args.edge c.line-source.result.now c.line-target.result.now c.line-source.ensures.line c.line-target.ensures.line c.in-Some-target_cause.cause (sym c.target_cause.ensures ∙ c.in-Some-target_cause.is)
