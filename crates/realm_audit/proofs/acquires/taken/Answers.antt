use Rattle.std.proofs.Common.{sym, ◌∙◌, arith}
use Rattle.graph_terms.specs.declared.outcome.End.TheVariants.{Done}
use Rattle.realm_audit.proofs.EndFacts.{end_at, ends_size}
use Rattle.realm_audit.proofs.acquires.taken.Goals as goal

pub returns-in_default : goal.returns-in_default
returns-in_default c = λ l t. c.in_default.ensures l t.0

pub at-requires : goal.at-requires
at-requires c = omega (arith, ends_size c.args.graph.now c.args.ends.now c.requires.ends, c.requires.known)

pub returns-in-Done : goal.returns-in-Done
returns-in-Done c = let a = c.in-Some.ensures in ((a.0, end_at c.args.graph.now c.args.ends.now c.requires.ends c.args.line Done c.in-Done.ensures), a.1, a.2)

pub returns-in_default-at : goal.returns-in_default-at
returns-in_default-at c = λ l t. c.in_default-at.not-Done (sym (end_at c.args.graph.now c.args.ends.now c.requires.ends c.args.line c.at.result c.at.ensures) ∙ t.1)
