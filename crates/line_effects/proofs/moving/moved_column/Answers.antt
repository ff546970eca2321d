use Rattle.std.proofs.Common.{sym, ◌∙◌}
use Rattle.line_effects.proofs.EffectFacts.{access_listed}
use Rattle.line_effects.proofs.moving.moved_column.Goals as goal

pub returns-in-Some-clause-known : goal.returns-in-Some-clause-known
returns-in-Some-clause-known c = (c.accesses_fit.ensures c.args.graph.now c.args.line c.in-Some.access c.lines.ensures.is_graph (access_listed c.args.graph.now c.args.line c.args.k c.in-Some.access (sym c.access.ensures ∙ c.in-Some.is))).column
