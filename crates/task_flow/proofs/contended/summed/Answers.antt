use Rattle.std.proofs.Common.{sym}
use Rattle.basics.proofs.ListFacts.{got_contains}
use Rattle.graph_terms.specs.Access.{accesses}
use Rattle.task_flow.proofs.contended.summed.Goals as goal

pub returns-then-eq-clause-column : goal.returns-then-eq-clause-column
returns-then-eq-clause-column c =
    (c.accesses_fit.ensures c.args.flow.now c.args.line c.in-Some.access c.lines.ensures.is_graph (got_contains (accesses c.args.flow.now c.args.line) c.loop-k.k c.in-Some.access (sym c.in-Some.ensures))).column

pub returns-then-eq-clause-space : goal.returns-then-eq-clause-space
returns-then-eq-clause-space c =
    (c.accesses_fit.ensures c.args.flow.now c.args.line c.in-Some.access c.lines.ensures.is_graph (got_contains (accesses c.args.flow.now c.args.line) c.loop-k.k c.in-Some.access (sym c.in-Some.ensures))).space
