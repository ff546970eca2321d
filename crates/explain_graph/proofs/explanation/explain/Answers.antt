use Rattle.explain_graph.proofs.NamedItems.{named}
use Rattle.explain_graph.proofs.explanation.explain.Goals as goal

pub returns-clause-names : goal.returns-clause-names
returns-clause-names c = named c.args.graph.now c.edges_between_lines.ensures c.all_accesses_fit.ensures c.lines.ensures.is_graph c.args.why c.in_ok-explanation.explanation c.requires.lines c.in_ok-explanation.ensures
