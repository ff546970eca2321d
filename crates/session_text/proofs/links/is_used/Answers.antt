use Rattle.std.proofs.Common.{sym, ◌∙◌}
use Rattle.session_text.proofs.Naming.{used_by}
use Rattle.session_text.proofs.links.is_used.Goals as goal

pub returns : goal.returns
returns c = c.is_some.ensures ∙ sym (used_by c.args.graph.now c.args.name.now c.lines.ensures.is_graph c.find.result c.find.ensures)
