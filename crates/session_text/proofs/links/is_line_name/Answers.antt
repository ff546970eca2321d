use Rattle.std.proofs.Common.{sym, ◌∙◌, ap}
use Rattle.std.specs.Prelude.{is_some}
use Rattle.session_text.proofs.Naming.{place_named}
use Rattle.session_text.proofs.links.is_line_name.Goals as goal

pub returns : goal.returns
returns c = c.is_some.ensures ∙ (ap is_some c.find_line.ensures ∙ sym (place_named c.args.graph.now c.args.name.now))
