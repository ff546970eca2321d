use Rattle.std.proofs.Common.{None, Some, ap, sym}
use Rattle.std.proofs.lemmas.Option.{none-some, same_Some}
use Rattle.session_text.proofs.Naming.{found_place, no_place}
use Rattle.session_text.proofs.links.find_line.Goals as goal

pub returns-in-Line : goal.returns-in-Line
returns-in-Line c = sym (found_place c.args.graph.now c.args.name.now c.lines.ensures.is_graph (Some c.in_ok-line.field-0) c.in-Line.line c.in_ok-line.ensures (ap (λ f. Some f) c.in-Line.is))

pub returns-in_default : goal.returns-in_default
returns-in_default c = sym (no_place c.args.graph.now c.args.name.now c.lines.ensures.is_graph (Some c.in_ok-line.field-0) c.in_ok-line.ensures (λ i e. c.in_default.not-Line i (same_Some _ _ e)))

pub returns-in_err-line : goal.returns-in_err-line
returns-in_err-line c = rw c.from_residual.ensures (sym (no_place c.args.graph.now c.args.name.now c.lines.ensures.is_graph None c.in_err-line.ensures (λ i e. none-some _ e)))
