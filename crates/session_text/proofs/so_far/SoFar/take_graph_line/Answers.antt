use Rattle.std.proofs.Common.{sym, ◌∙◌, ap}
use Rattle.std.proofs.lemmas.Result.{IfOk-weaker, IfErr-weaker}
use Rattle.basics.specs.Words.{contents}
use Rattle.session_text.specs.Fits.{graph_reason}
use Rattle.session_text.specs.SoFar.{last_entry, entries_in}
use Rattle.session_text.proofs.Steps.{at_graph, refused_line, by_graph_line, is_refusal}
use Rattle.session_text.proofs.so_far.SoFar.take_graph_line.Goals as goal

pub returns-in-Ok-clause-taken : goal.returns-in-Ok-clause-taken
returns-in-Ok-clause-taken c = IfOk-weaker c.take_graph.result _ _ (λ x h bytes rest r l.
    h bytes (at_graph bytes rest c.in-Ok.name c.args.self.now (contents c.args.words.now) c.args.after.now c.args.number r l c.requires.graph_line (c.in-Ok.ensures.0 ∙ c.word.ensures))) c.take_graph.ensures.taken

pub returns-in-Ok-clause-refused : goal.returns-in-Ok-clause-refused
returns-in-Ok-clause-refused c = IfErr-weaker c.take_graph.result _ _ (λ e h bytes rest r l.
    h bytes (at_graph bytes rest c.in-Ok.name c.args.self.now (contents c.args.words.now) c.args.after.now c.args.number r l c.requires.graph_line (c.in-Ok.ensures.0 ∙ c.word.ensures))) c.take_graph.ensures.refused

pub returns-in-Err-clause-refused : goal.returns-in-Err-clause-refused
returns-in-Err-clause-refused c = λ bytes rest r l.
    let ws = contents c.args.words.now in
    let s = c.args.self.now in
    is_refusal bytes c.refused.result c.args.number c.in-Err.why c.refused.ensures
    (refused_line bytes rest s ws c.args.after.now c.args.number c.in-Err.why r l (by_graph_line s.before.items (last_entry s.last) ws c.requires.filled c.requires.graph_line ∙ (ap (graph_reason (entries_in s)) (sym c.word.ensures) ∙ c.in-Err.ensures)))
