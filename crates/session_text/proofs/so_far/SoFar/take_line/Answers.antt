use Rattle.std.proofs.Common.{sym}
use Rattle.basics.specs.Words.{contents}
use Rattle.graph_terms.specs.declared.why.Why.TheVariants as why
use Rattle.session_text.specs.SoFar.{last_entry}
use Rattle.session_text.proofs.Steps.{refused_line, empty_word, no_form, is_refusal}
use Rattle.session_text.proofs.so_far.SoFar.take_line.Goals as goal

pub returns-then-any_empty-clause-refused : goal.returns-then-any_empty-clause-refused
returns-then-any_empty-clause-refused c = λ bytes rest r l.
    let ws = contents c.args.words.now in
    let s = c.args.self.now in
    is_refusal bytes c.refused.result c.args.number why.Syntax c.refused.ensures (refused_line bytes rest s ws c.args.after.now c.args.number why.Syntax r l (empty_word s.before.items (last_entry s.last) ws (sym c.if-any_empty.ensures)))

pub returns-clause-refused : goal.returns-clause-refused
returns-clause-refused c = λ bytes rest r l.
    let ws = contents c.args.words.now in
    let s = c.args.self.now in
    is_refusal bytes c.refused-2.result c.args.number why.Syntax c.refused-2.ensures
    (refused_line bytes rest s ws c.args.after.now c.args.number why.Syntax r l (no_form s.before.items (last_entry s.last) ws (sym c.if-any_empty.ensures) (sym c.if-is_graph_line.ensures) (sym c.if-is_link_line.ensures)))
