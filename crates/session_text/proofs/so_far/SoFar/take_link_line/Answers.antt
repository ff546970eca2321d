use Rattle.std.proofs.Common.{sym, ◌∙◌}
use Rattle.session_text.proofs.Steps.{link_taken, refused_line, by_link_line, link_no_graph, is_refusal}
use Rattle.basics.specs.Words.{contents}
use Rattle.session_text.specs.SoFar.{last_entry}
use Rattle.session_text.proofs.so_far.SoFar.take_link_line.Goals as goal

pub returns-in-Ok-None-clause-taken : goal.returns-in-Ok-None-clause-taken
returns-in-Ok-None-clause-taken c = λ bytes rest r l.
    let none = sym c.in-Ok-None.ensures.fault ∙ c.in-Ok-None.field-0-is in
    link_taken bytes rest c.args.self.now c.take_link.new.self (contents c.args.words.now) c.args.after.now c.args.number r l c.requires.link_line (c.in-Ok-None.ensures.added none) none

pub returns-in-Ok-Some-clause-refused : goal.returns-in-Ok-Some-clause-refused
returns-in-Ok-Some-clause-refused c = λ bytes rest r l.
    let ws = contents c.args.words.now in
    let s = c.args.self.now in
    is_refusal bytes c.refused.result c.args.number c.in-Ok-Some.why c.refused.ensures
    (refused_line bytes rest s ws c.args.after.now c.args.number c.in-Ok-Some.why r l (by_link_line s.before.items (last_entry s.last) ws c.requires.filled (link_no_graph ws c.requires.link_line) c.requires.link_line ∙ (sym c.in-Ok-Some.ensures.fault ∙ c.in-Ok-Some.field-0-is)))
