use Rattle.std.proofs.Common.{◌≡◌, true, ◌&&◌, sym, ap, ◌∙◌}
use Rattle.std.specs.Prelude.{bytes_eq}
use Rattle.word_meanings.specs.WordFaults.{is_line_name}
use Rattle.session_text.specs.Fits.{has_op}
use Rattle.session_text.proofs.OpNames.{judged_names}
use Rattle.session_text.proofs.links.names_op_of.Goals as goal

pub returns-then-eq : goal.returns-then-eq
returns-then-eq c =
    let named : bytes_eq c.args.entry.now.name c.args.link.now.graph ≡ true = sym c.eq.ensures ∙ c.if-eq.true in
    c.is_line_name.ensures
    ∙ (ap (λ g. is_line_name g c.args.link.now.op) c.requires.judged
    ∙ (judged_names c.args.entry.now c.args.link.now.op ∙ ap (λ b. b && has_op c.args.entry.now c.args.link.now.op) (sym named)))
