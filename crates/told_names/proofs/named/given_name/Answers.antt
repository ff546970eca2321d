use Rattle.std.proofs.Common.{◌∷◌, ◌∙◌, ap, sym}
use Rattle.graph_words.proofs.Public.{one_piece, pieces_cut}
use Rattle.told_names.specs.Named.{given_name}
use Rattle.told_names.proofs.named.given_name.Goals as goal

pub returns-in_default : goal.returns-in_default
returns-in_default c = sym (ap given_name (one_piece 32 c.args.line.now c.in_default.ensures))

pub returns-in-Some-cut_word : goal.returns-in-Some-cut_word
returns-in-Some-cut_word c =
    c.given_by.ensures
    ∙ sym (ap given_name (pieces_cut 32 c.args.line.now c.in-Some.first.now c.in-Some.rest.now c.in-Some.ensures ∙ ap (λ z. c.in-Some.first.now ∷ z) (pieces_cut 32 c.in-Some.rest.now c.in-Some-cut_word.second.now c.in-Some-cut_word.field-0-1.now c.in-Some-cut_word.ensures)))

pub returns-in-None : goal.returns-in-None
returns-in-None c =
    c.given_by-in-None.ensures
    ∙ sym (ap given_name (pieces_cut 32 c.args.line.now c.in-Some.first.now c.in-Some.rest.now c.in-Some.ensures ∙ ap (λ z. c.in-Some.first.now ∷ z) (one_piece 32 c.in-Some.rest.now c.in-None.ensures)))
