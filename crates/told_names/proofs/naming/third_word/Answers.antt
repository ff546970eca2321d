use Rattle.std.proofs.Common.{◌∷◌, ◌∙◌, ap, sym}
use Rattle.graph_words.proofs.Public.{one_piece, pieces_cut}
use Rattle.told_names.specs.Named.{third_of}
use Rattle.told_names.proofs.naming.third_word.Goals as goal

pub returns-in_default : goal.returns-in_default
returns-in_default c = sym (ap third_of (one_piece 32 c.args.line.now c.in_default.ensures))

pub returns-in_default-cut : goal.returns-in_default-cut
returns-in_default-cut c =
    sym (ap third_of (pieces_cut 32 c.args.line.now c.in-Some.field-0-0.now c.in-Some.behind.now c.in-Some.ensures ∙ ap (λ z. c.in-Some.field-0-0.now ∷ z) (one_piece 32 c.in-Some.behind.now c.in_default-cut.ensures)))

pub returns-in-Some-cut-2 : goal.returns-in-Some-cut-2
returns-in-Some-cut-2 c =
    sym (ap third_of (pieces_cut 32 c.args.line.now c.in-Some.field-0-0.now c.in-Some.behind.now c.in-Some.ensures ∙ ap (λ z. c.in-Some.field-0-0.now ∷ z)
    (pieces_cut 32 c.in-Some.behind.now c.in-Some-cut.field-0-0.now c.in-Some-cut.rest.now c.in-Some-cut.ensures ∙ ap (λ z. c.in-Some-cut.field-0-0.now ∷ z)
    (pieces_cut 32 c.in-Some-cut.rest.now c.in-Some-cut-2.third.now c.in-Some-cut-2.field-0-1.now c.in-Some-cut-2.ensures))))

pub returns-in-None : goal.returns-in-None
returns-in-None c =
    sym (ap third_of (pieces_cut 32 c.args.line.now c.in-Some.field-0-0.now c.in-Some.behind.now c.in-Some.ensures ∙ ap (λ z. c.in-Some.field-0-0.now ∷ z)
    (pieces_cut 32 c.in-Some.behind.now c.in-Some-cut.field-0-0.now c.in-Some-cut.rest.now c.in-Some-cut.ensures ∙ ap (λ z. c.in-Some-cut.field-0-0.now ∷ z)
    (one_piece 32 c.in-Some-cut.rest.now c.in-None.ensures))))
