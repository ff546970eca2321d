use Rattle.basics.specs.Words.{contents}
use Rattle.std.proofs.Common.{ap, ◌∙◌}
use Rattle.graph_words.specs.Draft.{column_number_of, space_number}
use Rattle.graph_words.specs.Words.{pieces}
use Rattle.refused_words.proofs.UseFacts.{use_found, no_use_at}
use Rattle.refused_words.proofs.outside.is_use.Goals as goal

pub returns-then-named-column : goal.returns-then-named-column
returns-then-named-column c =
    let g = c.args.graph.now in
    use_found g c.args.column c.args.places.now (contents c.args.rest.now) c.args.k c.in-Column.mode c.in-Column.over _ c.see-named.result.number c.see-space.result.number c.is_outside.result c.requires c.in-Column.is
    (c.see-named.ensures.number ∙ ap (λ w. column_number_of g (pieces 46 w)) c.word.ensures)
    (c.see-space.ensures.number ∙ ap (space_number g) c.word-in-Column.ensures)
    c.if-named-column.true c.is_outside.ensures

pub returns-in_default : goal.returns-in_default
returns-in_default c = no_use_at c.args.graph.now c.args.column c.args.places.now (contents c.args.rest.now) c.args.k _ c.requires c.in_default.not-Column
