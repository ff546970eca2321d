use Rattle.std.proofs.Common.{◌∙◌, ap}
use Rattle.std.specs.Prelude.{[], slice_index_or}
use Rattle.std.specs.List.{list_any}
use Rattle.graph_words.specs.Draft.{draft, column_number_of}
use Rattle.graph_words.specs.Words.{pieces}
use Rattle.refused_words.specs.Refused.{draft_accesses, leaves_column}
use Rattle.refused_words.proofs.outside.leaves_named.Goals as goal

pub returns : goal.returns
returns c =
    let g = c.args.graph.now in
    let named = c.see_column-column.ensures.number ∙ ap (λ w. column_number_of g (pieces 46 w)) (c.word.ensures ∙ ap (λ xs. slice_index_or xs c.args.k []) c.words-words.ensures) in
    c.leaves_column.ensures ∙ (ap (λ xs. list_any (leaves_column g c.see_column-column.result.number) (draft_accesses (draft g xs))) c.words-words.ensures ∙ ap (λ n. list_any (leaves_column g n) (draft_accesses (draft g (c.args.line.now).words))) named)
