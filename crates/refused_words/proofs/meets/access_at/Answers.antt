use Rattle.std.proofs.Common.{◌∙◌, ap, sym}
use Rattle.refused_words.specs.Meets.{is_data_column}
use Rattle.refused_words.proofs.PlaceFacts.{data_column_below}
use Rattle.refused_words.proofs.meets.access_at.Goals as goal

pub word_access-requires : goal.word_access-requires
word_access-requires c =
    let l = c.args.line.now in
    data_column_below l.format l.words c.args.k (ap is_data_column (sym c.place.ensures) ∙ (sym c.is_data_column.ensures ∙ c.if-is_data_column.true))
