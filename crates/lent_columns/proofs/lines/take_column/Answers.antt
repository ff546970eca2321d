use Rattle.std.proofs.Common.{sym, ◌∙◌}
use Rattle.lent_columns.proofs.LineFacts.{share_taken}
use Rattle.lent_columns.proofs.lines.take_column.Goals as goal

pub returns-then-is_read : goal.returns-then-is_read
returns-then-is_read c =
    share_taken c.args.access c.args.homes.now c.share-share.new.self c.args.held.now c.add_share.new.self c.share-share.result (sym c.is_read.ensures ∙ c.if-is_read.true) c.share-share.ensures
    c.add_share.ensures.held c.add_share.ensures.lending c.add_share.ensures.number
