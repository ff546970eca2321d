use Rattle.std.proofs.Common.{length, sym, ◌∙◌, ap}
use Rattle.std.specs.Prelude.{nat_lt}
use Rattle.explain_text.proofs.Pieces.{lines_size}
use Rattle.explain_text.proofs.lines.is_above_last.Goals as goal

pub returns : goal.returns
returns c = ap (λ n. nat_lt n (length c.pieces.result.now)) c.line_number.ensures ∙ ap (nat_lt _) (sym (lines_size c.pieces.result.now) ∙ ap length c.pieces.ensures)
