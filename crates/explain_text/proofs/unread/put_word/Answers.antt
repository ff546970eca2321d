use Rattle.std.proofs.Common.{◌+◌, ◌∙◌, sym, ap, take, length}
use Rattle.std.specs.Prelude.{codes, decimal}
use Rattle.basics.specs.Words.{contents}
use Rattle.explain_text.specs.Shown.{shown}
use Rattle.explain_text.proofs.Pieces.{lines_size}
use Rattle.explain_text.proofs.TextFacts.{then_puts, put_as}
use Rattle.explain_text.proofs.unread.put_word.Goals as goal

pub returns : goal.returns
returns c =
    let r = c.put-3.result in
    then_puts r _ _ _ (codes "word ") _ c.in_ok-put.ensures (then_puts r _ _ _ (decimal (length (take c.args.k (contents c.args.words.now)) + 1)) _ (put_as _ _ _ _ (ap (λ n. decimal (n + 1)) (sym (lines_size c.front.result.now) ∙ ap length c.front.ensures)) c.in_ok-put_number.ensures)
    (then_puts r _ _ _ (codes " of it is refused: ") _ c.in_ok-put-2.ensures (then_puts r _ _ _ _ (codes "\n") (put_as _ _ _ _ (ap shown c.word.ensures) c.in_ok-put_shown.ensures) c.put-3.ensures)))
