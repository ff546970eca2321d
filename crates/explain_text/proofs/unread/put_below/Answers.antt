use Rattle.std.proofs.Common.{[], ap, map, take}
use Rattle.std.specs.Prelude.{codes, decimal, flat_map}
use Rattle.std.specs.List.{slice_index_or}
use Rattle.basics.specs.Words.{contents}
use Rattle.explain_text.specs.Unread.{blank_word}
use Rattle.explain_text.specs.Visible.{visible}
use Rattle.explain_text.proofs.TextFacts.{then_puts, put_as}
use Rattle.explain_text.proofs.unread.put_below.Goals as goal

pub returns : goal.returns
returns c =
    let r = c.put-3.result in
    let ws = contents c.args.words.now in
    (then_puts r _ _ _ (codes "     ") _ c.in_ok-put.ensures (then_puts r _ _ _ (map (λ d. 32) (decimal c.args.number)) _ (put_as _ _ _ _ (ap (λ n. map (λ d. 32) (decimal n)) c.from.ensures) c.in_ok-put_number_blank.ensures)
    (then_puts r _ _ _ (codes "  ") _ c.in_ok-put-2.ensures (then_puts r _ _ _ (flat_map blank_word (take c.args.k ws)) _ (put_as _ _ _ _ (ap (flat_map blank_word) c.front.ensures) c.in_ok-put_blanks.ensures)
    (then_puts r _ _ _ (map (λ b. 94) (visible (slice_index_or ws c.args.k []))) (codes "\n") (put_as _ _ _ _ (ap (λ w. map (λ b. 94) (visible w)) c.word.ensures) c.in_ok-put_below.ensures) c.put-3.ensures)))))
