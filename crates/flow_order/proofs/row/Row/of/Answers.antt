use Rattle.std.proofs.Common.{◌/◌, ◌%◌, length, ◌∙◌, ap}
use Rattle.std.specs.Prelude.{◌==◌}
use Rattle.std.specs.Int.{bit_at}
use Rattle.flow_order.specs.Bits.{word_bit}
use Rattle.flow_order.proofs.RowSteps.{kept_copy}
use Rattle.flow_order.proofs.row.Row.of.Goals as goal

pub returns-clause-bits : goal.returns-clause-bits
returns-clause-bits c = λ i.
    ap (λ w. bit_at w (i % 64) == 1) (kept_copy c.words-all.result.now c.in-Ok.words.items c.full_words-full.result c.used_words-used.result (length c.words-all.result.now) c.full_words-full.ensures.within c.in-Ok.ensures.items c.full_words-full.ensures.all c.used_words-used.ensures.none (i / 64))
    ∙ ap (λ ws. word_bit ws i) c.words-all.ensures
