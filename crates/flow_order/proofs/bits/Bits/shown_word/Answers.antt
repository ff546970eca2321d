use Rattle.std.proofs.Common.{◌<◌, ◌/◌, length, ◌∙◌, ap, arith}
use Rattle.std.specs.Prelude.{slice_index}
use Rattle.std.proofs.lemmas.List.{get_or_read}
use Rattle.flow_order.proofs.ShownSteps.{is_shown_word}
use Rattle.flow_order.proofs.bits.Bits.shown_word.Goals as goal

pub returns : goal.returns
returns c =
    let word = c.args.last / 64 in
    let one : c.args.last / 64 < length c.self.inside.words.items = (let l = ap length c.self.view_is in let r = c.requires.last in omega (arith, l, r)) in
    is_shown_word c.args.self.now c.args.hidden.now c.args.last c.index.result.now c.word_at.result c.shown_bits.result
    (get_or_read c.self.inside.words.items word c.index.result.now one c.index.ensures 0 ∙ ap (λ ws. slice_index ws word) c.self.view_is)
    c.word_at.ensures c.shown_bits.ensures
