use Rattle.std.proofs.Common.{◌-◌, ◌/◌, sym, ◌∙◌, ap}
use Rattle.std.specs.Prelude.{slice_index}
use Rattle.flow_order.proofs.BitSteps.{word_full}
use Rattle.flow_order.proofs.RowSteps.{kept_full, kept_word}
use Rattle.flow_order.proofs.row.Row.parts.Goals as goal

pub returns-clause-full : goal.returns-clause-full
returns-clause-full c = λ j h. word_full c.args.self.now j (ap (λ ws. slice_index ws (j / 64)) (sym c.self.view_is) ∙ kept_full c.self.inside.full c.self.inside.words.items c.self.inside.size (j / 64) h)

pub returns-clause-words : goal.returns-clause-words
returns-clause-words c = λ w h. ap (λ ws. slice_index ws w) (sym c.self.view_is) ∙ kept_word c.self.inside.full c.self.inside.words.items c.self.inside.size w h ∙ ap (λ ws. slice_index ws (w - c.self.inside.full)) (sym c.as_slice.ensures.value)
