use Rattle.std.proofs.Common.{◌++◌, ◌∙◌, ap}
use Rattle.std.specs.Prelude.{flat_map, codes}
use Rattle.std.proofs.lemmas.List.{take_all}
use Rattle.basics.specs.Words.{contents}
use Rattle.line_forms.specs.Hint.{behind_space}
use Rattle.line_forms.proofs.Parts.{then_put, word_more}
use Rattle.line_forms.proofs.hint.put_behind.Goals as goal

pub loop-word-preserved : goal.loop-word-preserved
loop-word-preserved c =
    word_more behind_space c.args.words.now c.loop-word.word-index _ c.args.out.now.items c.loop-word.out.items c.put-in-loop-word.new.out.items c.loop-word-test.true c.loop-word.invariant
    (then_put c.loop-word.out.items c.put.new.out.items c.put-in-loop-word.new.out.items _ (codes " ") c.in_ok-put.ensures c.in_ok-put-2.ensures)

pub returns : goal.returns
returns c = c.loop-word.invariant ∙ ap (λ ws. c.args.out.now.items ++ flat_map behind_space (contents ws)) (take_all c.loop-word.word-index c.args.words.now c.loop-word-test.false)
