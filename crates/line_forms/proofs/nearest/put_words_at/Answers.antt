use Rattle.basics.specs.Words.{contents}
use Rattle.std.proofs.Common.{◌++◌, ◌∙◌, ap}
use Rattle.std.proofs.lemmas.List.{take_all}
use Rattle.std.specs.Prelude.{◌==◌}
use Rattle.line_forms.specs.Words.{distance, words_at}
use Rattle.line_forms.proofs.Near.{filtered_more}
use Rattle.line_forms.proofs.nearest.put_words_at.Goals as goal

pub loop-other-preserved : goal.loop-other-preserved
loop-other-preserved c =
    filtered_more (λ v. distance v c.args.word.now == c.args.away) c.args.words.now c.loop-other.other-index _ (contents c.args.found.now.items) (contents c.loop-other.found.items) (contents c.put_word_at.new.found.items) c.loop-other-test.true c.loop-other.invariant c.in_ok-put_word_at.ensures

pub returns : goal.returns
returns c = c.loop-other.invariant ∙ ap (λ ws. contents c.args.found.now.items ++ words_at c.args.away c.args.word.now (contents ws)) (take_all c.loop-other.other-index c.args.words.now c.loop-other-test.false)
