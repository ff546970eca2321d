use Rattle.std.proofs.Common.{◌++◌, ◌∙◌, ap}
use Rattle.std.specs.Prelude.{flat_map}
use Rattle.std.proofs.lemmas.List.{take_all}
use Rattle.basics.specs.Words.{contents}
use Rattle.explain_text.specs.Unread.{blank_word}
use Rattle.explain_text.proofs.TextFacts.{blanks_more}
use Rattle.explain_text.proofs.unread.put_blanks.Goals as goal

pub loop-word-preserved : goal.loop-word-preserved
loop-word-preserved c =
    blanks_more c.args.words.now c.loop-word.word-index _ c.args.text.now c.loop-word.text c.put_below.new.self c.put.new.self c.loop-word-test.true c.loop-word.invariant c.in_ok-put_below.ensures c.in_ok-put.ensures

pub returns : goal.returns
returns c = c.loop-word.invariant ∙ ap (λ ws. c.args.text.now ++ flat_map blank_word (contents ws)) (take_all c.loop-word.word-index c.args.words.now c.loop-word-test.false)
