use Rattle.basics.specs.Words.{contents}
use Rattle.told_names.proofs.NamedFacts.{named_more}
use Rattle.told_names.proofs.naming.put_each_named.Goals as goal

pub loop-word-preserved : goal.loop-word-preserved
loop-word-preserved c =
    named_more (contents c.args.lines.now) c.args.text.now c.loop-word.text c.put_named.new.text c.args.words.now c.loop-word.word-index _ c.loop-word-test.true c.loop-word.invariant c.in_ok-put_named.ensures
