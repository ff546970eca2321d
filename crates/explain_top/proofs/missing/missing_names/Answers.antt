use Rattle.graph_words.specs.Words.{pieces}
use Rattle.explain_top.proofs.MissingFacts.{settled_more}
use Rattle.explain_top.proofs.missing.missing_names.Goals as goal

pub loop-word-preserved : goal.loop-word-preserved
loop-word-preserved c none =
    settled_more (pieces 10 c.args.bytes.now) c.args.named.now c.loop-word.word-index _ c.loop-word-test.true (c.missing_name.ensures (c.most-missing.ensures.other none)) (c.loop-word.invariant (c.most-missing.ensures.one none))
