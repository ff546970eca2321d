use Rattle.std.specs.Prelude.{unwrap_or}
use Rattle.graph_words.specs.Words.{value_of}
use Rattle.graph_words.specs.Draft.{Value}
use Rattle.graph_words.proofs.Public.{numbers_more}
use Rattle.word_meanings.proofs.Public.{same_tell_more}
use Rattle.graph_reader.proofs.calls.see_values.Goals as goal

pub loop-word-preserved : goal.loop-word-preserved
loop-word-preserved c =
    let seen = c.see-seen.ensures in
    let more = c.with-faults.ensures in
    record {
      values = numbers_more (λ w. unwrap_or (value_of w) 0) c.args.words.now c.loop-word.word-index _ c.see-seen.result.value _ _ c.loop-word-test.true seen.value c.loop-word.invariant.values c.in_ok-push.ensures.ok;
      faults = same_tell_more c.args.graph.now Value c.args.words.now c.loop-word.word-index _ c.loop-word.faults c.with-faults.result c.see-seen.result c.loop-word-test.true c.loop-word.invariant.faults seen more.misnamed more.twice more.unknown more.unlike more.misnumbered;
    }
