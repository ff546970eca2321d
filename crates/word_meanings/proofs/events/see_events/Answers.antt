use Rattle.graph_words.specs.Draft.{EventName, line_number}
use Rattle.graph_words.proofs.Public.{numbers_more}
use Rattle.word_meanings.proofs.SeenWords.{same_tell_more}
use Rattle.word_meanings.proofs.events.see_events.Goals as goal

pub loop-word-preserved : goal.loop-word-preserved
loop-word-preserved c =
    let seen = c.see_event-seen.ensures in
    let more = c.with-faults.ensures in
    record {
      lines = numbers_more (line_number c.args.graph.now) c.args.words.now c.loop-word.word-index _ c.see_event-seen.result.number _ _ c.loop-word-test.true seen.number c.loop-word.invariant.lines c.in_ok-push.ensures.ok;
      faults = same_tell_more c.args.graph.now EventName c.args.words.now c.loop-word.word-index _ c.loop-word.faults c.with-faults.result c.see_event-seen.result c.loop-word-test.true c.loop-word.invariant.faults seen more.misnamed more.twice more.unknown more.unlike more.misnumbered;
    }
