use Rattle.std.proofs.Common.{get_or, refl}
use Rattle.graph_words.specs.Draft.{EventName, line_number}
use Rattle.graph_words.proofs.Public.{numbers_more}
use Rattle.word_meanings.specs.Telling.{no_faults}
use Rattle.word_meanings.proofs.SeenWords.{same_tell_more}
use Rattle.word_meanings.proofs.KnownWords.{event_tells, event_at}
use Rattle.word_meanings.proofs.known.known_events.Goals as goal

pub loop-word-preserved : goal.loop-word-preserved
loop-word-preserved c =
    let tells = event_tells c.args.graph.now (get_or c.args.words.now c.loop-word.word-index _).now c.in-Some.number c.decls.ensures.is_graph c.in-Some.ensures.line in
    record {
      lines = numbers_more (line_number c.args.graph.now) c.args.words.now c.loop-word.word-index _ c.in-Some.number _ _ c.loop-word-test.true tells.number c.loop-word.invariant.lines c.in_ok-push.ensures.ok;
      faults = same_tell_more c.args.graph.now EventName c.args.words.now c.loop-word.word-index _ no_faults no_faults (record { faults = no_faults; number = c.in-Some.number; value = 0 }) c.loop-word-test.true c.loop-word.invariant.faults tells refl refl refl refl refl;
    }

pub returns-in_default : goal.returns-in_default
returns-in_default c = event_at c.args.graph.now c.args.words.now c.loop-word.word-index _ c.loop-word-test.true c.in_default.ensures.line
