use Rattle.std.proofs.Common.{◌++◌}
use Rattle.basics.specs.Words.{contents}
use Rattle.graph_words.specs.Calls.{access_words}
use Rattle.graph_words.specs.Draft.{values_placed, accesses_placed, events_placed}
use Rattle.graph_reader.specs.Calls.{word_placed}
use Rattle.word_meanings.proofs.Public.{all_tell_both}
use Rattle.graph_reader.proofs.calls.see_call.Goals as goal

pub returns-clause-faults : goal.returns-clause-faults
returns-clause-faults c =
    let g = c.args.graph.now in
    let values = values_placed (contents c.args.words.now.values.now) in
    let accesses = accesses_placed (access_words (contents c.args.words.now.accesses.now)) in
    let events = events_placed (contents c.args.words.now.events.now) in
    let inner = c.with.ensures in
    let more = c.with-behind.ensures in
    let all = c.with-2.ensures in
    all_tell_both g (word_placed c.args.words.now.word.now) (values ++ (accesses ++ events)) c.see_spelling-spelling.result c.with-behind.result c.with-2.result c.see_spelling-spelling.ensures
    (all_tell_both g values (accesses ++ events) c.in_ok-values.of_values c.with.result c.with-behind.result c.in_ok-values.ensures.faults
    (all_tell_both g accesses events c.in_ok-accesses.of_accesses c.in_ok-on.of_events c.with.result c.in_ok-accesses.ensures.faults c.in_ok-on.ensures.faults inner.misnamed inner.twice inner.unknown inner.unlike inner.misnumbered)
    more.misnamed more.twice more.unknown more.unlike more.misnumbered)
    all.misnamed all.twice all.unknown all.unlike all.misnumbered
