use Rattle.std.proofs.Common.{[], ◌∷◌}
use Rattle.graph_words.specs.Draft.{DataColumn, SpaceName}
use Rattle.word_meanings.proofs.Public.{all_tell_one, all_tell_both}
use Rattle.graph_reader.proofs.calls.see_access.Goals as goal

pub returns-clause-faults : goal.returns-clause-faults
returns-clause-faults c =
    let more = c.with.ensures in
    all_tell_both c.args.graph.now ((DataColumn, c.args.column.now) ∷ []) ((SpaceName, c.args.space.now) ∷ []) c.see_column-column.result.faults c.see-space.result.faults c.with.result
    (all_tell_one c.args.graph.now DataColumn c.args.column.now c.see_column-column.result c.see_column-column.ensures)
    (all_tell_one c.args.graph.now SpaceName c.args.space.now c.see-space.result c.see-space.ensures)
    more.misnamed more.twice more.unknown more.unlike more.misnumbered
