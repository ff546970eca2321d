use Rattle.realm_io.proofs.Public.{writes_as}
use Rattle.graph_writer.proofs.WrittenLists.{three_words}
use Rattle.graph_writer.proofs.calls.put_access.Goals as goal

pub returns : goal.returns
returns g c = writes_as _ _ _ _ c.put_spaced.result (three_words _ _ _ _ _ _ c.mode_word.ensures c.data_word.ensures c.space_word.ensures) c.put_spaced.ensures
