use Rattle.realm_io.proofs.Public.{then_writes, writes_as}
use Rattle.basics.specs.Words.{contents}
use Rattle.graph_writer.specs.WrittenWords.{spaced}
use Rattle.graph_writer.proofs.WrittenLists.{row_text}
use Rattle.graph_writer.proofs.writer.put_placed.Goals as goal

pub returns : goal.returns
returns g c = writes_as _ _ _ _ c.put_places.result (row_text c.args.graph.now c.args.verb.now c.in-Some.kind c.parts.result (contents c.words.result.now) c.places.result.now c.in-Some.ensures c.words.ensures c.places.ensures c.parts.ensures)
    (then_writes _ _ _ (spaced (contents c.words.result.now)) _ c.put_places.result c.in_ok-put_fixed.ensures c.put_places.ensures)
